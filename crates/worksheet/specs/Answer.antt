-- The answer for a tree and a lent buffer: 'Room (10) comes last', and the buffer afterwards.
use Rattle.std.specs.Prelude.{List, ◌++◌, ℕ, leb, length, drop}
use Rattle.scalars.specs.Mask.{choose}
use Rattle.types.specs.declared.operand.Operand.{Operand}
use Rattle.machine.specs.Line.{encode}
use Rattle.worksheet.specs.Typer.{Typed, typed, refused, and_then}

-- a worksheet longer than the buffer is refused, at the bytes needed
abbrev pub with_room : List ℕ → Typed Operand → Typed Operand
with_room buffer x =
    and_then x (λ o ls. choose (leb (length (encode ls)) (length buffer)) (typed o ls) (refused 10 (length (encode ls))))

-- an accepted worksheet fills the front and the bytes behind it keep theirs; on a refusal the buffer keeps its contents
abbrev pub buffer_after : Typed Operand → List ℕ → List ℕ
buffer_after (typed o ls) buffer = encode ls ++ drop (length (encode ls)) buffer
buffer_after (refused number place) buffer = buffer
