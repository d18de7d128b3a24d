-- The whole answer to the bytes of an expression and a lent buffer: the first pass, the second, then the room. It determines the
-- answer of `type_expression` and every byte of the buffer afterwards (`buffer_after`).
use Rattle.std.specs.Prelude.{Bool, List, [], ◌∷◌, ℕ, length}
use Rattle.scalars.specs.Paper as paper
use Rattle.scalars.specs.Paper.{Paper}
use Rattle.types.specs.Operand.{mark_of}
use Rattle.types.specs.declared.operand.Operand.{Operand}
use Rattle.rules.specs.Signature.{Signature}
use Rattle.functions.specs.Functions.{function_count, listing_of}
use Rattle.expressions.specs.Reading.{Expression, read, refused_as, expression_of}
use Rattle.machine.specs.Line.{encode}
use Rattle.scalars.specs.declared.refusal.Refusal.{Refusal}
use Rattle.std.specs.declared.result.Result.{Result}
use Rattle.worksheet.specs.declared.typer.Typed as answer
use Rattle.worksheet.specs.Typer.{Typed, typed, refused, type_of}
use Rattle.worksheet.specs.Answer.{with_room}

-- a fault of the first pass is the answer; a tree that was read is typed, from offset 0 on
abbrev pub after_reading : (ℕ → List Signature) → Bool → List ℕ → Expression → Typed Operand
after_reading listing switch buffer (read e) = with_room buffer (type_of listing switch e 0)
after_reading listing switch buffer (refused_as number place) = refused number place

-- with so many functions, of these listings
unfoldable pub typing_of : ℕ → (ℕ → List Signature) → Bool → List ℕ → List ℕ → Typed Operand
typing_of functions listing switch s buffer = after_reading listing switch buffer (expression_of functions s)

-- with the functions of the crate `functions`
abbrev pub typing : Bool → List ℕ → List ℕ → Typed Operand
typing switch s buffer = typing_of function_count listing_of switch s buffer

-- the paper's number and place, the type, the mark, and the worksheet's length in bytes, none of them in use for what is refused: of a typing,
-- whose lines stand in the buffer, and of each case of the answer
abbrev pub no_type : List ℕ
no_type = paper.unused ∷ paper.unused ∷ paper.unused ∷ []

abbrev pub type_values : Operand → ℕ → List ℕ
type_values o n = o.code ∷ mark_of o.measured ∷ n ∷ []

abbrev pub answer_of : Typed Operand → Paper
answer_of (typed o ls) = paper.accepted (type_values o (length (encode ls)))
answer_of (refused number place) = paper.refusal number place no_type

abbrev pub type_paper : Result answer.Typed Refusal → Paper
type_paper = paper.answer_paper (λ (t : answer.Typed). type_values t.result t.len) no_type
