-- Document 02, (i): '10 last, for either output buffer'. A tree that was read goes into a lent buffer, as its bytes or as its text.
use Rattle.std.specs.Prelude.{ℕ, List, [], ◌∷◌, ltb, length}
use Rattle.scalars.specs.Mask.{choose}
use Rattle.scalars.specs.Paper.{Paper, accepted, refusal, unused}
use Rattle.lending.specs.Bytes.{placed}
use Rattle.expressions.specs.Tree.{Tree}
use Rattle.expressions.specs.Reading.{Expression, read, refused_as}

-- so many bytes for a buffer of so many
abbrev pub made_answer : ℕ → ℕ → Paper
made_answer needed have = choose (ltb have needed) (refusal 10 needed (unused ∷ [])) (accepted (needed ∷ []))

-- the answer, where a tree's bytes or its text are wanted
abbrev pub lent_answer : (Tree → List ℕ) → Expression → ℕ → Paper
lent_answer wanted (read e) have = made_answer (length (wanted e)) have
lent_answer wanted (refused_as number place) have = refusal number place (unused ∷ [])

-- the buffer afterwards: on a refusal it keeps its contents
abbrev pub lent_buffer : (Tree → List ℕ) → Expression → List ℕ → List ℕ
lent_buffer wanted (read e) buffer = placed (wanted e) buffer
lent_buffer wanted (refused_as number place) buffer = buffer
