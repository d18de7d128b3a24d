-- The paper's numbers determine an answer where bytes go into lent memory: two answers with the same number, place and value are equal.
-- Assumes nothing.
use mathlib.Core.Path.{◌≡◌}
use Prim.Native.Nat.{ℕ}
use Rattle.std.specs.Prelude.{Result}
use Rattle.scalars.specs.declared.refusal.Refusal.{Refusal}
use Rattle.scalars.proofs.Papers.{count-one}
use Rattle.text.specs.TextPaper.{text_paper}

pub text-one : (a b : Result ℕ Refusal) → text_paper a ≡ text_paper b → a ≡ b
text-one = count-one
