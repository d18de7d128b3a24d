-- The paper's numbers determine what `read_expression` answers: two answers with the same number, place and value are equal. Assumes nothing.
use mathlib.Core.Path.{◌≡◌, refl}
use mathlib.Core.List.{[], ◌∷◌}
use Prim.Native.Nat.{ℕ}
use lib.ListN.{get_or}
use Rattle.std.specs.Prelude.{Result}
use Rattle.scalars.specs.Paper.{unused}
use Rattle.scalars.specs.declared.refusal.Refusal.{Refusal}
use Rattle.scalars.proofs.Papers.{answer-one}
use Rattle.expressions.specs.ReadPaper.{read_paper}

pub read_one : (a b : Result ℕ Refusal) → read_paper a ≡ read_paper b → a ≡ b
read_one = answer-one (λ n. n ∷ []) (unused ∷ []) (λ vs. get_or vs 0 0) (λ n. refl)
