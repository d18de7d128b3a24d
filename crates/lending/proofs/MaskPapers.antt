-- The paper's numbers determine an answer where a mask is asked for: two answers with the same number, place and value are equal.
-- Assumes nothing.
use mathlib.Core.Path.{◌≡◌, refl}
use mathlib.Core.List.{[], ◌∷◌}
use Prim.Native.Nat.{ℕ}
use lib.ListN.{get_or}
use Rattle.std.specs.Prelude.{Result}
use Rattle.scalars.specs.Paper.{unused}
use Rattle.scalars.specs.declared.refusal.Refusal.{Refusal}
use Rattle.scalars.proofs.Papers.{answer-one}
use Rattle.lending.specs.Masks.{mask_paper}

pub mask_one : (a b : Result ℕ Refusal) → mask_paper a ≡ mask_paper b → a ≡ b
mask_one = answer-one (λ m. m ∷ []) (unused ∷ []) (λ vs. get_or vs 0 0) (λ m. refl)
