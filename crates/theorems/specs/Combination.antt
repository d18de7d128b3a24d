-- Demand 2, of the combination of two scalars. Take a left and a right one, and any answer that the contract of
-- `automatic_conversion_combine` permits.
--
-- * 7 at 0 exactly when the left is not one of the twelve; 7 at 1 exactly when the left is one, and the right is not.
-- Of two known scalars:
-- * The left one, given by the left side, exactly when the right converts to it: so also when both are equal.
-- * The right one, given by the right side, exactly when the left converts to it, and they are not equal.
-- * Nothing exactly when neither converts to the other.
use Rattle.std.specs.Prelude.{◌≡◌, ◌↔◌, true, false, [], ◌∷◌, ℕ, ◌≤◌, ◌<◌}
use Rattle.scalars.specs.Domain.{converts, scalar_count}
use Rattle.scalars.specs.Paper.{Paper, accepted, refusal, unused}
use Rattle.types.specs.TypePaper.{left, right, combination_paper}
use Rattle.types.specs.contracts as types
use Rattle.types.proofs as types_proofs
use Rattle.theorems.specs.ByContract.{Promises}

abbrev pub BothKnown : ℕ → ℕ → Type 0
BothKnown a b = (a < scalar_count) × (b < scalar_count)

pub record Answers (a b : ℕ) (p : Paper) : Type 0 where
  pub unknown_left : p ≡ refusal 7 0 (unused ∷ unused ∷ []) ↔ (scalar_count ≤ a)
  pub unknown_right : p ≡ refusal 7 1 (unused ∷ unused ∷ []) ↔ ((a < scalar_count) × (scalar_count ≤ b))
  pub by_left : (s : ℕ) → p ≡ accepted (s ∷ left ∷ []) ↔ (BothKnown a b × (s ≡ a) × (converts b a ≡ true))
  pub by_right : (s : ℕ) → p ≡ accepted (s ∷ right ∷ []) ↔ (BothKnown a b × (s ≡ b) × (converts a b ≡ true) × (a ≡ b → ⊥))
  pub nothing : p ≡ accepted [] ↔ (BothKnown a b × (converts a b ≡ false) × (converts b a ≡ false))

abbrev pub Theorem : Type 0
Theorem =
    Promises types.automatic_conversion_combine.ended types_proofs.automatic_conversion_combine.Reads.Post
    (λ κs a r s. Answers a.0.0 a.1.0.0 (combination_paper r))
