-- The paper's numbers determine the survivors of a call: two answers with the same number, place and value are equal. Assumes nothing.
use mathlib.Core.Path.{◌≡◌, refl}
use mathlib.Core.List.{[], ◌∷◌}
use lib.ListN.{get_or}
use Rattle.std.specs.Prelude.{Result}
use Rattle.scalars.specs.declared.refusal.Refusal.{Refusal}
use Rattle.lists.specs.declared.walks.RuleSet.{RuleSet}
use Rattle.scalars.proofs.Papers.{answer-one}
use Rattle.calls.specs.SurvivorsPaper.{survivors_paper}

pub survivors-one : (a b : Result RuleSet Refusal) → survivors_paper a ≡ survivors_paper b → a ≡ b
survivors-one = answer-one (λ m. m.0 ∷ []) (0 ∷ []) (λ vs. record { 0 = get_or vs 0 0 }) (λ m. refl)
