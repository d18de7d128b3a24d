-- What `arg` answers by both parts of an operand is what the single step leaves, as specs/BothSteps.antt states it: for any kind of set by
-- what steps in turn leave, and that the two steps are the single one. Assumes nothing.
use mathlib.Core.Path.{◌≡◌, refl, ap, ◌∙◌}
use mathlib.Core.Bool.{Bool, true, false}
use mathlib.Core.List as L
use Prim.Native.Nat.{ℕ}
use Rattle.scalars.specs.Mask.{choose}
use Rattle.scalars.specs.declared.refusal.Refusal.TheVariants.{Unknown}
use Rattle.types.specs.Domain.{known?}
use Rattle.rules.specs.Signature.{Signature}
use Rattle.rules.specs.declared.rule.Part.{Part}
use Rattle.rules.specs.declared.rule.Part.TheVariants.{Shape, Number}
use Rattle.rules.specs.declared.rule.Keep.{Keep}
use Rattle.rules.specs.declared.rule.Keep.TheVariants.{Argument}
use Rattle.regular.specs.Regular.{regular_rules}
use Rattle.lists.specs.List.{listing, kept}
use Rattle.regular.proofs.Regulars.{accepted_verdict}
use Rattle.lists.proofs.Verdicts.{accepted-few, accepted-within}
use Rattle.theorems.specs.Operations.{Set, regular, list, set, refused}
use Rattle.theorems.specs.Steps.{step_regular, single_regular, single_list, Pairs}
use Rattle.theorems.specs.BothSteps.{other, both_steps, of_type, Theorem}
use Rattle.theorems.proofs.Steps.{steps}
use Rattle.theorems.proofs.Operations.{leaves, regular-left, list_left}

module _ {S : Type 0} (kind : S → Set) (listed : S → L.List Signature) (next : Keep → S → S) (single : ℕ → ℕ → S → S) (pairs : Pairs listed next single) where
  -- in either order
  pair : (first : Part) (i t : ℕ) (x : S) → next (Argument (other first) i t) (next (Argument first i t) x) ≡ single i t x
  pair Shape i t x = pairs.shape_first i t x
  pair Number i t x = pairs.number_first i t x

  both_left : (first : Part) (i t : ℕ) (x : S) → leaves kind next (both_steps first i t) x ≡ of_type t (kind (single i t x))
  both_left first i t x = go (known? t) ∙ ap (λ (y : S). of_type t (kind y)) (pair first i t x)
    where
      y : S
      y = next (Argument (other first) i t) (next (Argument first i t) x)

      go : (b : Bool) → choose b (choose b (set (kind y)) (refused (Unknown 0))) (refused (Unknown 0)) ≡ choose b (set (kind y)) (refused (Unknown 0))
      go true = refl
      go false = refl

pub both_steps_lem : Theorem
both_steps_lem = record {
  regulars = λ first i t r ok a turn.
      regular-left (both_steps first i t) r (accepted_verdict r ok) a turn
      ∙ both_left regular regular_rules step_regular single_regular steps.regular_pairs first i t r;
  lists = λ first i t l ok clean a turn.
      list_left (both_steps first i t) l record { valid = record { few = accepted-few l ok; within = accepted-within l ok; clean = clean }; accepted = ok } a turn
      ∙ both_left list listing kept single_list steps.list_pairs first i t l;
}
