-- The paper's numbers determine each answer about constructors, type codes, combinations and consensus: two answers of one kind with the
-- same number, place and values are equal. Shown by a function that reads an answer's values back. Assumes nothing.
use mathlib.Core.Path.{◌≡◌, refl, ap}
use mathlib.Core.List.{List, [], ◌∷◌}
use Prim.Native.Nat.{ℕ}
use lib.Dec.{eqb}
use lib.ListN.{get_or, drop}
use Rattle.std.specs.Prelude.{Option, Some, None, Result}
use Rattle.scalars.specs.Paper.{unused}
use Rattle.scalars.specs.Mask.{choose}
use Rattle.scalars.specs.declared.refusal.Refusal.{Refusal}
use Rattle.scalars.specs.declared.scalar_set.Scalar.{Scalar}
use Rattle.types.specs.declared.constructor_set.Constructor.{Constructor}
use Rattle.types.specs.declared.constructor_set.ConstructorSize.{ConstructorSize}
use Rattle.types.specs.declared.conversion.Side.{Side}
use Rattle.types.specs.declared.conversion.Side.TheVariants as side
use Rattle.types.specs.declared.conversion.Consensus.{Consensus}
use Rattle.types.specs.TypePaper.{constructor_paper, code_paper, leaf_values, leaf_paper, left, side_number, combination_values, combination_paper, giver_values, no_consensus, consensus_paper, size_values, size_paper}
use Rattle.types.proofs.Sizes.{size_named, size_named_lem}
use Rattle.scalars.proofs.Papers.{answer-one}

pub constructor-one : (a b : Result Constructor Refusal) → constructor_paper a ≡ constructor_paper b → a ≡ b
constructor-one = answer-one (λ (k : Constructor). k.0 ∷ []) (unused ∷ []) (λ vs. record { 0 = get_or vs 0 0 }) (λ k. refl)

pub code_one : (a b : Result ℕ Refusal) → code_paper a ≡ code_paper b → a ≡ b
code_one = answer-one (λ (t : ℕ). t ∷ []) (unused ∷ []) (λ vs. get_or vs 0 0) (λ t. refl)

pub size-one : (a b : Result ConstructorSize Refusal) → size_paper a ≡ size_paper b → a ≡ b
size-one = answer-one size_values (unused ∷ unused ∷ unused ∷ []) size_named size_named_lem

-- ---- a scalar or none

abbrev leaf_in : List ℕ → Option Scalar
leaf_in [] = None
leaf_in (s ∷ vs) = Some (record { 0 = s })

leaf-back : (x : Option Scalar) → leaf_in (leaf_values x) ≡ x
leaf-back (Some s) = refl
leaf-back None = refl

pub leaf-one : (a b : Result (Option Scalar) Refusal) → leaf_paper a ≡ leaf_paper b → a ≡ b
leaf-one = answer-one leaf_values (unused ∷ []) leaf_in leaf-back

-- ---- a scalar and who gave it

abbrev side_of : ℕ → Side
side_of n = choose (eqb n left) side.Left side.Right

side-back : (x : Side) → side_of (side_number x) ≡ x
side-back side.Left = refl
side-back side.Right = refl

abbrev combination_in : List ℕ → Option (Scalar × Side)
combination_in [] = None
combination_in (s ∷ vs) = Some (record { 0 = s }, side_of (get_or vs 0 0))

combination-back : (x : Option (Scalar × Side)) → combination_in (combination_values x) ≡ x
combination-back (Some (s, by)) = ap (λ (w : Side). Some (s, w)) (side-back by)
combination-back None = refl

pub combination-one : (a b : Result (Option (Scalar × Side)) Refusal) → combination_paper a ≡ combination_paper b → a ≡ b
combination-one = answer-one combination_values (unused ∷ unused ∷ []) combination_in combination-back

-- its kind by number, then the component's number
abbrev giver_from : List ℕ → Option ℕ
giver_from vs = choose (eqb (get_or vs 0 0) 0) None (Some (get_or vs 1 0))

giver_back : (x : Option ℕ) → giver_from (giver_values x) ≡ x
giver_back (Some k) = refl
giver_back None = refl

abbrev consensus_in : List ℕ → Consensus
consensus_in vs = record { scalar = record { 0 = get_or vs 0 0 }; component = giver_from (drop 1 vs) }

consensus-back : (x : Consensus) → consensus_in (x.scalar.0 ∷ giver_values x.component) ≡ x
consensus-back x = ap (λ (g : Option ℕ). record { scalar = x.scalar; component = g }) (giver_back x.component)

pub consensus-one : (a b : Result Consensus Refusal) → consensus_paper a ≡ consensus_paper b → a ≡ b
consensus-one = answer-one (λ (x : Consensus). x.scalar.0 ∷ giver_values x.component) no_consensus consensus_in consensus-back
