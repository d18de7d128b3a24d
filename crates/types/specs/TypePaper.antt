-- The paper's number, place and values for the answers about constructors, type codes, combinations and consensus.
use Rattle.std.specs.Prelude.{List, [], ◌∷◌, ℕ, Option, Some, None, Result}
use Rattle.scalars.specs.Paper.{Paper, answer_paper, unused}
use Rattle.scalars.specs.declared.refusal.Refusal.{Refusal}
use Rattle.scalars.specs.declared.scalar_set.Scalar.{Scalar}
use Rattle.types.specs.declared.constructor_set.Constructor.{Constructor}
use Rattle.types.specs.declared.constructor_set.ConstructorSize.{ConstructorSize}
use Rattle.types.specs.declared.constructor_set.ConstructorSize.TheVariants as size
use Rattle.types.specs.declared.conversion.Side.{Side}
use Rattle.types.specs.declared.conversion.Side.TheVariants as side
use Rattle.types.specs.declared.conversion.Consensus.{Consensus}

-- ---- one value: a constructor, a type code

abbrev pub constructor_paper : Result Constructor Refusal → Paper
constructor_paper = answer_paper (λ (k : Constructor). k.0 ∷ []) (unused ∷ [])

abbrev pub code_paper : Result ℕ Refusal → Paper
code_paper = answer_paper (λ (t : ℕ). t ∷ []) (unused ∷ [])

-- ---- a scalar, or none, which has no value

abbrev pub leaf_values : Option Scalar → List ℕ
leaf_values (Some s) = s.0 ∷ []
leaf_values None = []

abbrev pub leaf_paper : Result (Option Scalar) Refusal → Paper
leaf_paper = answer_paper leaf_values (unused ∷ [])

-- ---- a scalar, and who gave it

-- of two scalars: the left is 0, the right 1
abbrev pub left : ℕ
left = 0

abbrev pub right : ℕ
right = 1

abbrev pub side_number : Side → ℕ
side_number side.Left = left
side_number side.Right = right

-- nothing has no value
abbrev pub combination_values : Option (Scalar × Side) → List ℕ
combination_values (Some (s, by)) = s.0 ∷ side_number by ∷ []
combination_values None = []

abbrev pub combination_paper : Result (Option (Scalar × Side)) Refusal → Paper
combination_paper = answer_paper combination_values (unused ∷ unused ∷ [])

-- of a consensus: the base is 0, and has no number; a component is 1, with its number
abbrev pub by_base : List ℕ
by_base = 0 ∷ unused ∷ []

abbrev pub by_component : ℕ → List ℕ
by_component k = 1 ∷ k ∷ []

abbrev pub giver_values : Option ℕ → List ℕ
giver_values (Some k) = by_component k
giver_values None = by_base

-- what stands for scalar and giver in a refusal
abbrev pub no_consensus : List ℕ
no_consensus = unused ∷ unused ∷ unused ∷ []

abbrev pub consensus_paper : Result Consensus Refusal → Paper
consensus_paper = answer_paper (λ (c : Consensus). c.scalar.0 ∷ giver_values c.component) no_consensus

-- ---- a kind by its number, then its parts

abbrev pub size_values : ConstructorSize → List ℕ
size_values size.Scalar = 0 ∷ unused ∷ unused ∷ []
size_values (size.Vector n) = 1 ∷ n ∷ unused ∷ []
size_values (size.Matrix c r) = 2 ∷ c ∷ r ∷ []

abbrev pub size_paper : Result ConstructorSize Refusal → Paper
size_paper = answer_paper size_values (unused ∷ unused ∷ unused ∷ [])
