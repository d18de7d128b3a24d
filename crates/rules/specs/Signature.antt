-- 'List': what a rule says, apart from how a record holds it, and which operand it takes at an index. Document 02's (iv): the argument
-- step is two, one by shape and one by number type.
use Rattle.std.specs.Prelude.{Bool, false, not, List, [], ◌∷◌, ℕ, zero, suc, eqb, get_or}
use Rattle.scalars.specs.Paper.{unused}
use Rattle.scalars.specs.Mask.{both, every}
use Rattle.scalars.specs.Domain.{converts}
use Rattle.types.specs.Domain.{value?, constructor_part, scalar_part, is_abstract}
use Rattle.rules.specs.declared.rule.Part.{Part}
use Rattle.rules.specs.declared.rule.Part.TheVariants.{Shape, Number}

-- a rule's meaning: the types of its arguments, and its result
pub record Signature : Type 0 where
  pub arguments : List ℕ
  pub result : ℕ

-- the type at an argument; `unused` where there is none
abbrev pub type_at : ℕ → Signature → ℕ
type_at i r = get_or r.arguments i unused

-- the operand's constructor is the argument's; codes from 156 on have none
abbrev pub same_shape : ℕ → ℕ → Bool
same_shape t a = both (value? t) (eqb (constructor_part t) (constructor_part a))

-- the operand's scalar converts to the argument's; codes from 156 on have none
abbrev pub same_number : ℕ → ℕ → Bool
same_number t a = both (both (value? t) (value? a)) (converts (scalar_part t) (scalar_part a))

-- a type equals an argument's, or is reached by converting its scalar under the same constructor; a scalar converts to itself
unfoldable pub reaches : ℕ → ℕ → Bool
reaches t a = both (same_shape t a) (same_number t a)

-- an operand's type fits an argument's by one of its two parts
abbrev pub fits_by : Part → ℕ → ℕ → Bool
fits_by Shape t a = same_shape t a
fits_by Number t a = same_number t a

-- the argument at an index passes a test; a rule without that index passes none
abbrev pub argument_passes : (ℕ → Bool) → ℕ → List ℕ → Bool
argument_passes p i [] = false
argument_passes p zero (a ∷ az) = p a
argument_passes p (suc i) (a ∷ az) = argument_passes p i az

-- an argument step's test: the rule has that index, and its type there fits the operand's by this part
abbrev pub fits : Part → ℕ → ℕ → Signature → Bool
fits part i t r = argument_passes (fits_by part t) i r.arguments

-- document 01's single test, which the two steps of an argument make together
abbrev pub takes : ℕ → ℕ → Signature → Bool
takes i t r = argument_passes (reaches t) i r.arguments

-- the concrete-only step's test: no argument is abstract
abbrev pub concrete : Signature → Bool
concrete r = every (λ a. not (is_abstract a)) r.arguments
