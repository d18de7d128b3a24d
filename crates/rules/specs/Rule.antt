-- A rule as a record of four argument codes, a count and a result. Its meaning is the list of its arguments and its result: fields
-- not in use are never read, and hold `unused` in answers.
use Rattle.std.specs.Prelude.{Bool, List, [], ◌∷◌, ℕ, leb, length, take, get_or}
use Rattle.scalars.specs.Mask.{choose, both, every}
use Rattle.types.specs.Domain.{value?, known?}
use Rattle.rules.specs.Signature.{Signature, type_at, fits, concrete}
use Rattle.types.specs.Constructor.{constructor_of}
use Rattle.types.specs.TypeCode.{predeclared_code, first_modf, first_frexp}
use Rattle.scalars.specs.Paper.{Paper, accepted, refusal, when_accepted, unused}
use Rattle.rules.specs.RulePaper.{rule_values, no_rule}
pub use Rattle.rules.specs.RulePaper.{blank_rule}
use Rattle.rules.specs.declared.rule.Rule.{Rule}
use Rattle.rules.specs.declared.rule.Keep.{Keep}
use Rattle.rules.specs.declared.rule.Keep.TheVariants.{Argument, Concrete}
use Rattle.rules.specs.declared.rule.Predeclared.{Predeclared}
use Rattle.rules.specs.declared.rule.Predeclared.TheVariants.{Frexp, Modf}
use Rattle.types.specs.declared.constructor_set.ConstructorSize.{ConstructorSize}

-- the most arguments of a rule
abbrev pub most_arguments : ℕ
most_arguments = 4

unfoldable pub arguments_of : Rule → List ℕ
arguments_of r = take r.count (r.a0 ∷ r.a1 ∷ r.a2 ∷ r.a3 ∷ [])

abbrev pub signature_of : Rule → Signature
signature_of r = record { arguments = arguments_of r; result = r.result }

-- the record of a rule, with `unused` in the fields not in use
unfoldable pub rule_of : Signature → Rule
rule_of s = record { a0 = type_at 0 s; a1 = type_at 1 s; a2 = type_at 2 s; a3 = type_at 3 s; count = length s.arguments; result = s.result }

-- the arguments are value types, and the result is a type
unfoldable pub known_rule : Rule → Bool
known_rule r = both (every value? (arguments_of r)) (known? r.result)

unfoldable pub short_rule : Rule → Bool
short_rule r = leb r.count most_arguments

-- an unknown code is refusal 7, then more than four arguments 3
unfoldable pub checked_rule : Rule → Paper
checked_rule r =
    choose (known_rule r)
    (choose (short_rule r) (accepted (rule_values (rule_of (signature_of r)))) (refusal 3 0 no_rule))
    (refusal 7 0 no_rule)

-- a step's test of a rule
abbrev pub passes : Keep → Signature → Bool
passes (Argument part i t) s = fits part i t s
passes Concrete s = concrete s

-- the result of Frexp or Modf
abbrev pub first_code : Predeclared → ℕ
first_code Modf = first_modf
first_code Frexp = first_frexp

unfoldable pub predeclared_of : Predeclared → ConstructorSize → ℕ → Paper
predeclared_of f z s = when_accepted (constructor_of z) (λ vs. predeclared_code (first_code f) (get_or vs 0 unused) s) (unused ∷ [])
