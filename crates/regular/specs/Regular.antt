-- 'Regular': two masks for up to 156 rules, listed by constructor and within one by scalar; all arguments of a rule have one type.
use Rattle.std.specs.Prelude.{Bool, true, false, not, List, [], ◌∷◌, ◌++◌, map, ℕ, ◌^◌, eqb, leb, ltb, get_or, replicate}
use Rattle.std.specs.Int.Bits.{bit_and}
use Rattle.scalars.specs.Mask.{choose, both, either, every, bits}
use Rattle.scalars.specs.Domain.{abstract?, scalar_count, i32, u32, f32}
use Rattle.types.specs.Domain.{value?, known?, constructor_part, scalar_part, constructor_count, scalar, vec2, vec4}
use Rattle.scalars.specs.Paper.{Paper, accepted, refusal, value, when_accepted, unused}
use Rattle.rules.specs.RulePaper.{rule_values, no_rule}
use Rattle.regular.specs.SetPaper.{regular_values, no_set}
use Rattle.rules.specs.Signature.{Signature}
use Rattle.scalars.specs.Scalar.{convertible_from, scalars_that}
use Rattle.types.specs.Constructor.{singleton_of_code}
use Rattle.types.specs.TypeCode.{type_code, predeclared_code, first_modf, first_frexp}
use Rattle.rules.specs.Rule.{most_arguments, rule_of}
use Rattle.rules.specs.Listing.{accepted_listing, no_listing, accepted_types, no_types}
use Rattle.rules.specs.Verdict.{on_verdict, empty_of, count_of}
use Rattle.rules.specs.declared.rule.Part.{Part}
use Rattle.rules.specs.declared.rule.Part.TheVariants.{Shape, Number}
use Rattle.regular.specs.declared.regular.ConclusionRule.{ConclusionRule}
use Rattle.regular.specs.declared.regular.ConclusionRule.TheVariants.{ArgumentType, Scalar, Frexp, Modf, U32, I32, Vec2F, Vec4F, Vec4I, Vec4U}
use Rattle.regular.specs.declared.regular.Regular.{Regular}

-- the argument types: each constructor in turn, over each scalar in turn
abbrev pub pairs : List ℕ → List ℕ → List ℕ
pairs [] ss = []
pairs (k ∷ ks) ss = map (type_code k) ss ++ pairs ks ss

unfoldable pub codes_of : Regular → List ℕ
codes_of r = pairs (bits constructor_count r.constructors.0) (bits scalar_count r.scalars.0)

-- the ten conclusions; 13 where Frexp and Modf have no result
unfoldable pub concluded_of : ConclusionRule → ℕ → Paper
concluded_of ArgumentType t = accepted (t ∷ [])
concluded_of Scalar t = accepted (scalar_part t ∷ [])
concluded_of Frexp t = predeclared_code first_frexp (constructor_part t) (scalar_part t)
concluded_of Modf t = predeclared_code first_modf (constructor_part t) (scalar_part t)
concluded_of U32 t = accepted (type_code scalar u32 ∷ [])
concluded_of I32 t = accepted (type_code scalar i32 ∷ [])
concluded_of Vec2F t = accepted (type_code vec2 f32 ∷ [])
concluded_of Vec4F t = accepted (type_code vec4 f32 ∷ [])
concluded_of Vec4I t = accepted (type_code vec4 i32 ∷ [])
concluded_of Vec4U t = accepted (type_code vec4 u32 ∷ [])

abbrev pub concluded? : Paper → Bool
concluded? (accepted vs) = true
concluded? (refusal n p vs) = false

-- the rule of an argument type, and the listing of all; a rule without a conclusion has the result `unused`
abbrev pub signature_for : Regular → ℕ → Signature
signature_for r t = record { arguments = replicate r.arity t; result = value 0 (concluded_of r.conclude t) }

unfoldable pub regular_rules : Regular → List Signature
regular_rules r = map (signature_for r) (codes_of r)

abbrev pub rule_from : ℕ → ℕ → Paper → Paper
rule_from n t p = when_accepted p (λ vs. accepted (rule_values (rule_of (record { arguments = replicate n t; result = get_or vs 0 unused })))) no_rule

unfoldable pub rule_for : Regular → ℕ → Paper
rule_for r t = rule_from r.arity t (concluded_of r.conclude t)

-- an unknown bit is refusal 7, then more than four arguments 3
unfoldable pub regular_verdict : Regular → Paper
regular_verdict r =
    choose (both (ltb r.constructors.0 (2 ^ constructor_count)) (ltb r.scalars.0 (2 ^ scalar_count)))
    (choose (leb r.arity most_arguments) (accepted []) (refusal 3 0 []))
    (refusal 7 0 [])

-- the set itself, where it is accepted
unfoldable pub checked_regular : Regular → Paper
checked_regular r = on_verdict (regular_verdict r) (accepted (regular_values r)) no_set

-- the rule of a constructor and a scalar by itself: 7 at 0 or at 1 where one is unknown, then the set's own refusal
unfoldable pub regular_rule : ℕ → ℕ → Regular → Paper
regular_rule k s r =
    choose (ltb k constructor_count)
    (choose (ltb s scalar_count) (on_verdict (regular_verdict r) (rule_for r (type_code k s)) no_rule) (refusal 7 1 no_rule))
    (refusal 7 0 no_rule)

unfoldable pub regular_empty : Regular → Paper
regular_empty r = on_verdict (regular_verdict r) (empty_of (regular_rules r)) (unused ∷ [])

unfoldable pub regular_count : Regular → Paper
regular_count r = on_verdict (regular_verdict r) (count_of (regular_rules r)) (unused ∷ [])

-- a set by its parts: arity, masks of constructors and scalars, conclusion; and the set of no rules
abbrev pub regular_of : ℕ → ℕ → ℕ → ConclusionRule → Regular
regular_of n ks ss c = record { arity = n; constructors = record { 0 = ks }; scalars = record { 0 = ss }; conclude = c }

abbrev pub empty_regular : Regular
empty_regular = regular_of 0 0 0 ArgumentType

unfoldable pub empty_set? : Regular → Bool
empty_set? r = either (eqb r.constructors.0 0) (eqb r.scalars.0 0)

-- the scalars that a type's scalar converts to; codes from 156 on have none
unfoldable pub reached_scalars : ℕ → ℕ
reached_scalars t = choose (value? t) (convertible_from (scalar_part t)) 0

-- by its shape the argument keeps its own constructor, by its number the scalars it converts to
unfoldable pub narrowed : Part → ℕ → Regular → Regular
narrowed Shape t r = regular_of r.arity (bit_and r.constructors.0 (singleton_of_code t)) r.scalars.0 r.conclude
narrowed Number t r = regular_of r.arity r.constructors.0 (bit_and r.scalars.0 (reached_scalars t)) r.conclude

-- an index at or above the arity gives the set of no rules; an operand's type above 180 is refusal 7
unfoldable pub regular_arg : Part → ℕ → ℕ → Regular → Paper
regular_arg part i t r =
    choose (known? t)
    (on_verdict (regular_verdict r) (accepted (regular_values (choose (ltb i r.arity) (narrowed part t r) empty_regular))) no_set)
    (refusal 7 0 no_set)

unfoldable pub concrete_set : Regular → Regular
concrete_set r = regular_of r.arity r.constructors.0 (bit_and r.scalars.0 (scalars_that (λ k. not (abstract? k)))) r.conclude

unfoldable pub regular_concrete : Regular → Paper
regular_concrete r = on_verdict (regular_verdict r) (accepted (regular_values (concrete_set r))) no_set

-- the first rule, where one constructor is left: of no rules refusal 1, with several constructors 2
abbrev pub preferred_among : Regular → List ℕ → List ℕ → Paper
preferred_among r [] ss = refusal 1 0 no_rule
preferred_among r (k ∷ ks) [] = refusal 1 0 no_rule
preferred_among r (k ∷ []) (s ∷ ss) = rule_for r (type_code k s)
preferred_among r (k ∷ l ∷ ks) (s ∷ ss) = refusal 2 0 no_rule

unfoldable pub regular_preferred : Regular → Paper
regular_preferred r = on_verdict (regular_verdict r) (preferred_among r (bits constructor_count r.constructors.0) (bits scalar_count r.scalars.0)) no_rule

-- all rules in order; where one has no conclusion, refusal 13
unfoldable pub all_conclude : Regular → Bool
all_conclude r = every (λ t. concluded? (concluded_of r.conclude t)) (codes_of r)

unfoldable pub regular_listing : Regular → Paper
regular_listing r = on_verdict (regular_verdict r) (choose (all_conclude r) (accepted_listing (regular_rules r)) (refusal 13 0 no_listing)) no_listing

-- the types at an argument; none at or above the arity
unfoldable pub regular_allowed : ℕ → Regular → Paper
regular_allowed i r = on_verdict (regular_verdict r) (accepted_types (choose (ltb i r.arity) (codes_of r) [])) no_types
