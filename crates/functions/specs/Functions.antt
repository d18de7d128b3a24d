-- The 79 functions of `mathfunction.rs`, in its order and by its words: each function's overload set, and the full listing of its rules.
use Rattle.std.specs.Prelude.{Bool, [], ◌∷◌, ◌++◌, ℕ, zero, suc, eqb, ltb, get_or, replicate}
use mathlib.Core.List as L
use Rattle.scalars.specs.Mask.{choose, either}
use Rattle.scalars.specs.Domain.{i32, u32, f32, concrete_integer?, concrete_float?, float?, numeric?}
use Rattle.rules.specs.Signature.{Signature}
use Rattle.scalars.specs.Scalar.{scalars_that}
use Rattle.types.specs.Domain.{scalar, vec2, vec4}
use Rattle.types.specs.Constructor.{vector?, constructors_that}
use Rattle.rules.specs.Rule.{rule_of}
use Rattle.regular.specs.Regular.{regular_of, empty_regular, regular_rules}
use Rattle.functions.specs.ListedRules.{listed_rules}
use Rattle.functions.specs.FunctionPaper.{function_paper}
use Rattle.scalars.specs.Paper.{Paper, accepted, refusal}
use Rattle.rules.specs.RulePaper.{rule_values, no_rule}
use Rattle.functions.specs.declared.mathfunction.FunctionSet.{FunctionSet}
use Rattle.functions.specs.declared.mathfunction.FunctionSet.TheVariants as set
use Rattle.functions.specs.declared.listed_rules.ListFunction.TheVariants.{Ldexp, Outer, Refract, Mix, Transpose, ExtractBits, InsertBits}
use Rattle.regular.specs.declared.regular.ConclusionRule.{ConclusionRule}
use Rattle.regular.specs.declared.regular.ConclusionRule.TheVariants as to

abbrev pub function_count : ℕ
function_count = 79

-- ---- Regular sets: the arity, the constructors and the scalars that pass, and the conclusion

abbrev pub regular : ℕ → (ℕ → Bool) → (ℕ → Bool) → ConclusionRule → FunctionSet
regular n ks ss c = set.Regular (regular_of n (constructors_that ks) (scalars_that ss) c)

-- one constructor, or one scalar, alone
abbrev pub scalar? : ℕ → Bool
scalar? k = eqb k scalar

abbrev pub vec2? : ℕ → Bool
vec2? k = eqb k vec2

abbrev pub vec3? : ℕ → Bool
vec3? k = eqb k 2

abbrev pub vec4? : ℕ → Bool
vec4? k = eqb k vec4

abbrev pub i32? : ℕ → Bool
i32? k = eqb k i32

abbrev pub u32? : ℕ → Bool
u32? k = eqb k u32

abbrev pub f32? : ℕ → Bool
f32? k = eqb k f32

abbrev pub scalar_or_vector? : ℕ → Bool
scalar_or_vector? k = either (scalar? k) (vector? k)

-- MAT2X2, MAT3X3, MAT4X4
abbrev pub square? : ℕ → Bool
square? k = either (eqb k 4) (either (eqb k 8) (eqb k 12))

-- component by component: the result has the argument's type
abbrev pub component_wise : ℕ → (ℕ → Bool) → FunctionSet
component_wise n ss = regular n scalar_or_vector? ss to.ArgumentType

-- ---- the functions, by number

unfoldable pub function_sets : L.List FunctionSet
function_sets =
    -- Abs 0, Sign; Min 2, Max; Clamp 4
    replicate 2 (component_wise 1 numeric?) ++ replicate 2 (component_wise 2 numeric?) ++ component_wise 3 numeric? ∷ []
    -- Sin 5 to InverseSqrt; Atan2 31, Pow, Step; Fma 34, SmoothStep
    ++ replicate 26 (component_wise 1 float?) ++ replicate 3 (component_wise 2 float?) ++ replicate 2 (component_wise 3 float?)
    -- CountTrailingZeros 36 to FirstLeadingBit
    ++ replicate 6 (component_wise 1 concrete_integer?)
    -- Pack4x8snorm 42, Pack4x8unorm; Pack2x16snorm 44, Pack2x16unorm, Pack2x16float
    ++ replicate 2 (regular 1 vec4? f32? to.U32) ++ replicate 3 (regular 1 vec2? f32? to.U32)
    -- Pack4xI8 47, Pack4xU8, Pack4xI8Clamp, Pack4xU8Clamp
    ++ regular 1 vec4? i32? to.U32 ∷ regular 1 vec4? u32? to.U32
    ∷ regular 1 vec4? i32? to.U32 ∷ regular 1 vec4? u32? to.U32 ∷ []
    -- Unpack4x8snorm 51, Unpack4x8unorm; Unpack2x16snorm 53, Unpack2x16unorm, Unpack2x16float
    ++ replicate 2 (regular 1 scalar? u32? to.Vec4F) ++ replicate 3 (regular 1 scalar? u32? to.Vec2F)
    -- Unpack4xI8 56, Unpack4xU8, Dot4I8Packed, Dot4U8Packed
    ++ regular 1 scalar? u32? to.Vec4I ∷ regular 1 scalar? u32? to.Vec4U
    ∷ regular 2 scalar? u32? to.I32 ∷ regular 2 scalar? u32? to.U32
    -- Dot 60, Modf, Frexp, Ldexp, Outer, Cross
    ∷ regular 2 vector? numeric? to.Scalar ∷ regular 1 scalar_or_vector? concrete_float? to.Modf
    ∷ regular 1 scalar_or_vector? concrete_float? to.Frexp ∷ set.List Ldexp ∷ set.List Outer ∷ regular 2 vec3? float? to.ArgumentType
    -- Distance 66, Length, Normalize, FaceForward, Reflect, Refract, Mix
    ∷ regular 2 scalar_or_vector? concrete_float? to.Scalar ∷ regular 1 scalar_or_vector? float? to.Scalar
    ∷ regular 1 vector? float? to.ArgumentType ∷ regular 3 vector? concrete_float? to.ArgumentType
    ∷ regular 2 vector? concrete_float? to.ArgumentType ∷ set.List Refract ∷ set.List Mix
    -- Inverse 73, Transpose, Determinant, QuantizeToF16, ExtractBits, InsertBits 78
    ∷ regular 1 square? float? to.ArgumentType ∷ set.List Transpose ∷ regular 1 square? float? to.Scalar
    ∷ component_wise 1 f32? ∷ set.List ExtractBits ∷ set.List InsertBits ∷ []

-- a number of 79 or above is no function, and has the empty set
unfoldable pub function_set_of : ℕ → FunctionSet
function_set_of f = get_or function_sets f (set.Regular empty_regular)

abbrev pub set_of_function : ℕ → Paper
set_of_function f = function_paper (function_set_of f)

-- ---- full listings

abbrev pub rules_in : FunctionSet → L.List Signature
rules_in (set.Regular r) = regular_rules r
rules_in (set.List l) = listed_rules l

unfoldable pub listing_of : ℕ → L.List Signature
listing_of f = rules_in (function_set_of f)

-- the rule at an index; at an index behind the last one, refusal 7 at place 1
abbrev pub rule_in : L.List Signature → ℕ → Paper
rule_in [] i = refusal 7 1 no_rule
rule_in (r ∷ rs) zero = accepted (rule_values (rule_of r))
rule_in (r ∷ rs) (suc i) = rule_in rs i

-- the rule at an index of a function's full listing; of an unknown function, refusal 7 at place 0
unfoldable pub rule_at : ℕ → ℕ → Paper
rule_at f i = choose (ltb f function_count) (rule_in (listing_of f) i) (refusal 7 0 no_rule)
