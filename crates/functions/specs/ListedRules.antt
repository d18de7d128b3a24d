-- The rules of the functions that have a List, by nested sequences, in order of preference, as `mathfunction.rs` writes them.
use mathlib.Core.List as L
use Rattle.std.specs.Prelude.{[], ◌∷◌, ◌++◌, ℕ}
use Rattle.scalars.specs.Mask.{choose}
use Rattle.scalars.specs.Domain.{abstract?}
use Rattle.rules.specs.Signature.{Signature}
use Rattle.functions.specs.Sequences.{float_scalars, concrete_float_scalars, concrete_int_scalars, vector_sizes, vector, matrix, scalar_or_vecn}
use Rattle.functions.specs.declared.listed_rules.ListFunction.{ListFunction}
use Rattle.functions.specs.declared.listed_rules.ListFunction.TheVariants.{Ldexp, Outer, Refract, Mix, Transpose, ExtractBits, InsertBits}

-- what a function gives of each element in turn, in the manner of `flat_map`
abbrev pub each : L.List ℕ → (ℕ → L.List Signature) → L.List Signature
each [] f = []
each (x ∷ xs) f = f x ++ each xs f

abbrev pub rule : L.List ℕ → ℕ → L.List Signature
rule az r = record { arguments = az; result = r } ∷ []

-- two sequences side by side
abbrev pub zip : L.List ℕ → L.List ℕ → (ℕ → ℕ → L.List Signature) → L.List Signature
zip [] ys f = []
zip (x ∷ xs) [] f = []
zip (x ∷ xs) (y ∷ ys) f = f x y ++ zip xs ys f

-- the exponent's scalar: ABSTRACT_INT for an abstract mantissa, else I32
abbrev pub exponent_of : ℕ → ℕ
exponent_of s = choose (abstract? s) 0 2

-- offsets and counts of bits are U32
abbrev pub u32 : ℕ
u32 = 5

-- Outer takes columns from its left operand; Transpose swaps columns and rows; Mix lists its scalar rules twice
unfoldable pub listed_rules : ListFunction → L.List Signature
listed_rules Ldexp =
    each concrete_float_scalars (λ s. zip (scalar_or_vecn s) (scalar_or_vecn (exponent_of s)) (λ mantissa exponent.
    rule (mantissa ∷ exponent ∷ []) mantissa))
listed_rules Outer =
    each vector_sizes (λ columns. each vector_sizes (λ rows. each concrete_float_scalars (λ s.
    rule (vector columns s ∷ vector rows s ∷ []) (matrix columns rows s))))
listed_rules Refract =
    each vector_sizes (λ n. each concrete_float_scalars (λ s. rule (vector n s ∷ vector n s ∷ s ∷ []) (vector n s)))
listed_rules Mix =
    each float_scalars (λ s. each (scalar_or_vecn s) (λ input.
    rule (input ∷ input ∷ input ∷ []) input ++ rule (input ∷ input ∷ s ∷ []) input))
listed_rules Transpose =
    each vector_sizes (λ a. each vector_sizes (λ b. each float_scalars (λ s. rule (matrix a b s ∷ []) (matrix b a s))))
listed_rules ExtractBits =
    each concrete_int_scalars (λ s. each (scalar_or_vecn s) (λ input. rule (input ∷ u32 ∷ u32 ∷ []) input))
listed_rules InsertBits =
    each concrete_int_scalars (λ s. each (scalar_or_vecn s) (λ input. rule (input ∷ input ∷ u32 ∷ u32 ∷ []) input))
