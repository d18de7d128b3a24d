-- Sets of constructors, and their sizes: a vector's components, a matrix's columns and rows.
use Rattle.std.specs.Prelude.{Bool, List, [], ◌∷◌, ℕ, ◌+◌, ◌-◌, ◌*◌, ◌^◌, leb, ltb, get_or}
use Rattle.scalars.specs.Mask.{choose, both, either, filter, bits, mask_of}
use Rattle.types.specs.Domain.{constructors, value?, constructor_part, constructor_count, scalar, vec2, vec4, first_matrix, bi, quad, size_count}
use Rattle.types.specs.TypeCode.{value_code}
use Rattle.scalars.specs.Paper.{Paper, accepted, refusal, when_accepted, unused}
use Rattle.types.specs.declared.constructor_set.ConstructorSize.{ConstructorSize}
use Rattle.types.specs.declared.constructor_set.ConstructorSize.TheVariants.{Scalar, Vector, Matrix}

abbrev pub vector? : ℕ → Bool
vector? k = both (leb vec2 k) (leb k vec4)

-- the set of the constructors that pass
abbrev pub constructors_that : (ℕ → Bool) → ℕ
constructors_that p = mask_of (filter p constructors)

-- the set of a type's constructor; of what is no value type, empty
unfoldable pub singleton_of_code : ℕ → ℕ
singleton_of_code t = choose (value? t) (2 ^ constructor_part t) 0

-- the thirteen sizes in order: a scalar is 0; a vector 1, with its components; a matrix 2, with its columns and rows
unfoldable pub sizes : List (List ℕ)
sizes =
    (0 ∷ unused ∷ unused ∷ []) ∷ (1 ∷ 2 ∷ unused ∷ []) ∷ (1 ∷ 3 ∷ unused ∷ []) ∷ (1 ∷ 4 ∷ unused ∷ [])
    ∷ (2 ∷ 2 ∷ 2 ∷ []) ∷ (2 ∷ 2 ∷ 3 ∷ []) ∷ (2 ∷ 2 ∷ 4 ∷ [])
    ∷ (2 ∷ 3 ∷ 2 ∷ []) ∷ (2 ∷ 3 ∷ 3 ∷ []) ∷ (2 ∷ 3 ∷ 4 ∷ [])
    ∷ (2 ∷ 4 ∷ 2 ∷ []) ∷ (2 ∷ 4 ∷ 3 ∷ []) ∷ (2 ∷ 4 ∷ 4 ∷ []) ∷ []

-- the size of a constructor; of an unknown one, refusal 7
unfoldable pub constructor_size : ℕ → Paper
constructor_size k = choose (ltb k constructor_count) (accepted (get_or sizes k [])) (refusal 7 0 (unused ∷ unused ∷ unused ∷ []))

-- the size of the one member; of none, refusal 1; of several, 2
abbrev pub size_of_one : List ℕ → Paper
size_of_one [] = refusal 1 0 (unused ∷ unused ∷ unused ∷ [])
size_of_one (k ∷ []) = accepted (get_or sizes k [])
size_of_one (k ∷ l ∷ ks) = refusal 2 0 (unused ∷ unused ∷ unused ∷ [])

-- an unknown bit is refusal 7
unfoldable pub set_size : ℕ → Paper
set_size m = choose (ltb m (2 ^ constructor_count)) (size_of_one (bits constructor_count m)) (refusal 7 0 (unused ∷ unused ∷ unused ∷ []))

-- vectors have 2, 3 or 4 components, matrices as many columns and rows
unfoldable pub outside_sizes : ℕ → Bool
outside_sizes n = either (ltb n bi) (ltb quad n)

-- VEC2 is constructor 1; MAT2X2 is 4, and there are three matrices for each number of columns
abbrev pub vector_number : ℕ → ℕ
vector_number n = n - 1

abbrev pub matrix_number : ℕ → ℕ → ℕ
matrix_number columns rows = first_matrix + (columns - bi) * size_count + (rows - bi)

unfoldable pub constructor_of : ConstructorSize → Paper
constructor_of Scalar = accepted (scalar ∷ [])
constructor_of (Vector n) = choose (outside_sizes n) (refusal 7 0 (unused ∷ [])) (accepted (vector_number n ∷ []))
constructor_of (Matrix c r) =
    choose (either (outside_sizes c) (outside_sizes r)) (refusal 7 0 (unused ∷ []))
    (accepted (matrix_number c r ∷ []))

-- the type code of a size and a scalar: 7 at 0 for the size, at 1 for the scalar
unfoldable pub inner_of : ConstructorSize → ℕ → Paper
inner_of z s = when_accepted (constructor_of z) (λ vs. value_code (get_or vs 0 unused) s) (unused ∷ [])
