-- The sequences of `utils.rs` and of the type methods: the scalars, sizes and types over which the rules of a List are written, in the
-- Rust's order, and the codes of vectors and matrices by their sizes.
use Rattle.std.specs.Prelude.{List, [], ◌∷◌, ℕ}
use Rattle.scalars.specs.Mask.{filter}
use Rattle.scalars.specs.Domain.{scalars, float?, concrete_float?}
use Rattle.types.specs.TypeCode.{type_code}
use Rattle.types.specs.Constructor.{vector_number, matrix_number}

-- ABSTRACT_FLOAT, F32, F16, F64
unfoldable pub float_scalars : List ℕ
float_scalars = filter float? scalars

-- the same without the abstract one: F32, F16, F64
unfoldable pub concrete_float_scalars : List ℕ
concrete_float_scalars = filter concrete_float? scalars

-- I32, U32, I16, U16, I64, U64
unfoldable pub concrete_int_scalars : List ℕ
concrete_int_scalars = 2 ∷ 5 ∷ 3 ∷ 6 ∷ 4 ∷ 7 ∷ []

-- the numbers of components of vectors, and of columns and rows of matrices
unfoldable pub vector_sizes : List ℕ
vector_sizes = 2 ∷ 3 ∷ 4 ∷ []

-- the vector of n components
unfoldable pub vector : ℕ → ℕ → ℕ
vector n s = type_code (vector_number n) s

-- the matrix of these columns and rows
unfoldable pub matrix : ℕ → ℕ → ℕ → ℕ
matrix columns rows s = type_code (matrix_number columns rows) s

unfoldable pub scalar_or_vecn : ℕ → List ℕ
scalar_or_vecn s = s ∷ vector 2 s ∷ vector 3 s ∷ vector 4 s ∷ []
