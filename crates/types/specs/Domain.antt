-- 'The domain', by number: the thirteen constructors, and type codes.
use Rattle.std.specs.Prelude.{Bool, List, [], ◌∷◌, ℕ, suc, ◌/◌, ◌%◌, leb, ltb}
use Rattle.scalars.specs.Mask.{choose, both, up_to}
use Rattle.scalars.specs.Domain.{scalar_count, abstract?}

abbrev pub constructor_count : ℕ
constructor_count = 13

-- SCALAR 0, VEC2 1, VEC3 2, VEC4 3, then MAT2X2 4 to MAT4X4 12, columns before rows
abbrev pub constructors : List ℕ
constructors = up_to constructor_count

abbrev pub scalar : ℕ
scalar = 0

abbrev pub vec2 : ℕ
vec2 = 1

abbrev pub vec4 : ℕ
vec4 = 3

abbrev pub first_matrix : ℕ
first_matrix = 4

-- the least and the most components of a vector
abbrev pub bi : ℕ
bi = 2

abbrev pub quad : ℕ
quad = 4

-- how many sizes that makes
abbrev pub size_count : ℕ
size_count = 3

-- a type code is 12 x constructor + scalar, 0 to 155; this one is any other type
abbrev pub other_type : ℕ
other_type = 156

-- results of Modf and Frexp are the codes up to this one
abbrev pub last_code : ℕ
last_code = 180

abbrev pub value? : ℕ → Bool
value? t = ltb t other_type

abbrev pub known? : ℕ → Bool
known? t = leb t last_code

abbrev pub constructor_part : ℕ → ℕ
constructor_part t = t / scalar_count

abbrev pub scalar_part : ℕ → ℕ
scalar_part t = t % scalar_count

-- a value type of an abstract scalar
unfoldable pub is_abstract : ℕ → Bool
is_abstract t = both (value? t) (abstract? (scalar_part t))

-- the index of the first code that is unknown, or the length
unfoldable pub first_unknown : List ℕ → ℕ
first_unknown [] = 0
first_unknown (t ∷ ts) = choose (known? t) (suc (first_unknown ts)) 0
