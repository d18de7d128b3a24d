-- 'The domain', by number: the twelve scalars; and 'Conversion': which scalar converts to which.
use Rattle.std.specs.Prelude.{Bool, not, List, ℕ, eqb, leb}
use Rattle.scalars.specs.Mask.{choose, both, either, up_to}

abbrev pub scalar_count : ℕ
scalar_count = 12

-- ABSTRACT_INT 0, ABSTRACT_FLOAT 1, I32 2, I16 3, I64 4, U32 5, U16 6, U64 7, F32 8, F16 9, F64 10, BOOL 11
abbrev pub scalars : List ℕ
scalars = up_to scalar_count

abbrev pub abstract_int : ℕ
abstract_int = 0

abbrev pub abstract_float : ℕ
abstract_float = 1

abbrev pub i32 : ℕ
i32 = 2

abbrev pub u32 : ℕ
u32 = 5

abbrev pub u64 : ℕ
u64 = 7

abbrev pub f32 : ℕ
f32 = 8

abbrev pub f64 : ℕ
f64 = 10

abbrev pub abstract? : ℕ → Bool
abstract? k = leb k abstract_float

abbrev pub integer? : ℕ → Bool
integer? k = either (eqb k abstract_int) (both (leb i32 k) (leb k u64))

abbrev pub float? : ℕ → Bool
float? k = either (eqb k abstract_float) (both (leb f32 k) (leb k f64))

abbrev pub numeric? : ℕ → Bool
numeric? k = either (integer? k) (float? k)

abbrev pub concrete_integer? : ℕ → Bool
concrete_integer? k = both (integer? k) (not (abstract? k))

abbrev pub concrete_float? : ℕ → Bool
concrete_float? k = both (float? k) (not (abstract? k))

-- a concrete scalar converts only to itself; ABSTRACT_INT to every INTEGER and FLOAT scalar, ABSTRACT_FLOAT to every FLOAT one
unfoldable pub converts : ℕ → ℕ → Bool
converts from to = choose (eqb from abstract_int) (numeric? to) (choose (eqb from abstract_float) (float? to) (eqb from to))
