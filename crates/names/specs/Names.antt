-- Document 02, (i): 'Function names are the source's with the first letter made small; types are `f32`, `vec3<f32>`, `mat2x3<f16>`, `other`,
-- `abstract-float` and so on. Each of the 79 names is a fixed byte string.' And what a run of bytes names.
use Rattle.std.specs.Prelude.{ℕ, suc, ◌-◌, ◌+◌, Bool, true, false, List, [], ◌∷◌, ◌++◌, get_or, eqb, ltb}
use Prim.Native.Char.{code}
use Prim.Native.String.{String}
use Prim.Native.String as str
use Rattle.scalars.specs.Mask.{choose}
use Rattle.scalars.specs.Paper.{Paper, accepted}
use Rattle.functions.specs.Functions.{function_count}

-- the bytes of a text of ASCII characters
unfoldable pub bytes : String → List ℕ
bytes str.[] = []
bytes (str.◌∷◌ c s) = code c ∷ bytes s

-- the functions, by number
unfoldable pub function_names : List (List ℕ)
function_names =
    bytes "abs" ∷ bytes "sign" ∷ bytes "min" ∷ bytes "max" ∷ bytes "clamp" ∷ bytes "sin" ∷ bytes "cos" ∷ bytes "tan" ∷ bytes "asin" ∷
    bytes "acos" ∷ bytes "atan" ∷ bytes "sinh" ∷ bytes "cosh" ∷ bytes "tanh" ∷ bytes "asinh" ∷ bytes "acosh" ∷ bytes "atanh" ∷
    bytes "saturate" ∷ bytes "radians" ∷ bytes "degrees" ∷ bytes "ceil" ∷ bytes "floor" ∷ bytes "round" ∷ bytes "fract" ∷ bytes "trunc" ∷
    bytes "exp" ∷ bytes "exp2" ∷ bytes "log" ∷ bytes "log2" ∷ bytes "sqrt" ∷ bytes "inverseSqrt" ∷ bytes "atan2" ∷ bytes "pow" ∷
    bytes "step" ∷ bytes "fma" ∷ bytes "smoothStep" ∷ bytes "countTrailingZeros" ∷ bytes "countLeadingZeros" ∷ bytes "countOneBits" ∷
    bytes "reverseBits" ∷ bytes "firstTrailingBit" ∷ bytes "firstLeadingBit" ∷ bytes "pack4x8snorm" ∷ bytes "pack4x8unorm" ∷
    bytes "pack2x16snorm" ∷ bytes "pack2x16unorm" ∷ bytes "pack2x16float" ∷ bytes "pack4xI8" ∷ bytes "pack4xU8" ∷ bytes "pack4xI8Clamp" ∷
    bytes "pack4xU8Clamp" ∷ bytes "unpack4x8snorm" ∷ bytes "unpack4x8unorm" ∷ bytes "unpack2x16snorm" ∷ bytes "unpack2x16unorm" ∷
    bytes "unpack2x16float" ∷ bytes "unpack4xI8" ∷ bytes "unpack4xU8" ∷ bytes "dot4I8Packed" ∷ bytes "dot4U8Packed" ∷ bytes "dot" ∷
    bytes "modf" ∷ bytes "frexp" ∷ bytes "ldexp" ∷ bytes "outer" ∷ bytes "cross" ∷ bytes "distance" ∷ bytes "length" ∷ bytes "normalize" ∷
    bytes "faceForward" ∷ bytes "reflect" ∷ bytes "refract" ∷ bytes "mix" ∷ bytes "inverse" ∷ bytes "transpose" ∷ bytes "determinant" ∷
    bytes "quantizeToF16" ∷ bytes "extractBits" ∷ bytes "insertBits" ∷ []

-- the twelve scalars, by number
unfoldable pub scalar_names : List (List ℕ)
scalar_names =
    bytes "abstract-int" ∷ bytes "abstract-float" ∷ bytes "i32" ∷ bytes "i16" ∷ bytes "i64" ∷ bytes "u32" ∷ bytes "u16" ∷ bytes "u64" ∷
    bytes "f32" ∷ bytes "f16" ∷ bytes "f64" ∷ bytes "bool" ∷ []

-- the vectors and matrices, from constructor 1 on
unfoldable pub shape_names : List (List ℕ)
shape_names =
    bytes "vec2" ∷ bytes "vec3" ∷ bytes "vec4" ∷ bytes "mat2x2" ∷ bytes "mat2x3" ∷ bytes "mat2x4" ∷ bytes "mat3x2" ∷ bytes "mat3x3" ∷
    bytes "mat3x4" ∷ bytes "mat4x2" ∷ bytes "mat4x3" ∷ bytes "mat4x4" ∷ []

-- each scalar under one shape
unfoldable pub shaped : List ℕ → List (List ℕ) → List (List ℕ)
shaped h [] = []
shaped h (x ∷ xs) = (h ++ bytes "<" ++ x ++ bytes ">") ∷ shaped h xs

-- each scalar under each shape
unfoldable pub shaped_all : List (List ℕ) → List (List ℕ) → List (List ℕ)
shaped_all [] xs = []
shaped_all (h ∷ hs) xs = shaped h xs ++ shaped_all hs xs

-- the types, by code: the scalars, each shape of each scalar, and `other`
unfoldable pub type_names : List (List ℕ)
type_names = scalar_names ++ shaped_all shape_names scalar_names ++ (bytes "other" ∷ [])

abbrev pub type_count : ℕ
type_count = 157

unfoldable pub type_name : ℕ → List ℕ
type_name t = get_or type_names t []

unfoldable pub function_name : ℕ → List ℕ
function_name f = get_or function_names f []

-- the words: the types by code, then the functions by number, so that other functions can follow
unfoldable pub words : List (List ℕ)
words = type_names ++ function_names

abbrev pub word_count : ℕ
word_count = type_count + function_count

-- document 02, (v): the word before a measured leaf's type; it is no type and no function
unfoldable pub measured_name : List ℕ
measured_name = bytes "measured"

-- whether two byte strings are the same
unfoldable pub same : List ℕ → List ℕ → Bool
same [] [] = true
same [] (y ∷ ys) = false
same (x ∷ xs) [] = false
same (x ∷ xs) (y ∷ ys) = choose (eqb x y) (same xs ys) false

-- the number of the first of the words that the run is, counted from i; past them all where it is none
unfoldable pub find : List ℕ → List (List ℕ) → ℕ → ℕ
find run [] i = i
find run (x ∷ xs) i = choose (same run x) i (find run xs (suc i))

-- what a run names
pub data Named : Type 0 where
  a_type : ℕ → Named
  a_function : ℕ → Named
  unknown : Named

-- the word with this number
abbrev pub numbered : ℕ → Named
numbered w = choose (ltb w type_count) (a_type w) (choose (ltb w word_count) (a_function (w - type_count)) unknown)

-- the run is compared whole, byte for byte
unfoldable pub named : List ℕ → Named
named run = numbered (find run words 0)

-- its values: 0 and a type's code, 1 and a function's number, as an expression's bytes have them, or none
abbrev pub named_paper : Named → Paper
named_paper (a_type t) = accepted (0 ∷ t ∷ [])
named_paper (a_function f) = accepted (1 ∷ f ∷ [])
named_paper unknown = accepted []
