-- 'The domain': a type code put together of its parts, with the refusals of what is no type code.
use Rattle.std.specs.Prelude.{Bool, List, [], ◌∷◌, ℕ, ◌+◌, ◌-◌, ◌*◌, leb, ltb}
use Rattle.scalars.specs.Mask.{choose, both}
use Rattle.types.specs.Domain.{value?, known?, scalar_part, constructor_count, first_matrix, other_type}
use Rattle.scalars.specs.Paper.{Paper, accepted, refusal, unused}
use Rattle.types.specs.declared.type_code.TypeParts.{TypeParts}
use Rattle.types.specs.declared.type_code.TypeParts.TheVariants.{Value, Other, Modf, Frexp}
use Rattle.scalars.specs.Domain.{scalar_count, f32, f64}

-- a value type is 12 x constructor + scalar
abbrev pub type_code : ℕ → ℕ → ℕ
type_code k s = k * scalar_count + s

-- the first codes of what Modf and Frexp answer
abbrev pub first_modf : ℕ
first_modf = 157

abbrev pub first_frexp : ℕ
first_frexp = 169

-- they answer for each of the concrete floats, F32, F16 and F64
abbrev pub float_count : ℕ
float_count = 3

-- two numbers, each of them known: otherwise refusal 7 at 0 for the first, at 1 for the second, with these values
abbrev pub if_both : Bool → Bool → List ℕ → Paper → Paper
if_both first second vs answer = choose first (choose second answer (refusal 7 1 vs)) (refusal 7 0 vs)

-- of a constructor and a scalar
unfoldable pub value_code : ℕ → ℕ → Paper
value_code k s = if_both (ltb k constructor_count) (ltb s scalar_count) (unused ∷ []) (accepted (type_code k s ∷ []))

-- for a matrix, or for a scalar but F32, F16, F64, refusal 13
unfoldable pub predeclared_code : ℕ → ℕ → ℕ → Paper
predeclared_code first k s =
    if_both (ltb k constructor_count) (ltb s scalar_count) (unused ∷ [])
    (choose (both (ltb k first_matrix) (both (leb f32 s) (leb s f64))) (accepted ((first + k * float_count + (s - f32)) ∷ [])) (refusal 13 0 (unused ∷ [])))

abbrev pub code_of : TypeParts → Paper
code_of (Value k s) = value_code k.0 s.0
code_of Other = accepted (other_type ∷ [])
code_of (Modf k s) = predeclared_code first_modf k.0 s.0
code_of (Frexp k s) = predeclared_code first_frexp k.0 s.0

-- a type without a scalar has no value
unfoldable pub leaf_scalar : ℕ → Paper
leaf_scalar t = choose (value? t) (accepted (scalar_part t ∷ [])) (choose (known? t) (accepted []) (refusal 7 0 (unused ∷ [])))
