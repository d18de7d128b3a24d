-- What the numbers mean that a caller hands in.
use Rattle.std.specs.Prelude.{Bool, not, ℕ, eqb, Option, Some, None}
use Rattle.scalars.specs.Mask.{choose}
use Rattle.scalars.specs.declared.scalar_set.Scalar.{Scalar}

-- 0 is off, anything else on
abbrev pub on : ℕ → Bool
on switch = not (eqb switch 0)

-- this number is no base, anything else a scalar by its number
abbrev pub no_base : ℕ
no_base = 255

unfoldable pub base_of : ℕ → Option Scalar
base_of n = choose (eqb n no_base) None (Some (record { 0 = n }))
