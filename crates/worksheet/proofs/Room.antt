-- A line has four bytes, and a call no more conversions than operands. Assumes nothing.
use mathlib.Core.Path.{◌≡◌, refl}
use mathlib.Core.Bool.{Bool, true, false}
use mathlib.Core.List.{List, [], ◌∷◌}
use Prim.Native.Nat.{ℕ, suc, ◌*◌, ◌≤◌}
use native.Mathlib.Omega.{arith}
use lib.Dec.{eqb}
use lib.ListN.{length}
use Rattle.scalars.specs.Mask.{choose}
use Rattle.machine.specs.Line.{Line, leaf_line, conversion_line, call_line, conversions, encode}

-- the bytes needed
pub four-each : (ls : List Line) → length (encode ls) ≡ 4 * length ls
unfolding encode
four-each [] = refl
four-each (leaf_line l ∷ ls) = omega (arith, four-each ls)
four-each (conversion_line d a ∷ ls) = omega (arith, four-each ls)
four-each (call_line f i n ∷ ls) = omega (arith, four-each ls)

pub few-conversions : (ts az : List ℕ) → length (conversions ts az) ≤ length ts
few-conversions [] az = omega arith
few-conversions (t ∷ ts) [] = omega arith
few-conversions (t ∷ ts) (a ∷ az) = go (few-conversions ts az) (eqb t a)
  where
    go : length (conversions ts az) ≤ length ts
        → (b : Bool) → length (choose b (conversions ts az) (conversion_line (length ts) a ∷ conversions ts az)) ≤ suc (length ts)
    go ih true = omega arith
    go ih false = omega arith
