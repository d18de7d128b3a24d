-- Bytes in front of a buffer, by its room. Assumes nothing.
use mathlib.Core.Path.{◌≡◌, ap}
use mathlib.Core.List.{List, ◌++◌}
use Prim.Native.Nat.{ℕ, ◌≤◌, ◌<◌}
use native.Mathlib.Omega.{arith}
use borrow.Author.Tests.{lt-ltb, le-ltb}
use lib.ListN.{length, drop}
use Rattle.lending.specs.Bytes.{placed}

-- a buffer that is too short keeps its contents; otherwise the bytes stand in front
pub placed-short : (t d : List ℕ) → length d < length t → placed t d ≡ d
unfolding placed
placed-short t d h = simp (lt-ltb (length d) (length t) h)

pub placed-fits : (t d : List ℕ) (n : ℕ) → length t ≡ n → n ≤ length d → placed t d ≡ t ++ drop n d
unfolding placed
placed-fits t d n e h = simp (le-ltb (length d) (length t) (omega arith)) (ap (λ k. t ++ drop k d) e)
