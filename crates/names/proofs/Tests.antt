-- A test that passes at each member of a list, or at each number below another, read at one of them. Assumes nothing.
use mathlib.Core.Path.{◌≡◌, sym, ap, ◌∙◌}
use mathlib.Core.Bool.{Bool, true}
use mathlib.Core.List.{List}
use Prim.Native.Nat.{ℕ, ◌<◌}
use native.Mathlib.Omega.{arith}
use lib.ListN.{length, get_or}
use lib.Seq.{take-length}
use Rattle.scalars.specs.Mask.{every, up_to}
use Rattle.scalars.proofs.Bits.{up_to-length, up_to-at}
use Rattle.scalars.proofs.Prefixes.{every-at}

pub at-member : {A : Type 0} (d : A) (test : A → Bool) (xs : List A) → every test xs ≡ true → (k : ℕ) → k < length xs → test (get_or xs k d) ≡ true
at-member d test xs all k h = every-at d test xs (length xs) k (omega arith) h (ap (every test) (take-length xs) ∙ all)

pub at-number : (test : ℕ → Bool) (n : ℕ) → every test (up_to n) ≡ true → (k : ℕ) → k < n → test k ≡ true
at-number test n all k h =
    sym (ap test (up_to-at n k h)) ∙ at-member 0 test (up_to n) all k (omega (arith, up_to-length n))
