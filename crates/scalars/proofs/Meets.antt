-- Laws of the meet of two masks, and of a full mask. Assumes nothing.
use mathlib.Core.Path.{◌≡◌, refl, sym, ap, ap₂, ◌∙◌, subst⁻¹}
use mathlib.Core.Bool.{Bool, true, false}
use mathlib.Core.List.{List, [], ◌∷◌}
use Prim.Native.Nat.{ℕ, zero, suc, ◌+◌, ◌-◌, ◌*◌, ◌/◌, ◌%◌, ◌^◌, ◌≤◌, min}
use native.Mathlib.Nat.{zero-min, pow-suc, le_of_suc-le-suc}
use native.Mathlib.Omega.{arith}
use lib.Dec.{eqb}
use lib.Bits.{bit_and, and_step, and_zero_r}
use lib.Arith.{le-zero}
use lib.Pow.{pow_pos}
use lib.ListN.{length, take}
use Rattle.scalars.specs.Mask.{cons_if, odd, select, filter, both, digit, sift}
use Rattle.scalars.proofs.Masks.{two}
use Rattle.scalars.proofs.Sifts.{low, high, select-sift}

-- the lowest bit of a meet
min-digit : (m : ℕ) (b : Bool) → min (m % 2) (digit b) ≡ digit (both (odd m) b)
min-digit m b = go (m % 2) refl b
  where
    go : (r : ℕ) → m % 2 ≡ r → (b : Bool) → min r (digit b) ≡ digit (both (eqb r 1) b)
    go zero e b = zero-min (digit b)
    go (suc zero) e true = refl
    go (suc zero) e false = refl
    go (suc (suc r)) e b = two m r e

pub ones_half : (k : ℕ) → (2 ^ suc k - 1) / 2 ≡ 2 ^ k - 1
ones_half k = rw (pow-suc 2 k) (omega (arith, pow_pos k))

pub ones_odd : (k : ℕ) → (2 ^ suc k - 1) % 2 ≡ 1
ones_odd k = rw (pow-suc 2 k) (omega (arith, pow_pos k))

module _ {A : Type 0} where
  full_cons : (p : A → Bool) (x : A) (xs : List A) → sift p (x ∷ xs) (2 ^ suc (length xs) - 1) ≡ sift p xs (2 ^ length xs - 1) * 2 + digit (p x)
  unfolding sift
  full_cons p x xs = ap₂ (λ (h l : ℕ). sift p xs h * 2 + digit (both (eqb l 1) (p x))) (ones_half (length xs)) (ones_odd (length xs))

  -- to test the members is to meet with the mask of all that pass
  pub sift-full : (p : A → Bool) (xs : List A) (m : ℕ) → sift p xs m ≡ bit_and m (sift p xs (2 ^ length xs - 1))
  unfolding sift
  sift-full p [] m = sym (and_zero_r m)
  sift-full p (x ∷ xs) m =
      ap₂ (λ (s d : ℕ). s * 2 + d) (sift-full p xs (m / 2)) (sym (min-digit m (p x)))
      ∙ sym (
      ap (λ (n : ℕ). bit_and m n) (full_cons p x xs)
      ∙ and_step m (sift p xs (2 ^ length xs - 1) * 2 + digit (p x))
      ∙ ap₂ (λ (s d : ℕ). bit_and (m / 2) s * 2 + min (m % 2) d) (high (sift p xs (2 ^ length xs - 1)) (p x)) (low (sift p xs (2 ^ length xs - 1)) (p x))
      )

  -- meeting a set with the mask of all that pass leaves the members that pass, in order
  pub select_meet : (p : A → Bool) (xs : List A) (m : ℕ) → select xs (bit_and m (sift p xs (2 ^ length xs - 1))) ≡ filter p (select xs m)
  select_meet p xs m = ap (select xs) (sym (sift-full p xs m)) ∙ select-sift p xs m

  -- the first n are the members of a mask of n ones
  pub select-ones : (xs : List A) (n : ℕ) → n ≤ length xs → select xs (2 ^ n - 1) ≡ take n xs
  select-ones [] n h = subst⁻¹ (λ (k : ℕ). [] ≡ take {A = A} k []) (le-zero h) refl
  select-ones (x ∷ xs) zero h = none xs
    where
      none : (ys : List A) → select ys 0 ≡ []
      none [] = refl
      none (y ∷ ys) = none ys
  select-ones (x ∷ xs) (suc n) h =
      ap₂ (λ (h l : ℕ). cons_if (eqb l 1) x (select xs h)) (ones_half n) (ones_odd n)
      ∙ ap (λ (ys : List A). x ∷ ys) (select-ones xs n (le_of_suc-le-suc h))
