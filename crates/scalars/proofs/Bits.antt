-- Laws of the numbers below n and of the numbers of a mask's bits. Assumes nothing.
use mathlib.Core.Path.{◌≡◌, refl, sym, ap, ◌∙◌, subst, subst⁻¹}
use mathlib.Core.Bool.{Bool, true, false}
use mathlib.Core.List.{[], ◌∷◌}
use Prim.Native.Nat.{ℕ, zero, suc, ◌+◌, ◌-◌, ◌*◌, ◌/◌, ◌%◌, ◌^◌, ◌≤◌, ◌<◌}
use native.Mathlib.Nat.{add-zero, zero-add, zero-mul, mul-one, add-suc, suc-add, le_of_suc-le-suc, not-suc-le-zero, pow-suc, mul_assoc, le_refl}
use native.Mathlib.Omega.{arith}
use lib.Dec.{eqb, ltb}
use borrow.Author.Tests.{ltb-true, ltb-false}
use lib.Arith.{lt-one}
use lib.Count.{ones, count_trailing_zeros, trailing_of_zero}
use lib.ListN.{length, get_or}
use Rattle.scalars.specs.Mask.{cons_if, odd, select, filter, sift, count_from, up_to, bits, mask_of, head_or}
use Rattle.scalars.proofs.Masks.{half_lt, two, select-none, select-length, select-count, select-turn, trailing_lt, sift-lt}
use Rattle.scalars.proofs.Sifts.{select-sift}

pub count-length : (i n : ℕ) → length (count_from i n) ≡ n
count-length i zero = refl
count-length i (suc n) = ap suc (count-length (suc i) n)

pub count_at : (i n k : ℕ) → k < n → get_or (count_from i n) k 0 ≡ i + k
count_at i zero k h = absurd (not-suc-le-zero h)
count_at i (suc n) zero h = sym (add-zero i)
count_at i (suc n) (suc k) h = count_at (suc i) n k (le_of_suc-le-suc h) ∙ suc-add i k ∙ sym (add-suc i k)

pub up_to-length : (n : ℕ) → length (up_to n) ≡ n
up_to-length n = count-length 0 n

-- each number below n stands at its own place
pub up_to-at : (n k : ℕ) → k < n → get_or (up_to n) k 0 ≡ k
up_to-at n k h = count_at 0 n k h ∙ zero-add k

pub bits-length : (n m : ℕ) → length (bits n m) ≤ n
unfolding bits
bits-length n m = subst (λ (k : ℕ). length (bits n m) ≤ k) (up_to-length n) (select-length (up_to n) m)

-- bits above those of the mask pick nothing
select-more : (i n k m : ℕ) → n ≤ k → m < 2 ^ n → select (count_from i k) m ≡ select (count_from i n) m
select-more i zero k m l h = ap (select (count_from i k)) (lt-one h) ∙ select-none (count_from i k)
select-more i (suc n) zero m l h = absurd (not-suc-le-zero l)
select-more i (suc n) (suc k) m l h = ap (cons_if (odd m) i) (select-more (suc i) n k (m / 2) (le_of_suc-le-suc l) (half_lt m n h))

pub bits-within : (n k m : ℕ) → n ≤ k → m < 2 ^ n → bits k m ≡ bits n m
unfolding bits
bits-within n k m l h = select-more 0 n k m l h

-- the mask of a mask's own bits is that mask
mask-from : (i n m : ℕ) → m < 2 ^ n → mask_of (select (count_from i n) m) ≡ m * 2 ^ i
mask-from i zero m h = sym (ap (λ (x : ℕ). x * 2 ^ i) (lt-one h) ∙ zero-mul (2 ^ i))
mask-from i (suc n) m h = go (m % 2) refl (mask-from (suc i) n (m / 2) (half_lt m n h))
  where
    go : (r : ℕ) → m % 2 ≡ r → mask_of (select (count_from (suc i) n) (m / 2)) ≡ m / 2 * 2 ^ suc i
        → mask_of (cons_if (eqb r 1) i (select (count_from (suc i) n) (m / 2))) ≡ m * 2 ^ i
    go zero e ih = ih ∙ ap (λ (q : ℕ). m / 2 * q) (pow-suc 2 i) ∙ even (2 ^ i)
      where
        even : (q : ℕ) → m / 2 * (q * 2) ≡ m * q
        even q = let d : m ≡ m / 2 * 2 = omega arith in sym (ap (λ (x : ℕ). x * q) d ∙ mul_assoc (m / 2) 2 q ∙ ap (λ (x : ℕ). m / 2 * x) (omega arith))
    go (suc zero) e ih = ap (λ (s : ℕ). 2 ^ i + s) (ih ∙ ap (λ (q : ℕ). m / 2 * q) (pow-suc 2 i)) ∙ odd_part (2 ^ i)
      where
        odd_part : (q : ℕ) → q + m / 2 * (q * 2) ≡ m * q
        odd_part q =
            let d : m ≡ 1 + m / 2 * 2 = omega arith in
            sym (ap (λ (x : ℕ). x * q) d ∙ omega (arith, mul_assoc (m / 2) 2 q, mul_assoc (m / 2) q 2))
    go (suc (suc r)) e ih = two m r e

pub mask-bits : (n m : ℕ) → m < 2 ^ n → mask_of (bits n m) ≡ m
unfolding bits
mask-bits n m h = mask-from 0 n m h ∙ mul-one m

-- the mask of the bits that pass is the mask sifted
pub mask-filter : (p : ℕ → Bool) (n m : ℕ) → mask_of (filter p (bits n m)) ≡ sift p (up_to n) m
unfolding bits
mask-filter p n m =
    ap mask_of (sym (select-sift p (up_to n) m)) ∙ mask-bits n (sift p (up_to n) m) (sift-lt p (up_to n) m (up_to-length n))

-- the lowest bit's number, then the bits of the rest
pub bits-next : (w n m : ℕ) → n ≤ w → 0 < m → m < 2 ^ n → bits n m ≡ count_trailing_zeros w m ∷ bits n (m - 2 ^ count_trailing_zeros w m)
unfolding bits
bits-next w n m l q h =
    select-turn 0 (up_to n) w m (subst⁻¹ (λ (k : ℕ). k ≤ w) (up_to-length n) l) q (subst⁻¹ (λ (k : ℕ). m < 2 ^ k) (up_to-length n) h)
    ∙ ap (λ (k : ℕ). k ∷ bits n (m - 2 ^ count_trailing_zeros w m)) (up_to-at n (count_trailing_zeros w m) (trailing_lt n w m l q h))

pub bits_none : (n : ℕ) → bits n 0 ≡ []
unfolding bits
bits_none n = select-none (up_to n)

-- as many as there are ones
pub bits-count : (n m : ℕ) → m < 2 ^ n → ones m ≡ length (bits n m)
unfolding bits
bits-count n m h = select-count (up_to n) m (subst⁻¹ (λ (k : ℕ). m < 2 ^ k) (up_to-length n) h)

-- the first bit of a word of w bits, or w where none is set
pub bits-lowest : (w m : ℕ) → m < 2 ^ w → head_or w (bits w m) ≡ count_trailing_zeros w m
bits-lowest w m h = go (ltb 0 m) refl
  where
    go : (b : Bool) → ltb 0 m ≡ b → head_or w (bits w m) ≡ count_trailing_zeros w m
    go true e = ap (head_or w) (bits-next w w m (le_refl w) (ltb-true 0 m e) h)
    go false e =
        let z : m ≡ 0 = omega (arith, ltb-false 0 m e) in
        ap (λ (x : ℕ). head_or w (bits w x)) z ∙ ap (head_or w) (bits_none w) ∙ sym (ap (count_trailing_zeros w) z ∙ trailing_of_zero w)
