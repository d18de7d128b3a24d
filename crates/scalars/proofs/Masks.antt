-- Laws of masks over lists: the lowest member and the rest, and the members that pass a test. Assumes nothing.
use mathlib.Core.Path.{◌≡◌, refl, sym, ap, ap₂, ◌∙◌, subst}
use mathlib.Core.Bool.{Bool, true, false}
use mathlib.Core.List.{List, [], ◌∷◌, map}
use Prim.Native.Nat.{ℕ, zero, suc, ◌+◌, ◌-◌, ◌*◌, ◌/◌, ◌%◌, ◌^◌, ◌≤◌, ◌<◌, suc-le-suc, zero-le}
use native.Mathlib.Nat.{zero-add, add-zero, one-mul, lt_of_le_of_lt, not-suc-le-zero, le_of_suc-le-suc, mod-lt, zero-lt-suc, pow-suc, lt_irrefl, mod-eq_of_lt}
use native.Mathlib.Omega.{arith}
use native.Mathlib.Numerals.{add-one, one-add}
use lib.Pow.{mod-mod-pow, field, pow-lt, pow_pos}
use lib.Count.{count_trailing_zeros, under, ones, ones_step}
use lib.Dec.{eqb}
use lib.ListN.{length, get_or, length-map}
use lib.Arith.{lt-one}
use Rattle.scalars.specs.Mask.{cons_if, odd, select, both, digit, sift}

-- ---- a mask's lowest bit, and the rest

pub half_pos : (m : ℕ) → 0 < m → m % 2 ≡ 0 → 0 < m / 2
half_pos m p e = omega arith

pub half_lt : (m k : ℕ) → m < 2 ^ suc k → m / 2 < 2 ^ k
half_lt m k h = let e : m < 2 ^ k * 2 = subst (λ (x : ℕ). m < x) (pow-suc 2 k) h in omega arith

pub two : {C : Type 0} (m r : ℕ) → m % 2 ≡ suc (suc r) → C
two m r e = let f : ⊥ = omega (arith, mod-lt m (zero-lt-suc 1)) in absurd f

-- a mask of k bits that is not 0 has its lowest bit below k
pub trailing_lt : (k n m : ℕ) → k ≤ n → 0 < m → m < 2 ^ k → count_trailing_zeros n m < k
unfolding count_trailing_zeros
trailing_lt zero n m l p h = absurd (lt_irrefl zero (subst (λ (x : ℕ). zero < x) (lt-one h) p))
trailing_lt (suc k) zero m l p h = absurd (not-suc-le-zero l)
trailing_lt (suc k) (suc n) m l p h = go (m % 2) refl (λ e. trailing_lt k n (m / 2) (le_of_suc-le-suc l) (half_pos m p e) (half_lt m k h))
  where
    go : (r : ℕ) → m % 2 ≡ r → (m % 2 ≡ 0 → count_trailing_zeros n (m / 2) < k) → under r (count_trailing_zeros n (m / 2)) < suc k
    go zero e ih = suc-le-suc (ih e)
    go (suc r) e ih = zero-lt-suc k

-- as many members as bits that are set
pub select-count : {A : Type 0} (xs : List A) (m : ℕ) → m < 2 ^ length xs → ones m ≡ length (select xs m)
unfolding ones
select-count [] m h = ap ones (lt-one h)
select-count {A = A} (x ∷ xs) m h = ones_step m ∙ go (m % 2) refl (select-count xs (m / 2) (half_lt m (length xs) h))
  where
    go : (r : ℕ) → m % 2 ≡ r → ones (m / 2) ≡ length (select xs (m / 2)) → r + ones (m / 2) ≡ length (cons_if (eqb r 1) x (select xs (m / 2)))
    go zero e ih = zero-add (ones (m / 2)) ∙ ih
    go (suc zero) e ih = one-add (ones (m / 2)) ∙ ap suc ih
    go (suc (suc r)) e ih = two m r e

-- at most as many as the list has
pub select-length : {A : Type 0} (xs : List A) (m : ℕ) → length (select xs m) ≤ length xs
select-length [] m = zero-le
select-length (x ∷ xs) m = go (odd m) (select-length xs (m / 2))
  where
    go : (b : Bool) → length (select xs (m / 2)) ≤ length xs → length (cons_if b x (select xs (m / 2))) ≤ suc (length xs)
    go true ih = suc-le-suc ih
    go false ih = omega arith

-- ---- `sift`: the bits of a mask at which the list's element passes

abbrev pub gain : Bool → ℕ → ℕ
gain true v = v
gain false v = 0

gain-twice : (b : Bool) (v : ℕ) → gain b (v * 2) ≡ gain b v * 2
gain-twice true v = refl
gain-twice false v = refl

gain-one : (b : Bool) → gain b 1 ≡ digit b
gain-one true = refl
gain-one false = refl

-- a bit that is kept was there
both_le : (m : ℕ) (b : Bool) → digit (both (eqb (m % 2) 1) b) ≤ m % 2
both_le m b = go (m % 2) refl b
  where
    go : (r : ℕ) → m % 2 ≡ r → (b : Bool) → digit (both (eqb r 1) b) ≤ r
    go zero e b = zero-le
    go (suc zero) e true = suc-le-suc zero-le
    go (suc zero) e false = zero-le
    go (suc (suc r)) e b = two m r e

down_even : (m q : ℕ) → m % 2 ≡ 0 → (m - q * 2) % 2 ≡ 0
down_even m q e = omega arith

down_half : (m q : ℕ) → m % 2 ≡ 0 → (m - q * 2) / 2 ≡ m / 2 - q
down_half m q e = omega arith

odd_even : (m : ℕ) → m % 2 ≡ 1 → (m - 1) % 2 ≡ 0
odd_even m e = omega arith

odd-half : (m : ℕ) → m % 2 ≡ 1 → (m - 1) / 2 ≡ m / 2
odd-half m e = omega arith

-- the lowest bit is part of the mask
pub trailing_part : (n m : ℕ) → 0 < m → m < 2 ^ n → 2 ^ count_trailing_zeros n m ≤ m
unfolding count_trailing_zeros
trailing_part zero m p h = p
trailing_part (suc n) m p h = go (m % 2) refl (λ e. trailing_part n (m / 2) (half_pos m p e) (half_lt m n h))
  where
    go : (r : ℕ) → m % 2 ≡ r → (m % 2 ≡ 0 → 2 ^ count_trailing_zeros n (m / 2) ≤ m / 2) → 2 ^ under r (count_trailing_zeros n (m / 2)) ≤ m
    go zero e ih = omega (arith, pow-suc 2 (count_trailing_zeros n (m / 2)), ih e)
    go (suc r) e ih = p

mod_low : (m k : ℕ) → m % 2 ^ suc k % 2 ≡ m % 2
mod_low m k = subst (λ (n : ℕ). m % 2 ^ n % 2 ≡ m % 2) (add-one k) (mod-mod-pow m k 1)

mod_high : (m k : ℕ) → m % 2 ^ suc k / 2 ≡ m / 2 % 2 ^ k
mod_high m k = subst (λ (n : ℕ). m % 2 ^ n / 2 ≡ m / 2 % 2 ^ k) (add-one k) (field m k 1)

-- the lowest member, then the members of the mask without it
pub select-turn : {A : Type 0} (d : A) (xs : List A) (n m : ℕ) → length xs ≤ n → 0 < m → m < 2 ^ length xs
    → select xs m ≡ get_or xs (count_trailing_zeros n m) d ∷ select xs (m - 2 ^ count_trailing_zeros n m)
unfolding count_trailing_zeros
select-turn d [] n m l p h = absurd (lt_irrefl zero (subst (λ (x : ℕ). zero < x) (lt-one h) p))
select-turn d (x ∷ xs) zero m l p h = absurd (not-suc-le-zero l)
select-turn {A = A} d (x ∷ xs) (suc n) m l p h =
    go (m % 2) refl (λ e. select-turn d xs n (m / 2) (le_of_suc-le-suc l) (half_pos m p e) (half_lt m (length xs) h))
  where
    go : (r : ℕ) → m % 2 ≡ r → (m % 2 ≡ 0 → select xs (m / 2) ≡ get_or xs (count_trailing_zeros n (m / 2)) d ∷ select xs (m / 2 - 2 ^ count_trailing_zeros n (m / 2)))
        → cons_if (eqb r 1) x (select xs (m / 2))
        ≡ get_or (x ∷ xs) (under r (count_trailing_zeros n (m / 2))) d ∷ select (x ∷ xs) (m - 2 ^ under r (count_trailing_zeros n (m / 2)))
    go zero e ih =
        let t = count_trailing_zeros n (m / 2) in
        ih e ∙ ap (λ (ys : List A). get_or xs t d ∷ ys) (sym (
        ap (λ (q : ℕ). select (x ∷ xs) (m - q)) (pow-suc 2 t)
        ∙ ap₂ (λ (h l : ℕ). cons_if (eqb l 1) x (select xs h)) (down_half m (2 ^ t) e) (down_even m (2 ^ t) e)
        ))
    go (suc zero) e ih = ap (λ (ys : List A). x ∷ ys) (sym (ap₂ (λ (h l : ℕ). cons_if (eqb l 1) x (select xs h)) (odd-half m e) (odd_even m e)))
    go (suc (suc r)) e ih = two m r e

-- bits past the list pick nothing
pub select_mod : {A : Type 0} (xs : List A) (m : ℕ) → select xs (m % 2 ^ length xs) ≡ select xs m
select_mod [] m = refl
select_mod {A = A} (x ∷ xs) m =
    ap₂ (λ (h l : ℕ). cons_if (eqb l 1) x (select xs h)) (mod_high m (length xs)) (mod_low m (length xs))
    ∙ ap (λ (ys : List A). cons_if (odd m) x ys) (select_mod xs (m / 2))

pub select-none : {A : Type 0} (xs : List A) → select xs 0 ≡ []
select-none [] = refl
select-none (x ∷ xs) = select-none xs

-- a bit by its number, as a shift of a word of w bits gives it
pub bit_is : (w t : ℕ) → t < w → (1 * 2 ^ t) % 2 ^ w ≡ 2 ^ t
bit_is w t h = ap (λ (x : ℕ). x % 2 ^ w) (one-mul (2 ^ t)) ∙ mod-eq_of_lt (pow-lt h)

-- a list is as long as what it is mapped to; so it is known of an array of structs
pub mapped-long : (X Y : Type 0) (f : X → Y) (l : List X) (n : ℕ) → length (map f l) ≡ n → length l ≡ n
mapped-long X Y f l n e = sym (length-map l f) ∙ e

module _ {A : Type 0} (p : A → Bool) where
  pub sift_le : (xs : List A) (m : ℕ) → sift p xs m ≤ m
  unfolding sift
  sift_le [] m = zero-le
  sift_le (x ∷ xs) m = omega (arith, sift_le xs (m / 2), both_le m (p x))

  -- bits past the list are not looked at
  pub sift_mod : (xs : List A) (m : ℕ) → sift p xs (m % 2 ^ length xs) ≡ sift p xs m
  unfolding sift
  sift_mod [] m = refl
  sift_mod (x ∷ xs) m =
      ap₂ (λ (h l : ℕ). sift p xs h * 2 + digit (both (eqb l 1) (p x))) (mod_high m (length xs)) (mod_low m (length xs))
      ∙ ap (λ (s : ℕ). s * 2 + digit (both (eqb (m % 2) 1) (p x))) (sift_mod xs (m / 2))

  pub sift-lt : (xs : List A) (m : ℕ) {n : ℕ} → length xs ≡ n → sift p xs m < 2 ^ n
  sift-lt xs m l =
      subst (λ (n : ℕ). sift p xs m < 2 ^ n) l
      (lt_of_le_of_lt (subst (λ (s : ℕ). s ≤ m % 2 ^ length xs) (sift_mod xs m) (sift_le xs (m % 2 ^ length xs))) (mod-lt m (pow_pos (length xs))))

  -- one turn of a walk: the lowest member's bit is kept if the member passes, and the rest is as it was
  pub sift-turn : (d : A) (xs : List A) (n m : ℕ) → length xs ≤ n → 0 < m → m < 2 ^ length xs
      → sift p xs m ≡ gain (p (get_or xs (count_trailing_zeros n m) d)) (2 ^ count_trailing_zeros n m) + sift p xs (m - 2 ^ count_trailing_zeros n m)
  unfolding count_trailing_zeros sift
  sift-turn d [] n m l q h = absurd (lt_irrefl zero (subst (λ (x : ℕ). zero < x) (lt-one h) q))
  sift-turn d (x ∷ xs) zero m l q h = absurd (not-suc-le-zero l)
  sift-turn d (x ∷ xs) (suc n) m l q h = go (m % 2) refl (λ e. sift-turn d xs n (m / 2) (le_of_suc-le-suc l) (half_pos m q e) (half_lt m (length xs) h))
    where
      go : (r : ℕ) → m % 2 ≡ r
          → (m % 2 ≡ 0 → sift p xs (m / 2) ≡ gain (p (get_or xs (count_trailing_zeros n (m / 2)) d)) (2 ^ count_trailing_zeros n (m / 2)) + sift p xs (m / 2 - 2 ^ count_trailing_zeros n (m / 2)))
          → sift p xs (m / 2) * 2 + digit (both (eqb r 1) (p x))
          ≡ gain (p (get_or (x ∷ xs) (under r (count_trailing_zeros n (m / 2))) d)) (2 ^ under r (count_trailing_zeros n (m / 2)))
          + sift p (x ∷ xs) (m - 2 ^ under r (count_trailing_zeros n (m / 2)))
      go zero e ih =
          let t = count_trailing_zeros n (m / 2) in
          let b = p (get_or xs t d) in
          let s : sift p (x ∷ xs) (m - 2 ^ t * 2) ≡ sift p xs (m / 2 - 2 ^ t) * 2 =
          ap₂ (λ (h l : ℕ). sift p xs h * 2 + digit (both (eqb l 1) (p x))) (down_half m (2 ^ t) e) (down_even m (2 ^ t) e) ∙ add-zero _ in
          rw (pow-suc 2 t, gain-twice b (2 ^ t)) (omega (arith, ih e, s))
      go (suc zero) e ih =
          let s : sift p (x ∷ xs) (m - 1) ≡ sift p xs (m / 2) * 2 =
          ap₂ (λ (h l : ℕ). sift p xs h * 2 + digit (both (eqb l 1) (p x))) (odd-half m e) (odd_even m e) ∙ add-zero _ in
          omega (arith, s, gain-one (p x))
      go (suc (suc r)) e ih = two m r e
