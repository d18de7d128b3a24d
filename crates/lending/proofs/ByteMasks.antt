-- Masks as bytes, low byte first: how large the mask of some bytes is, whether its last byte has a bit beyond the rules, and its bytes put
-- into a buffer one after the other. All of it over any number of bytes. Assumes nothing.
use mathlib.Core.Path.{◌≡◌, refl, sym, ap, ap₂, ◌∙◌}
use mathlib.Core.Bool.{Bool, true, false}
use mathlib.Core.List.{List, [], ◌∷◌, ◌++◌}
use Prim.Native.Nat.{ℕ, zero, suc, ◌+◌, ◌-◌, ◌*◌, ◌/◌, ◌%◌, ◌^◌, ◌≤◌, ◌<◌, min}
use native.Mathlib.Nat.{pow-succ', pow-le-pow_right, zero-add}
use native.Mathlib.Omega.{arith}
use mir.Syntax.{w8}
use mir.Val.{Fits}
use lib.Dec.{leb}
use lib.ListN.{length, get_or, take, drop, length-drop}
use lib.Seq.{sets, sets-eq, length-take-le, get_or-take, get_or-drop}
use borrow.Author.Tests.{le-leb, lt-leb, leb-true, leb-false, lt-ltb, le-ltb}
use Rattle.scalars.proofs.Prefixes.{next, ended}
use Rattle.scalars.specs.Paper.{accepted, refusal}
use Rattle.lending.specs.Masks.{bytes_for, mask_in, mask_read, mask_bytes, room_for, lent_after}

-- each is a byte
abbrev Bytes : List ℕ → Type 0
Bytes xs = (i : ℕ) → i < length xs → get_or xs i 0 < 256

-- as a slice of bytes says it
abbrev pub FitBytes : List ℕ → Type 0
FitBytes xs = (i : ℕ) → Fits w8 (get_or xs i 0)

rest-bytes : (b : ℕ) (bs : List ℕ) → Bytes (b ∷ bs) → Bytes bs
rest-bytes b bs s i h = s (suc i) (omega arith)

-- ---- reading

mask_below : (xs : List ℕ) → Bytes xs → mask_in xs < 256 ^ length xs
unfolding mask_in
mask_below [] s = omega arith
mask_below (b ∷ bs) s = omega (arith, s 0 (omega arith), mask_below bs (rest-bytes b bs s), pow-succ' 256 (length bs))

shifted : (b m p : ℕ) → b < 256 → leb (256 * p) (b + 256 * m) ≡ leb p m
shifted b m p h = go (leb p m) refl
  where
    go : (c : Bool) → leb p m ≡ c → leb (256 * p) (b + 256 * m) ≡ c
    go true e = le-leb (256 * p) (b + 256 * m) (omega (arith, leb-true p m e))
    go false e = lt-leb (256 * p) (b + 256 * m) (omega (arith, leb-false p m e))

-- eight rules more are a byte more
eight_more : (k j : ℕ) → 2 ^ (suc k * 8 + j) ≡ 256 * 2 ^ (k * 8 + j)
eight_more k j =
    let m = k * 8 + j in
    let e : suc k * 8 + j ≡ suc (suc (suc (suc (suc (suc (suc (suc m))))))) = omega arith in
    ap (λ (n : ℕ). 2 ^ n) e ∙ omega arith

-- a bit beyond the rules is one of the last byte
stray-at : (xs : List ℕ) (k j : ℕ) → Bytes xs → length xs ≡ suc k → leb (2 ^ (k * 8 + j)) (mask_in xs) ≡ leb (2 ^ j) (get_or xs k 0)
unfolding mask_in
stray-at [] k j s l = absurd (omega arith)
stray-at (b ∷ []) zero j s l =
    let e : 0 * 8 + j ≡ j = omega arith in
    let f : b + 256 * 0 ≡ b = omega arith in
    ap₂ (λ (n m : ℕ). leb (2 ^ n) m) e f
stray-at (b ∷ c ∷ bs) zero j s l = absurd (omega arith)
stray-at (b ∷ []) (suc k) j s l = absurd (omega arith)
stray-at (b ∷ c ∷ bs) (suc k) j s l =
    ap (λ (p : ℕ). leb p (b + 256 * mask_in (c ∷ bs))) (eight_more k j)
    ∙ shifted b (mask_in (c ∷ bs)) (2 ^ (k * 8 + j)) (s 0 (omega arith))
    ∙ stray-at (c ∷ bs) k j (rest-bytes b (c ∷ bs) s) (omega arith)

-- a mask of at most seven bytes leaves room in a word for one more
few-below : (xs : List ℕ) → Bytes xs → length xs ≤ 7 → mask_in xs < 72057594037927936
few-below xs s h = omega (arith, mask_below xs s, pow-le-pow_right {n = 256} (omega arith) h)

module _ (xs : List ℕ) (n : ℕ) (l : n ≤ length xs) where
  -- before any byte is read
  pub read_none : {i : ℕ} → i ≡ n → 0 ≡ mask_in (drop i (take n xs))
  unfolding mask_in
  read_none {i} e = sym (ap mask_in (ended 0 xs n i l (omega arith)))

  -- the byte before those that are read
  pub read_next : (i : ℕ) → 0 < i → i ≤ n → mask_in (drop i (take n xs)) * 256 + get_or xs (i - 1) 0 ≡ mask_in (drop (i - 1) (take n xs))
  unfolding mask_in
  read_next i some h =
      let e : i ≡ i - 1 + 1 = omega arith in
      ap (λ (j : ℕ). mask_in (drop j (take n xs)) * 256 + get_or xs (i - 1) 0) e
      ∙ sym (ap mask_in (next 0 xs n (i - 1) l (omega arith)) ∙ omega arith)

  long : length (take n xs) ≡ n
  long = length-take-le n xs l

  module _ (s : FitBytes xs) where
    first_bytes_lem : Bytes (take n xs)
    first_bytes_lem i h = let k : i < n = omega (arith, long) in rw (get_or-take n xs i 0 k) ((s i).fits)

    later-bytes : (k : ℕ) → Bytes (drop k (take n xs))
    later-bytes k i h = rw (get_or-drop k (take n xs) i 0) (first_bytes_lem (k + i) (omega (arith, length-drop k (take n xs))))

    pub read_below : (i : ℕ) → n ≤ 8 → 0 < i → i ≤ n → mask_in (drop i (take n xs)) < 72057594037927936
    read_below i f some h = few-below (drop i (take n xs)) (later-bytes i) (omega (arith, long, length-drop i (take n xs)))

-- no rules have no bit beyond them
pub no_stray : (xs : List ℕ) (n : ℕ) → n ≡ 0 → false ≡ leb (2 ^ n) (mask_in (take (bytes_for n) xs))
unfolding bytes_for mask_in
no_stray xs n e = sym (ap (λ (k : ℕ). leb (2 ^ k) (mask_in (take ((k + 7) / 8) xs))) e)

-- the test of the last byte, where there is a rule
pub stray-last : (xs : List ℕ) → FitBytes xs → (n : ℕ) → 0 < n → bytes_for n ≤ length xs
    → leb (2 ^ (n - (n - 1) / 8 * 8)) (get_or xs ((n - 1) / 8) 0) ≡ leb (2 ^ n) (mask_in (take (bytes_for n) xs))
unfolding bytes_for
stray-last xs s n some l =
    let k = (n - 1) / 8 in
    let e : k * 8 + (n - k * 8) ≡ n = omega arith in
    let m : (n + 7) / 8 ≡ suc k = omega arith in
    let h : suc k ≤ length xs = omega arith in
    sym
    (ap (λ (j : ℕ). leb (2 ^ n) (mask_in (take j xs))) m
    ∙ ap (λ (j : ℕ). leb (2 ^ j) (mask_in (take (suc k) xs))) (sym e)
    ∙ stray-at (take (suc k) xs) k (n - k * 8) (first_bytes_lem xs (suc k) h s) (long xs (suc k) h)
    ∙ ap (leb (2 ^ (n - k * 8))) (get_or-take (suc k) xs k 0 (omega arith)))

-- the answer, by what the tests say
module _ (n : ℕ) (xs : List ℕ) {k : ℕ} (e : k ≡ bytes_for n) where
  pub read_short : length xs < k → refusal 8 (length xs) (255 ∷ []) ≡ mask_read n xs
  unfolding mask_read
  read_short h = rw (← e, lt-ltb (length xs) k h)

  module _ (h : k ≤ length xs) {b : Bool} (test : b ≡ leb (2 ^ n) (mask_in (take (bytes_for n) xs))) where
    pub read-stray : b ≡ true → refusal 7 0 (255 ∷ []) ≡ mask_read n xs
    unfolding mask_read
    read-stray is = rw (← test, is, ← e, le-ltb (length xs) k h)

    pub read-mask : b ≡ false → (j : ℕ) {m : ℕ} → j ≡ min 8 k → m ≡ mask_in (take j xs) → accepted (m ∷ []) ≡ mask_read n xs
    unfolding mask_read
    read-mask is j f g = rw (← test, is, ← e, le-ltb (length xs) k h, g, f)

-- ---- writing

bytes-long : (n m : ℕ) → length (mask_bytes n m) ≡ n
unfolding mask_bytes
bytes-long zero m = refl
bytes-long (suc n) m = ap suc (bytes-long n (m / 256))

-- one byte more
pub write_next : (i n m : ℕ) → i < n → mask_bytes (n - i) m ≡ (m % 256) ∷ mask_bytes (n - (i + 1)) (m / 256)
unfolding mask_bytes
write_next i n m h = let e : n - i ≡ suc (n - (i + 1)) = omega arith in ap (λ (k : ℕ). mask_bytes k m) e

pub write_end : (i n m : ℕ) → n ≤ i → mask_bytes (n - i) m ≡ []
unfolding mask_bytes
write_end i n m h = let e : n - i ≡ 0 = omega arith in ap (λ (k : ℕ). mask_bytes k m) e

written : (out : List ℕ) (n m : ℕ) → n ≤ length out → sets out 0 (mask_bytes n m) ≡ mask_bytes n m ++ drop n out
written out n m h =
    sets-eq (mask_bytes n m) out 0 (omega (arith, bytes-long n m))
    ∙ ap (λ (k : ℕ). mask_bytes n m ++ drop k out) (zero-add (length (mask_bytes n m)) ∙ bytes-long n m)

-- the answer and the lent bytes, by their room
module _ (n m : ℕ) {k : ℕ} (e : k ≡ bytes_for n) (out : List ℕ) where
  pub too_short : length out < k → (refusal 10 k [] ≡ room_for n out) × (out ≡ lent_after n m out)
  unfolding room_for lent_after
  too_short h = rw (← e, lt-ltb (length out) k h) (refl, refl)

  pub in_front : (after : List ℕ) → k ≤ length out → after ≡ sets out 0 (mask_bytes k m)
      → (accepted [] ≡ room_for n out) × (after ≡ lent_after n m out)
  unfolding room_for lent_after
  in_front after h is = rw (← e, le-ltb (length out) k h) (refl, is ∙ written out k m h)
