-- The bits of a mask by rank: each is below the mask's width, and what passing over the first n bits of a walk gives. Assumes nothing.
use mathlib.Core.Path.{◌≡◌, refl, ap, ap₂, ◌∙◌, subst}
use mathlib.Core.Bool.{Bool, true, false}
use mathlib.Core.List.{map}
use Prim.Native.Nat.{ℕ, zero, suc, ◌+◌, ◌*◌, ◌/◌, ◌%◌, ◌^◌, ◌<◌}
use native.Mathlib.Nat.{le_of_suc-le-suc, not-suc-le-zero, pow-suc}
use native.Mathlib.Omega.{arith}
use lib.Count.{count_trailing_zeros, under}
use lib.ListN.{length, get_or}
use lib.Pow.{pow-lt}
use Rattle.std.specs.Prelude.{Option, Some, None, slice_get}
use Rattle.std.specs.Option.{option_map}
use Rattle.std.specs.Iterator.{SkipsThenYields}
use Rattle.std.proofs.lemmas.Option.{slice_get-map, slice_get_within, get_or_from_slice_get}
use Rattle.std.proofs.lemmas.Iterator.Consumers.{nth_from_yields_List, YieldsList-from_shown}
use Rattle.scalars.specs.Mask.{cons_if, odd, select, count_from, bits, head_or}
use Rattle.scalars.specs.Walk.{one_bit, one_bits, OneBitsGive}
use Rattle.scalars.specs.declared.one_bits_iter.OneBit.{OneBit}
use Rattle.scalars.specs.declared.one_bits_iter.OneBitsIter.{OneBitsIter}
use Rattle.scalars.proofs.Bits.{bits-lowest}

-- each bit's number is below the width
below : (d i n m k : ℕ) → k < length (select (count_from i n) m) → get_or (select (count_from i n) m) k d < i + n
below d i zero m k h = absurd (not-suc-le-zero h)
below d i (suc n) m k h = go (odd m) k h (below d (suc i) n (m / 2))
  where
    go : (b : Bool) (k : ℕ) → k < length (cons_if b i (select (count_from (suc i) n) (m / 2)))
        → ((j : ℕ) → j < length (select (count_from (suc i) n) (m / 2)) → get_or (select (count_from (suc i) n) (m / 2)) j d < suc i + n)
        → get_or (cons_if b i (select (count_from (suc i) n) (m / 2))) k d < i + suc n
    go true zero h ih = omega arith
    go true (suc k) h ih = omega (arith, ih k (le_of_suc-le-suc h))
    go false k h ih = omega (arith, ih k h)

pub bits_below : (d n m k : ℕ) → k < length (bits n m) → get_or (bits n m) k d < n
unfolding bits
bits_below d n m k h = omega (arith, below d 0 n m k h)

-- ---- the n-th bit of a walk

trailing_bit : (n t : ℕ) → t < n → count_trailing_zeros n (2 ^ t) ≡ t
unfolding count_trailing_zeros
trailing_bit zero t h = absurd (not-suc-le-zero h)
trailing_bit (suc n) zero h = refl
trailing_bit (suc n) (suc t) h =
    let e : 2 ^ suc t ≡ 2 ^ t * 2 = pow-suc 2 t in
    let low : 2 ^ suc t % 2 ≡ 0 = omega arith in
    let high : 2 ^ suc t / 2 ≡ 2 ^ t = omega arith in
    ap₂ (λ (l u : ℕ). under l (count_trailing_zeros n u)) low high ∙ ap suc (trailing_bit n t (le_of_suc-le-suc h))

bit-number : (k : ℕ) → k < 64 → head_or 64 (bits 64 (2 ^ k)) ≡ k
bit-number k h = bits-lowest 64 (2 ^ k) (pow-lt h) ∙ trailing_bit 64 k h

-- the number of the n-th bit, from its mask
numbers : (m n : ℕ) (o : Option OneBit) → o ≡ slice_get (map one_bit (bits 64 m)) n
    → option_map (λ (b : OneBit). head_or 64 (bits 64 b.0)) o ≡ slice_get (bits 64 m) n
numbers m n o e =
    ap (option_map (λ (b : OneBit). head_or 64 (bits 64 b.0))) (e ∙ slice_get-map one_bit (bits 64 m) n)
    ∙ go (slice_get (bits 64 m) n) refl
  where
    go : (q : Option ℕ) → slice_get (bits 64 m) n ≡ q → option_map (λ (b : OneBit). head_or 64 (bits 64 b.0)) (option_map one_bit q) ≡ q
    go None p = refl
    go (Some k) p =
        let b = bits_below 64 64 m n (slice_get_within (bits 64 m) n k p) in
        ap Some (bit-number k (subst (λ (i : ℕ). i < 64) (get_or_from_slice_get (bits 64 m) n k 64 p) b))

-- what passing over n bits gives
pub skipped : (m n : ℕ) (r : Option OneBit) (u : OneBitsIter) → SkipsThenYields OneBitsGive (record { 0 = m }) n r u
    → option_map (λ (b : OneBit). head_or 64 (bits 64 b.0)) r ≡ slice_get (bits 64 m) n
skipped m n r u ran =
    numbers m n r (own r ∙ nth_from_yields_List r u n ran (YieldsList-from_shown OneBitsGive (λ b. b) one_bits (λ s t h. ap length h.0.0.0) (λ s x t h. h.0.0) (record { 0 = m })))
  where
    own : (r : Option OneBit) → r ≡ option_map (λ b. b) r
    own None = refl
    own (Some b) = refl
