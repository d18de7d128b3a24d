-- The laws of every walk over set bits: from what `OneBitsIter::next` and `OneBit::number` promise to what a walk over the members of
-- a mask needs. `walked` and `walked-bits` are for a turn; `ended` and `ended-bits` for the end; `lowest` is for the
-- first member alone. Assumes nothing.
--
-- Around a `for bit in OneBitsIter(mask)` the invariant says that what is done, followed by what is left, is the whole: what is left is
-- `bits n l.bit-iterator.0`, or `select xs l.bit-iterator.0`. It begins with the mask, by `c.into_iter-bit-iterator.ensures.into_iter_gives`.
-- A turn is `walked-bits n _ .. c.loop-bit.invariant.0 c.in-Some.ensures.steps.1 c.number.ensures`, whose `.numbers` are
-- those of the turn before without the first; the end is `ended-bits _ .. n c.in-None.ensures.steps.1`. A call `OneBitsIter(mask).next()`
-- by itself has the same steps. Each walk's answer writes the arguments out: it is an instance, and a lemma over a whole turn would be longer.
use mathlib.Core.Path.{◌≡◌, refl, sym, ap, ap₂, ◌∙◌, subst, subst⁻¹}
use mathlib.Core.Bool.{Bool, true, false}
use mathlib.Core.List.{List, [], ◌∷◌, map}
use Prim.Native.Nat.{ℕ, zero, suc, ◌+◌, ◌-◌, ◌*◌, ◌/◌, ◌%◌, ◌^◌, ◌≤◌, ◌<◌}
use native.Mathlib.Nat.{lt_of_lt_of_le, not-suc-le-zero, le_of_suc-le-suc, pow-suc, le_refl}
use native.Mathlib.Omega.{arith}
use lib.Pow.{pow_mono, pow_pos, pow-lt}
use lib.Count.{count_trailing_zeros, under}
use lib.Dec.{ltb}
use borrow.Author.Tests.{ltb-true, ltb-false}
use lib.ListN.{length, get_or}
use Rattle.scalars.specs.Mask.{select, sift, up_to, bits, head_or}
use Rattle.scalars.specs.OneBits.{step_of}
use Rattle.scalars.specs.Paper.{accepted}
use Rattle.scalars.specs.Walk.{one_bit, one_bits}
use Rattle.scalars.proofs.Masks.{gain, trailing_lt, trailing_part, select-turn, sift-turn}
use Rattle.scalars.proofs.Bits.{bits-next, bits_none, bits-lowest, mask-bits, up_to-length, up_to-at}

-- a bit alone is its own lowest
trailing_bit : (n t : ℕ) → t < n → count_trailing_zeros n (2 ^ t) ≡ t
unfolding count_trailing_zeros
trailing_bit zero t h = absurd (not-suc-le-zero h)
trailing_bit (suc n) zero h = refl
trailing_bit (suc n) (suc t) h =
    let e : 2 ^ suc t ≡ 2 ^ t * 2 = pow-suc 2 t in
    let low : 2 ^ suc t % 2 ≡ 0 = omega arith in
    let high : 2 ^ suc t / 2 ≡ 2 ^ t = omega arith in
    ap₂ (λ (l u : ℕ). under l (count_trailing_zeros n u)) low high ∙ ap suc (trailing_bit n t (le_of_suc-le-suc h))

-- the step at a word that is not 0, and at 0
pub step-some : (m : ℕ) → 0 < m → m < 2 ^ 64 → step_of (bits 64 m) ≡ accepted (2 ^ count_trailing_zeros 64 m ∷ (m - 2 ^ count_trailing_zeros 64 m) ∷ [])
step-some m q h =
    ap step_of (bits-next 64 64 m (le_refl 64) q h)
    ∙ ap (λ (r : ℕ). accepted (2 ^ count_trailing_zeros 64 m ∷ r ∷ [])) (mask-bits 64 (m - 2 ^ count_trailing_zeros 64 m) (omega arith))

pub step-none : (m : ℕ) → m ≡ 0 → step_of (bits 64 m) ≡ accepted []
step-none m e = ap (λ (x : ℕ). step_of (bits 64 x)) e ∙ ap step_of (bits_none 64)

-- the same of what is still to come
pub left-some : (m : ℕ) → 0 < m → m < 2 ^ 64 → one_bits (record { 0 = m }) ≡ one_bit (count_trailing_zeros 64 m) ∷ one_bits (record { 0 = m - 2 ^ count_trailing_zeros 64 m })
left-some m q h = ap (map one_bit) (bits-next 64 64 m (le_refl 64) q h)

pub left-none : (m : ℕ) → m ≡ 0 → one_bits (record { 0 = m }) ≡ []
left-none m e = ap (λ (x : ℕ). map one_bit (bits 64 x)) e ∙ ap (map one_bit) (bits_none 64)

-- a step to a bit: the word is not 0, and the bit is its lowest
pub record Taken (m k b r : ℕ) : Type 0 where
  pub some : 0 < m
  pub number : k ≡ head_or 64 (bits 64 m)
  pub bit : b ≡ 2 ^ k
  pub rest : r ≡ m - 2 ^ k

module _ (m : ℕ) (h : m < 2 ^ 64) where
  pub taken : {b r k : ℕ} → accepted (b ∷ r ∷ []) ≡ step_of (bits 64 m) → k ≡ head_or 64 (bits 64 b) → Taken m k b r
  taken {b} {r} {k} p f = go (ltb 0 m) refl
    where
      go : (x : Bool) → ltb 0 m ≡ x → Taken m k b r
      go true z =
          let q : 0 < m = ltb-true 0 m z in
          let t : count_trailing_zeros 64 m < 64 = trailing_lt 64 64 m (le_refl 64) q h in
          let i = p ∙ step-some m q h in
          let bit : b ≡ 2 ^ count_trailing_zeros 64 m = cc in
          let rest : r ≡ m - 2 ^ count_trailing_zeros 64 m = cc in
          let number : k ≡ count_trailing_zeros 64 m =
          f ∙ ap (λ (x : ℕ). head_or 64 (bits 64 x)) bit ∙ bits-lowest 64 (2 ^ count_trailing_zeros 64 m) (pow-lt t) ∙ trailing_bit 64 (count_trailing_zeros 64 m) t in
          record { some = q; number = number ∙ sym (bits-lowest 64 m h); bit = rw number bit; rest = rw number rest }
      go false z =
          let i = p ∙ step-none m (omega (arith, ltb-false 0 m z)) in
          let z : ◌≡◌ {A = ℕ} 0 1 = cc in
          absurd (omega arith)

  -- at the end of a walk nothing is left
  pub ended : accepted [] ≡ step_of (bits 64 m) → m ≡ 0
  ended n = go (ltb 0 m) refl
    where
      go : (x : Bool) → ltb 0 m ≡ x → m ≡ 0
      go true z =
          let p = n ∙ step-some m (ltb-true 0 m z) h in
          let z : ◌≡◌ {A = ℕ} 0 1 = cc in
          absurd (omega arith)
      go false z = omega (arith, ltb-false 0 m z)

  pub ended-bits : (k : ℕ) → accepted [] ≡ step_of (bits 64 m) → bits k m ≡ []
  ended-bits k n = ap (bits k) (ended n) ∙ bits_none k

-- one turn of a walk over the members of a mask m: the lowest member x and its number k, its bit b, and the mask r that is left
pub record Walked {A : Type 0} (x : A) (xs : List A) (m k b r : ℕ) : Type 0 where
  pub below : k < length xs
  pub apart : m ≡ b + r
  pub some : 0 < b
  pub less : r < 2 ^ length xs
  pub members : select xs m ≡ x ∷ select xs r
  pub step : (p : A → Bool) → sift p xs m ≡ gain (p x) b + sift p xs r

-- of a mask that is not 0
pub lowest : {A : Type 0} (d : A) (xs : List A) (m : ℕ) {k : ℕ} → length xs ≤ 64 → 0 < m → m < 2 ^ length xs → k ≡ head_or 64 (bits 64 m)
    → Walked (get_or xs k d) xs m k (2 ^ k) (m - 2 ^ k)
lowest d xs m l q h e =
    let w : m < 2 ^ 64 = lt_of_lt_of_le h (pow_mono l) in
    let part : 2 ^ count_trailing_zeros 64 m ≤ m = trailing_part 64 m q w in
    rw (e ∙ bits-lowest 64 m w) record {
      below = trailing_lt (length xs) 64 m l q h;
      apart = omega arith;
      some = pow_pos (count_trailing_zeros 64 m);
      less = omega arith;
      members = select-turn d xs 64 m l q h;
      step = λ p. sift-turn p d xs 64 m l q h;
    }

pub walked : {A : Type 0} (d : A) (xs : List A) (m : ℕ) {b r k : ℕ} → length xs ≤ 64 → m < 2 ^ length xs
    → accepted (b ∷ r ∷ []) ≡ step_of (bits 64 m) → k ≡ head_or 64 (bits 64 b) → Walked (get_or xs k d) xs m k b r
walked d xs m l h n f =
    let t = taken m (lt_of_lt_of_le h (pow_mono l)) n f in
    rw (t.bit, t.rest) (lowest d xs m l t.some h t.number)

-- the same of the numbers of a mask's bits
pub record WalkedBits (n m k b r : ℕ) : Type 0 where
  pub below : k < n
  pub apart : m ≡ b + r
  pub some : 0 < b
  pub less : r < 2 ^ n
  pub numbers : bits n m ≡ k ∷ bits n r

pub walked-bits : (n m : ℕ) {b r k : ℕ} → n ≤ 64 → m < 2 ^ n
    → accepted (b ∷ r ∷ []) ≡ step_of (bits 64 m) → k ≡ head_or 64 (bits 64 b) → WalkedBits n m k b r
unfolding bits
walked-bits n m {b} {r} {k} l h p f =
    let t = walked 0 (up_to n) m (subst⁻¹ (λ (x : ℕ). x ≤ 64) (up_to-length n) l) (subst⁻¹ (λ (x : ℕ). m < 2 ^ x) (up_to-length n) h) p f in
    let i : k < n = subst (λ (x : ℕ). k < x) (up_to-length n) t.below in
    record {
      below = i;
      apart = t.apart;
      some = t.some;
      less = subst (λ (x : ℕ). r < 2 ^ x) (up_to-length n) t.less;
      numbers = t.members ∙ ap (λ (j : ℕ). j ∷ bits n r) (up_to-at n k i);
    }
