-- Whether a set has one member, as specs/Singleton.antt states it. The members are listed by `bits`, as many as there are ones; and what
-- m and m − 1 have in common is m without its lowest bit. Assumes nothing.
use mathlib.Core.Path.{◌≡◌, refl, sym, ap, ap₂, ◌∙◌}
use mathlib.Core.Logic.{◌↔◌}
use mathlib.Core.Bool.{Bool, true, false}
use mathlib.Core.List.{List, [], ◌∷◌}
use Prim.Native.Nat.{ℕ, zero, suc, ◌+◌, ◌-◌, ◌*◌, ◌/◌, ◌%◌, ◌^◌, ◌<◌, min, suc-le-suc}
use native.Mathlib.Nat.{zero-min, not-suc-le-zero, le_of_suc-le-suc, zero-lt-suc, pow-suc, le_refl}
use native.Mathlib.Omega.{arith}
use borrow.Author.Tests.{eqb-true, eq-eqb, ltb-true, ltb-false}
use lib.Bits.{bit_and, and_step, and_self, and_zero_l}
use lib.Count.{ones, ones_cat, count_trailing_zeros, under}
use lib.Dec.{ltb}
use lib.Pow.{pow_pos}
use lib.ListN.{length}
use Rattle.scalars.specs.Mask.{cons_if, odd, select, count_from, bits, mask_of}
use Rattle.scalars.specs.OneBits.{step_of}
use Rattle.std.specs.Prelude.{Option}
use Rattle.scalars.specs.Paper.{accepted, walk_paper}
use Rattle.scalars.specs.declared.one_bits_iter.OneBit.{OneBit}
use Rattle.scalars.proofs.Masks.{half_lt, half_pos, two, trailing_part}
use Rattle.scalars.proofs.Bits.{bits-next, bits-count, bits-lowest, mask-bits}
use Rattle.scalars.proofs.Walks.{taken}
use Rattle.theorems.proofs.Papers.{yes_not-no}
use Rattle.theorems.specs.Singleton.{Member, OneMember, PowerOfTwo, NoCommonBit, OfMask, Theorem}

-- ---- the listed members are the members

-- where none is listed there is none
none-members : (i w m : ℕ) → length (select (count_from i w) m) ≡ 0 → (k : ℕ) → Member w m k → ⊥
none-members i zero m e k (h, b) = not-suc-le-zero h
none-members i (suc w) m e k t = go (odd m) refl e (none-members (suc i) w (m / 2)) k t
  where
    go : (b : Bool) → odd m ≡ b → length (cons_if b i (select (count_from (suc i) w) (m / 2))) ≡ 0
        → (length (select (count_from (suc i) w) (m / 2)) ≡ 0 → (k : ℕ) → Member w (m / 2) k → ⊥)
        → (k : ℕ) → Member (suc w) m k → ⊥
    go true o e ih k t = omega arith
    go false o e ih zero (h, b) = yes_not-no b o
    go false o e ih (suc k) (h, b) = ih e k (le_of_suc-le-suc h, b)

none-listed : (i w m : ℕ) → ((k : ℕ) → Member w m k → ⊥) → length (select (count_from i w) m) ≡ 0
none-listed i zero m n = refl
none-listed i (suc w) m n = go (odd m) refl (none-listed (suc i) w (m / 2) (λ k (h, b). n (suc k) (suc-le-suc h, b)))
  where
    go : (b : Bool) → odd m ≡ b → length (select (count_from (suc i) w) (m / 2)) ≡ 0 → length (cons_if b i (select (count_from (suc i) w) (m / 2))) ≡ 0
    go true o ih = absurd (n 0 (zero-lt-suc w, o))
    go false o ih = ih

-- one is listed exactly where there is one
one-member : (i w m : ℕ) → length (select (count_from i w) m) ≡ 1 → OneMember w m
one-member i zero m e = absurd (omega arith)
one-member i (suc w) m e = go (odd m) refl e (one-member (suc i) w (m / 2))
  where
    go : (b : Bool) → odd m ≡ b → length (cons_if b i (select (count_from (suc i) w) (m / 2))) ≡ 1
        → (length (select (count_from (suc i) w) (m / 2)) ≡ 1 → OneMember w (m / 2)) → OneMember (suc w) m
    go true o e ih = record { member = 0; there = (zero-lt-suc w, o); alone = alone }
      where
        alone : (k : ℕ) → Member (suc w) m k → k ≡ 0
        alone zero t = refl
        alone (suc k) (h, b) = absurd (none-members (suc i) w (m / 2) (omega arith) k (le_of_suc-le-suc h, b))
    go false o e ih =
        let one = ih e in
        record { member = suc one.member; there = (suc-le-suc one.there.0, one.there.1); alone = alone one }
      where
        alone : (one : OneMember w (m / 2)) (k : ℕ) → Member (suc w) m k → k ≡ suc one.member
        alone one zero (h, b) = yes_not-no b o
        alone one (suc k) (h, b) = ap suc (one.alone k (le_of_suc-le-suc h, b))

one-listed : (i w m k : ℕ) → Member w m k → ((j : ℕ) → Member w m j → j ≡ k) → length (select (count_from i w) m) ≡ 1
one-listed i zero m k (h, b) a = absurd (not-suc-le-zero h)
one-listed i (suc w) m k t a = go (odd m) refl k t a (one-listed (suc i) w (m / 2))
  where
    go : (b : Bool) → odd m ≡ b → (k : ℕ) → Member (suc w) m k → ((j : ℕ) → Member (suc w) m j → j ≡ k)
        → ((k : ℕ) → Member w (m / 2) k → ((j : ℕ) → Member w (m / 2) j → j ≡ k) → length (select (count_from (suc i) w) (m / 2)) ≡ 1)
        → length (cons_if b i (select (count_from (suc i) w) (m / 2))) ≡ 1
    go true o k t a ih =
        ap suc (none-listed (suc i) w (m / 2) (λ j (h, b). let first = a 0 (zero-lt-suc w, o) in let other = a (suc j) (suc-le-suc h, b) in omega arith))
    go false o zero (h, b) a ih = yes_not-no b o
    go false o (suc k) (h, b) a ih = ih k (le_of_suc-le-suc h, b) (λ j (l, c). let e = a (suc j) (suc-le-suc l, c) in omega arith)

exactly-one : (w m : ℕ) → length (bits w m) ≡ 1 ↔ OneMember w m
unfolding bits
exactly-one w m = (one-member 0 w m, λ o. one-listed 0 w m o.member o.there o.alone)

-- ---- subtracting one and masking takes the lowest bit away

masked : (n m : ℕ) → 0 < m → m < 2 ^ n → bit_and m (m - 1) ≡ m - 2 ^ count_trailing_zeros n m
unfolding count_trailing_zeros
masked zero m p h = absurd (omega arith)
masked (suc n) m p h = and_step m (m - 1) ∙ go (m % 2) refl (λ e. masked n (m / 2) (half_pos m p e) (half_lt m n h))
  where
    go : (r : ℕ) → m % 2 ≡ r → (m % 2 ≡ 0 → bit_and (m / 2) (m / 2 - 1) ≡ m / 2 - 2 ^ count_trailing_zeros n (m / 2))
        → bit_and (m / 2) ((m - 1) / 2) * 2 + min r ((m - 1) % 2) ≡ m - 2 ^ under r (count_trailing_zeros n (m / 2))
    go zero e ih =
        let half : (m - 1) / 2 ≡ m / 2 - 1 = omega arith in
        ap₂ (λ (x y : ℕ). x * 2 + y) (ap (bit_and (m / 2)) half ∙ ih e) (zero-min ((m - 1) % 2)) ∙ omega (arith, pow-suc 2 (count_trailing_zeros n (m / 2)))
    go (suc zero) e ih =
        let half : (m - 1) / 2 ≡ m / 2 = omega arith in
        let low : (m - 1) % 2 ≡ 0 = omega arith in
        ap₂ (λ (x y : ℕ). x * 2 + min 1 y) (ap (bit_and (m / 2)) half ∙ and_self (m / 2)) low ∙ omega arith
    go (suc (suc r)) e ih = two m r e

empty-mask : (w m : ℕ) → m < 2 ^ w → ones m ≡ 0 → m ≡ 0
empty-mask w m h e = go (bits w m) refl (sym (bits-count w m h) ∙ e)
  where
    go : (ks : List ℕ) → bits w m ≡ ks → length ks ≡ 0 → m ≡ 0
    go [] q l = sym (mask-bits w m h) ∙ ap mask_of q
    go (k ∷ ks) q l = absurd (omega arith)

none-counted : ones 0 ≡ 1 → ⊥
unfolding ones
none-counted e = omega arith

module _ (w m : ℕ) (h : m < 2 ^ w) where
  module _ (p : 0 < m) where
    abbrev rest : ℕ
    rest = m - 2 ^ count_trailing_zeros w m

    one_less : ones m ≡ suc (ones rest)
    one_less =
        bits-count w m h ∙ ap length (bits-next w w m (le_refl w) p h)
        ∙ ap suc (sym (bits-count w rest (omega arith)))

    lowest-alone : ones m ≡ 1 → rest ≡ 0
    lowest-alone e = empty-mask w rest (omega arith) (let f = one_less in omega arith)

    subtracted : ones m ≡ 1 ↔ NoCommonBit m (m - 1)
    unfolding ones
    subtracted = (
      λ e. masked w m p h ∙ lowest-alone e,
      λ e. one_less ∙ ap (λ (x : ℕ). suc (ones x)) (sym (masked w m p h) ∙ e),
    )

  power_of_two_lem : ones m ≡ 1 ↔ PowerOfTwo m
  unfolding ones
  power_of_two_lem = (λ e. go (ltb 0 m) refl e, λ (k, q). let e : m ≡ 1 * 2 ^ k + 0 = omega arith in ap ones e ∙ ones_cat k 1 0 (pow_pos k))
    where
      go : (b : Bool) → ltb 0 m ≡ b → ones m ≡ 1 → PowerOfTwo m
      go true z e =
          let p = ltb-true 0 m z in
          (count_trailing_zeros w m, omega (arith, lowest-alone p e, trailing_part w m p h))
      go false z e = let n : m ≡ 0 = omega (arith, ltb-false 0 m z) in absurd (none-counted (sym (ap ones n) ∙ e))

  of_mask : OfMask w m
  of_mask = record {
    counted = (λ e. (exactly-one w m).0 (sym (bits-count w m h) ∙ e), λ o. bits-count w m h ∙ (exactly-one w m).1 o);
    power_of_two = power_of_two_lem;
    subtracted = subtracted;
  }

-- a step to a bit leaves what m and m − 1 have in common
behind : (m b left : ℕ) → m < 2 ^ 64 → accepted (b ∷ left ∷ []) ≡ step_of (bits 64 m) → left ≡ bit_and m (m - 1)
behind m b left h p =
    let t = taken m h p refl in
    t.rest ∙ ap (λ (k : ℕ). m - 2 ^ k) (t.number ∙ bits-lowest 64 m h) ∙ sym (masked 64 m t.some h)

pub singleton : Theorem
singleton = record {
  masks = of_mask;
  none = record { counted = none-counted; subtracted = and_zero_l };
  asked = λ κs a r v p. (
    λ y. (exactly-one 16 a.0.0).0 (eqb-true (length (bits 16 a.0.0)) 1 (sym p ∙ y)),
    λ o. p ∙ eq-eqb (length (bits 16 a.0.0)) 1 ((exactly-one 16 a.0.0).1 o),
  );
  walked = λ κs a r v p b h e.
      behind a.0.now.0 b.0 v.0.0 h (sym (ap (λ (x : Option OneBit). walk_paper x v.0) e) ∙ p.0.1);
}
