-- Laws of tests on masks, over any test: testing the members filters them, in order; two tests commute; a test done twice is done
-- once; two tests one after the other are the test that asks both. Assumes nothing.
use mathlib.Core.Path.{◌≡◌, refl, sym, ap, ap₂, ◌∙◌}
use mathlib.Core.Bool.{Bool, true, false}
use mathlib.Core.List.{List, [], ◌∷◌}
use Prim.Native.Nat.{ℕ, ◌+◌, ◌*◌, ◌/◌, ◌%◌}
use native.Mathlib.Omega.{arith}
use lib.Dec.{eqb}
use Rattle.scalars.specs.Mask.{cons_if, odd, select, filter, both, digit, sift}

pub low : (s : ℕ) (b : Bool) → (s * 2 + digit b) % 2 ≡ digit b
low s true = omega arith
low s false = omega arith

pub high : (s : ℕ) (b : Bool) → (s * 2 + digit b) / 2 ≡ s
high s true = omega arith
high s false = omega arith

pub digit-test : (b : Bool) → eqb (digit b) 1 ≡ b
digit-test true = refl
digit-test false = refl

-- the lowest bit of a mask that was put together
pub odd_low : (s : ℕ) (b : Bool) → odd (s * 2 + digit b) ≡ b
odd_low s b = ap (λ (r : ℕ). eqb r 1) (low s b) ∙ digit-test b

both_swap : (a b c : Bool) → both (both a b) c ≡ both (both a c) b
both_swap true true true = refl
both_swap true true false = refl
both_swap true false true = refl
both_swap true false false = refl
both_swap false b c = refl

both-twice : (a b : Bool) → both (both a b) b ≡ both a b
both-twice true true = refl
both-twice true false = refl
both-twice false b = refl

module _ {A : Type 0} where
  pub keep_cons : (p : A → Bool) (b : Bool) (x : A) (ys : List A) → cons_if (both b (p x)) x (filter p ys) ≡ filter p (cons_if b x ys)
  keep_cons p true x ys = refl
  keep_cons p false x ys = refl

  -- the members of the mask that is left are the members that pass, in order
  pub select-sift : (p : A → Bool) (xs : List A) (m : ℕ) → select xs (sift p xs m) ≡ filter p (select xs m)
  unfolding sift
  select-sift p [] m = refl
  select-sift p (x ∷ xs) m =
      ap₂ (λ (b : Bool) (s : ℕ). cons_if b x (select xs s)) (odd_low (sift p xs (m / 2)) (both (odd m) (p x))) (high (sift p xs (m / 2)) (both (odd m) (p x)))
      ∙ ap (cons_if (both (odd m) (p x)) x) (select-sift p xs (m / 2))
      ∙ keep_cons p (odd m) x (select xs (m / 2))

  -- two tests, one after the other
  sift_cons : (p q : A → Bool) (x : A) (xs : List A) (m : ℕ)
      → sift p (x ∷ xs) (sift q (x ∷ xs) m) ≡ sift p xs (sift q xs (m / 2)) * 2 + digit (both (both (odd m) (q x)) (p x))
  unfolding sift
  sift_cons p q x xs m =
      ap₂ (λ (b : Bool) (s : ℕ). sift p xs s * 2 + digit (both b (p x))) (odd_low (sift q xs (m / 2)) (both (odd m) (q x))) (high (sift q xs (m / 2)) (both (odd m) (q x)))

  pub sift_comm : (p q : A → Bool) (xs : List A) (m : ℕ) → sift p xs (sift q xs m) ≡ sift q xs (sift p xs m)
  unfolding sift
  sift_comm p q [] m = refl
  sift_comm p q (x ∷ xs) m =
      sift_cons p q x xs m
      ∙ ap₂ (λ (s : ℕ) (b : Bool). s * 2 + digit b) (sift_comm p q xs (m / 2)) (both_swap (odd m) (q x) (p x))
      ∙ sym (sift_cons q p x xs m)

  pub sift-twice : (p : A → Bool) (xs : List A) (m : ℕ) → sift p xs (sift p xs m) ≡ sift p xs m
  unfolding sift
  sift-twice p [] m = refl
  sift-twice p (x ∷ xs) m =
      sift_cons p p x xs m ∙ ap₂ (λ (s : ℕ) (b : Bool). s * 2 + digit b) (sift-twice p xs (m / 2)) (both-twice (odd m) (p x))

  both-assoc : (x : A) (a b c d : Bool) → d ≡ both b c → both (both a b) c ≡ both a d
  both-assoc x true b c d e = sym e
  both-assoc x false b c d e = refl

  -- two tests one after the other are the test that asks both
  pub sift-both : (p q r : A → Bool) → ((x : A) → r x ≡ both (q x) (p x)) → (xs : List A) (m : ℕ) → sift p xs (sift q xs m) ≡ sift r xs m
  unfolding sift
  sift-both p q r e [] m = refl
  sift-both p q r e (x ∷ xs) m =
      sift_cons p q x xs m
      ∙ ap₂ (λ (s : ℕ) (b : Bool). s * 2 + digit b) (sift-both p q r e xs (m / 2)) (both-assoc x (odd m) (q x) (p x) (r x) (e x))
