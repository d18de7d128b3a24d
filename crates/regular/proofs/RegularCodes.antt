-- A step of a Regular set, by its two masks, keeps of its argument types those that pass: to meet a mask with the mask of the numbers
-- that pass a test is to filter its members by that test. Assumes nothing.
use mathlib.Core.Path.{◌≡◌, refl, sym, ap, ap₂, ◌∙◌}
use mathlib.Core.Bool.{Bool, true, false, not}
use mathlib.Core.List.{List, [], ◌∷◌, ◌++◌, map}
use Prim.Native.Nat.{ℕ, ◌+◌, ◌-◌, ◌*◌, ◌/◌, ◌%◌, ◌^◌, ◌<◌}
use native.Mathlib.Nat.{le_refl}
use native.Mathlib.Omega.{arith}
use lib.Bits.{bit_and}
use lib.Dec.{eqb, eqb→eq, ltb}
use lib.ListN.{length}
use lib.Seq.{take_all}
use borrow.Author.Tests.{lt-ltb, ltb-true}
use Rattle.scalars.specs.Mask.{choose, both, cons_if, odd, filter, every, select, sift, up_to, bits, mask_of}
use Rattle.scalars.specs.Domain.{scalars, abstract?, converts, scalar_count}
use Rattle.types.specs.Domain.{constructors, value?, constructor_part, scalar_part, is_abstract, constructor_count, other_type}
use Rattle.rules.specs.Signature.{fits_by}
use Rattle.rules.specs.declared.rule.Part.{Part}
use Rattle.rules.specs.declared.rule.Part.TheVariants.{Shape, Number}
use Rattle.scalars.specs.Scalar.{scalars_that, convertible_from}
use Rattle.types.specs.Constructor.{singleton_of_code}
use Rattle.regular.specs.Regular.{pairs, codes_of, narrowed, concrete_set, reached_scalars}
use Rattle.regular.specs.declared.regular.Regular.{Regular}
use Rattle.scalars.proofs.Table.{at}
use Rattle.scalars.proofs.Meets.{select_meet, select-ones}
use Rattle.scalars.proofs.Bits.{mask-filter}
use Rattle.scalars.proofs.Filters.{both_comm, both_left, both_right, both_true, filter-among, filter-true, filter_none, filter_append, filter_map}

-- ---- a mask met with the mask of the numbers that pass

-- the mask of all that pass
that_mask : (n : ℕ) (p : ℕ → Bool) → mask_of (filter p (up_to n)) ≡ sift p (up_to n) (2 ^ length (up_to n) - 1)
unfolding bits
that_mask n p =
    ap (λ (ks : List ℕ). mask_of (filter p ks)) (sym (select-ones (up_to n) (length (up_to n)) (le_refl _) ∙ take_all (length (up_to n)) (up_to n) (le_refl _)))
    ∙ mask-filter p n (2 ^ length (up_to n) - 1)

pub bits_meet : (n : ℕ) (p : ℕ → Bool) (m : ℕ) → bits n (bit_and m (mask_of (filter p (up_to n)))) ≡ filter p (bits n m)
unfolding bits
bits_meet n p m = ap (λ (s : ℕ). select (up_to n) (bit_and m s)) (that_mask n p) ∙ select_meet p (up_to n) m

-- what holds of every element holds of the members
pub every-select : (p : ℕ → Bool) (xs : List ℕ) (m : ℕ) → every p xs ≡ true → every p (select xs m) ≡ true
every-select p [] m e = refl
every-select p (x ∷ xs) m e = go (odd m) (every-select p xs (m / 2) (both_right (p x) _ e))
  where
    go : (b : Bool) → every p (select xs (m / 2)) ≡ true → every p (cons_if b x (select xs (m / 2))) ≡ true
    go true ih = both_true (both_left (p x) _ e) ih
    go false ih = ih

-- ---- the masks of a step, as masks of the numbers that pass a test

-- what a step by either part asks of a constructor, and of a scalar: a step by shape asks nothing of scalars, one by number nothing of
-- constructors; a type without a scalar has no constructor either
abbrev pub shapes : Part → ℕ → ℕ → Bool
shapes Shape t k = both (value? t) (eqb (constructor_part t) k)
shapes Number t k = true

abbrev pub numbers : Part → ℕ → ℕ → Bool
numbers Shape t s = true
numbers Number t s = both (value? t) (converts (scalar_part t) s)

shape-mask : (t : ℕ) → singleton_of_code t ≡ mask_of (filter (shapes Shape t) constructors)
unfolding singleton_of_code
shape-mask t = go (value? t) refl
  where
    go : (b : Bool) → value? t ≡ b → choose b (2 ^ constructor_part t) 0 ≡ mask_of (filter (λ k. both b (eqb (constructor_part t) k)) constructors)
    go true e =
        let h : t < other_type = ltb-true _ _ e in
        sym (eqb→eq _ _ (at (λ i x. eqb (mask_of (filter (λ k. eqb i k) constructors)) (2 ^ i)) constructors tt (t / scalar_count) (omega arith)))
    go false e = refl

number-mask : (t : ℕ) → reached_scalars t ≡ mask_of (filter (numbers Number t) scalars)
unfolding reached_scalars convertible_from
number-mask t = go (value? t) refl
  where
    go : (b : Bool) → value? t ≡ b → choose b (choose (ltb (scalar_part t) scalar_count) (scalars_that (converts (scalar_part t))) 0) 0 ≡ mask_of (filter (λ s. both b (converts (scalar_part t) s)) scalars)
    go true e = let l : t % scalar_count < scalar_count = omega arith in simp (lt-ltb _ _ l)
    go false e = refl

-- ---- pairs whose parts pass

module _ (p q r : ℕ → Bool) (e : (k s : ℕ) → k < constructor_count → s < scalar_count → p (k * scalar_count + s) ≡ both (q k) (r s)) where
  row : (k : ℕ) → k < constructor_count → (b : Bool) → q k ≡ b → (ss : List ℕ) → every (λ s. ltb s scalar_count) ss ≡ true
      → filter p (map (λ s. k * scalar_count + s) ss) ≡ choose b (map (λ s. k * scalar_count + s) (filter r ss)) []
  row k h true o ss t =
      filter_map p (λ s. k * scalar_count + s) ss
      ∙ ap (map (λ s. k * scalar_count + s))
      (filter-among (λ s. ltb s scalar_count) (λ s. p (k * scalar_count + s)) r (λ s l. e k s h (ltb-true _ _ l) ∙ ap (λ (b : Bool). both b (r s)) o) ss t)
  row k h false o ss t =
      filter_map p (λ s. k * scalar_count + s) ss
      ∙ ap (map (λ s. k * scalar_count + s))
      (filter-among (λ s. ltb s scalar_count) (λ s. p (k * scalar_count + s)) (λ s. false) (λ s l. e k s h (ltb-true _ _ l) ∙ ap (λ (b : Bool). both b (r s)) o) ss t
      ∙ filter_none (λ s. false) (λ s. refl) ss)

  pub pairs-filter : (ks ss : List ℕ) → every (λ k. ltb k constructor_count) ks ≡ true → every (λ s. ltb s scalar_count) ss ≡ true
      → filter p (pairs ks ss) ≡ pairs (filter q ks) (filter r ss)
  pairs-filter [] ss t u = refl
  pairs-filter (k ∷ ks) ss t u =
      filter_append p (map (λ s. k * scalar_count + s) ss) (pairs ks ss)
      ∙ ap₂ (λ (xs ys : List ℕ). xs ++ ys) (row k (ltb-true _ _ (both_left (ltb k constructor_count) _ t)) (q k) refl ss u) (pairs-filter ks ss (both_right (ltb k constructor_count) _ t) u)
      ∙ move (q k)
    where
      move : (b : Bool) → choose b (map (λ s. k * scalar_count + s) (filter r ss)) [] ++ pairs (filter q ks) (filter r ss) ≡ pairs (cons_if b k (filter q ks)) (filter r ss)
      move true = refl
      move false = refl

  -- the types of a set whose parts pass
  pub codes-filter : (c s : ℕ) → filter p (pairs (bits constructor_count c) (bits scalar_count s)) ≡ pairs (filter q (bits constructor_count c)) (filter r (bits scalar_count s))
  unfolding bits
  codes-filter c s = pairs-filter (bits constructor_count c) (bits scalar_count s) (every-select (λ k. ltb k constructor_count) constructors c refl) (every-select (λ s. ltb s scalar_count) scalars s refl)

-- ---- the types that a step leaves

pub fits-pair : (part : Part) (t k s : ℕ) → k < constructor_count → s < scalar_count
    → fits_by part t (k * scalar_count + s) ≡ both (shapes part t k) (numbers part t s)
fits-pair Shape t k s h l =
    let row : (k * scalar_count + s) / scalar_count ≡ k = omega arith in
    ap (λ (c : ℕ). both (value? t) (eqb (constructor_part t) c)) row ∙ both_comm true (both (value? t) (eqb (constructor_part t) k))
fits-pair Number t k s h l =
    let column : (k * scalar_count + s) % scalar_count ≡ s = omega arith in
    let value : k * scalar_count + s < other_type = omega arith in
    simp (column, lt-ltb _ _ value, both_comm (value? t) true)

pub concrete-pair : (k s : ℕ) → k < constructor_count → s < scalar_count → not (is_abstract (k * scalar_count + s)) ≡ both true (not (abstract? s))
unfolding is_abstract
concrete-pair k s h l =
    let column : (k * scalar_count + s) % scalar_count ≡ s = omega arith in
    let value : k * scalar_count + s < other_type = omega arith in
    simp (column, lt-ltb _ _ value)

pub narrowed-constructors : (part : Part) (t : ℕ) (r : Regular)
    → bits constructor_count (narrowed part t r).constructors.0 ≡ filter (shapes part t) (bits constructor_count r.constructors.0)
unfolding narrowed
narrowed-constructors Shape t r =
    ap (λ (m : ℕ). bits constructor_count (bit_and r.constructors.0 m)) (shape-mask t) ∙ bits_meet constructor_count (shapes Shape t) r.constructors.0
narrowed-constructors Number t r = sym (filter-true (bits constructor_count r.constructors.0))

pub narrowed-scalars : (part : Part) (t : ℕ) (r : Regular)
    → bits scalar_count (narrowed part t r).scalars.0 ≡ filter (numbers part t) (bits scalar_count r.scalars.0)
unfolding narrowed
narrowed-scalars Shape t r = sym (filter-true (bits scalar_count r.scalars.0))
narrowed-scalars Number t r =
    ap (λ (m : ℕ). bits scalar_count (bit_and r.scalars.0 m)) (number-mask t) ∙ bits_meet scalar_count (numbers Number t) r.scalars.0

-- an argument step leaves the types that fit the operand's
pub narrowed-codes : (part : Part) (t : ℕ) (r : Regular) → codes_of (narrowed part t r) ≡ filter (fits_by part t) (codes_of r)
unfolding codes_of
narrowed-codes part t r =
    ap₂ pairs (narrowed-constructors part t r) (narrowed-scalars part t r)
    ∙ sym (codes-filter (fits_by part t) (shapes part t) (numbers part t) (fits-pair part t) r.constructors.0 r.scalars.0)

-- the concrete-only step leaves the types that are not abstract
pub concrete-codes : (r : Regular) → codes_of (concrete_set r) ≡ filter (λ a. not (is_abstract a)) (codes_of r)
unfolding codes_of concrete_set
concrete-codes r =
    ap₂ pairs (sym (filter-true (bits constructor_count r.constructors.0))) (bits_meet scalar_count (λ k. not (abstract? k)) r.scalars.0)
    ∙ sym (codes-filter (λ a. not (is_abstract a)) (λ k. true) (λ k. not (abstract? k)) concrete-pair r.constructors.0 r.scalars.0)
