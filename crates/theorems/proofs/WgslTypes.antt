-- The argument types of a Regular set ascend, and are every constructor of the set over every scalar of it. So the first that passes a
-- test is the least. Assumes nothing.
use mathlib.Core.Path.{◌≡◌, refl, sym, ap, subst}
use mathlib.Core.Bool.{Bool, true, false, true≢false}
use mathlib.Core.List.{List, [], ◌∷◌, ◌++◌, map}
use mathlib.Core.Logic.{◌⊎◌, inl, inr, ⊎_elim}
use Prim.Native.Nat.{ℕ, zero, suc, ◌+◌, ◌*◌, ◌/◌, ◌%◌, ◌≤◌, ◌<◌}
use native.Mathlib.Omega.{arith}
use lib.Dec.{eqb, ltb}
use borrow.Author.Tests.{eqb-true, eq-eqb, ltb-true}
use Rattle.scalars.specs.Mask.{either, odd, cons_if, every, select, count_from, bits}
use Rattle.scalars.specs.Domain.{scalars, scalar_count}
use Rattle.types.specs.Domain.{constructor_part, scalar_part, constructor_count}
use Rattle.types.specs.TypeCode.{type_code}
use Rattle.types.proofs.Conversions.{yes_either}
use Rattle.regular.specs.Regular.{pairs, codes_of}
use Rattle.regular.specs.declared.regular.Regular.{Regular}
use Rattle.scalars.proofs.Filters.{both_left, both_right}
use Rattle.regular.proofs.RegularCodes.{every-select}
use Rattle.theorems.specs.Wgsl.{among}
use Rattle.theorems.specs.WgslRegulars.{scalars_of, constructors_of}

-- ---- ascending lists

abbrev pub Ascends : ℕ → List ℕ → Type 0
Ascends n [] = Unit
Ascends n (x ∷ xs) = (n ≤ x) × Ascends (suc x) xs

weaker : (m n : ℕ) (xs : List ℕ) → m ≤ n → Ascends n xs → Ascends m xs
weaker m n [] l a = tt
weaker m n (x ∷ xs) l a = let h = a.0 in (omega arith, a.1)

pub least : (n : ℕ) (xs : List ℕ) → Ascends n xs → (x : ℕ) → among xs x ≡ true → n ≤ x
least n [] a x e = absurd (true≢false (sym e))
least n (y ∷ xs) a x e =
    let h = a.0 in
    ⊎_elim (λ f. let g : x ≡ y = eqb-true x y f in omega arith) (λ f. let g = least (suc y) xs a.1 x f in omega arith)
    (yes_either (eqb x y) (among xs x) e)

select_ascends : (n i m : ℕ) → Ascends i (select (count_from i n) m)
select_ascends zero i m = tt
select_ascends (suc n) i m = go (odd m) (select_ascends n (suc i) (m / 2))
  where
    go : (b : Bool) → Ascends (suc i) (select (count_from (suc i) n) (m / 2)) → Ascends i (cons_if b i (select (count_from (suc i) n) (m / 2)))
    go true a = (omega arith, a)
    go false a = weaker i (suc i) (select (count_from (suc i) n) (m / 2)) (omega arith) a

-- the scalars of a set are below 12
abbrev below : ℕ → Bool
below s = ltb s scalar_count

row_ascends : (k s₀ : ℕ) (ss rest : List ℕ) → Ascends s₀ ss → every below ss ≡ true → s₀ ≤ 12 → Ascends (suc k * 12) rest
    → Ascends (k * 12 + s₀) (map (type_code k) ss ++ rest)
row_ascends k s₀ [] rest a e l r = weaker (k * 12 + s₀) (suc k * 12) rest (omega arith) r
row_ascends k s₀ (s ∷ ss) rest a e l r =
    let h = a.0 in
    let b : s < 12 = ltb-true _ _ (both_left (below s) _ e) in
    let z : k * 12 + suc s ≡ suc (k * 12 + s) = omega arith in
    let more = row_ascends k (suc s) ss rest a.1 (both_right (below s) _ e) (omega arith) r in
    (omega arith, subst (λ (n : ℕ). Ascends n (map (type_code k) ss ++ rest)) z more)

pairs_ascends : (k₀ : ℕ) (ks ss : List ℕ) → Ascends k₀ ks → Ascends 0 ss → every below ss ≡ true → Ascends (k₀ * 12) (pairs ks ss)
pairs_ascends k₀ [] ss a b e = tt
pairs_ascends k₀ (k ∷ ks) ss a b e =
    let h = a.0 in
    weaker (k₀ * 12) (k * 12 + 0) (pairs (k ∷ ks) ss) (omega arith)
    (row_ascends k 0 ss (pairs ks ss) b e (omega arith) (pairs_ascends (suc k) ks ss a.1 b e))

-- ---- members

yes_left : (a b : Bool) → a ≡ true → either a b ≡ true
yes_left a b e = rw e

pub yes_right : (a : Bool) {b : Bool} → b ≡ true → either a b ≡ true
yes_right true e = refl
yes_right false e = e

among-left : (xs ys : List ℕ) (x : ℕ) → among xs x ≡ true → among (xs ++ ys) x ≡ true
among-left [] ys x e = absurd (true≢false (sym e))
among-left (y ∷ xs) ys x e =
    ⊎_elim (yes_left (eqb x y) _) (λ f. yes_right (eqb x y) (among-left xs ys x f)) (yes_either (eqb x y) (among xs x) e)

among-right : (xs ys : List ℕ) (x : ℕ) → among ys x ≡ true → among (xs ++ ys) x ≡ true
among-right [] ys x e = e
among-right (y ∷ xs) ys x e = yes_right (eqb x y) (among-right xs ys x e)

among-either : (xs ys : List ℕ) (x : ℕ) → among (xs ++ ys) x ≡ true → (among xs x ≡ true) ⊎ (among ys x ≡ true)
among-either [] ys x e = inr e
among-either (y ∷ xs) ys x e =
    ⊎_elim (λ f. inl (yes_left (eqb x y) _ f))
    (λ f. ⊎_elim (λ g. inl (yes_right (eqb x y) g)) inr (among-either xs ys x f))
    (yes_either (eqb x y) (among (xs ++ ys) x) e)

row_has : (k : ℕ) (ss : List ℕ) (s : ℕ) → among ss s ≡ true → among (map (type_code k) ss) (type_code k s) ≡ true
row_has k [] s e = absurd (true≢false (sym e))
row_has k (u ∷ ss) s e =
    ⊎_elim (λ f. yes_left (eqb (type_code k s) (type_code k u)) _ (eq-eqb _ _ (ap (type_code k) (eqb-true s u f))))
    (λ f. yes_right (eqb (type_code k s) (type_code k u)) (row_has k ss s f)) (yes_either (eqb s u) (among ss s) e)

pairs-has : (ks ss : List ℕ) (k s : ℕ) → among ks k ≡ true → among ss s ≡ true → among (pairs ks ss) (type_code k s) ≡ true
pairs-has [] ss k s e f = absurd (true≢false (sym e))
pairs-has (l ∷ ks) ss k s e f =
    ⊎_elim
    (λ g. among-left (map (type_code l) ss) (pairs ks ss) (type_code k s)
    (subst (λ (n : ℕ). among (map (type_code l) ss) (type_code n s) ≡ true) (sym (eqb-true k l g)) (row_has l ss s f)))
    (λ g. among-right (map (type_code l) ss) (pairs ks ss) (type_code k s) (pairs-has ks ss k s g f))
    (yes_either (eqb k l) (among ks k) e)

-- a type of the set: its constructor and its scalar are the set's
record Parts (ks ss : List ℕ) (a : ℕ) : Type 0 where
  constructor : among ks (constructor_part a) ≡ true
  scalar : among ss (scalar_part a) ≡ true

row-parts : (k : ℕ) (ss : List ℕ) (a : ℕ) → every below ss ≡ true → among (map (type_code k) ss) a ≡ true
    → (constructor_part a ≡ k) × (among ss (scalar_part a) ≡ true)
row-parts k [] a l e = absurd (true≢false (sym e))
row-parts k (s ∷ ss) a l e =
    ⊎_elim
    (λ f.
    let g : a ≡ k * 12 + s = eqb-true _ _ f in
    let b : s < 12 = ltb-true _ _ (both_left (below s) _ l) in
    let c : a / 12 ≡ k = omega arith in
    let d : a % 12 ≡ s = omega arith in
    (c, yes_left (eqb (a % 12) s) _ (eq-eqb _ _ d)))
    (λ f. let h = row-parts k ss a (both_right (below s) _ l) f in (h.0, yes_right (eqb (a % 12) s) h.1))
    (yes_either (eqb a (type_code k s)) _ e)

pairs-parts : (ks ss : List ℕ) (a : ℕ) → every below ss ≡ true → among (pairs ks ss) a ≡ true → Parts ks ss a
pairs-parts [] ss a l e = absurd (true≢false (sym e))
pairs-parts (k ∷ ks) ss a l e =
    ⊎_elim
    (λ f. let h = row-parts k ss a l f in record { constructor = yes_left (eqb (a / 12) k) _ (eq-eqb _ _ h.0); scalar = h.1 })
    (λ f. let h = pairs-parts ks ss a l f in record { constructor = yes_right (eqb (a / 12) k) h.constructor; scalar = h.scalar })
    (among-either (map (type_code k) ss) (pairs ks ss) a e)

-- ---- of a Regular set

module _ (r : Regular) where
  all-below : every below (scalars_of r) ≡ true
  unfolding bits
  all-below = every-select below scalars r.scalars.0 refl

  pub codes_ascend : Ascends 0 (codes_of r)
  unfolding codes_of bits
  codes_ascend =
      pairs_ascends 0 (constructors_of r) (scalars_of r) (select_ascends constructor_count 0 r.constructors.0)
      (select_ascends scalar_count 0 r.scalars.0) all-below

  -- its scalars are scalars
  pub known-scalars : every (among scalars) (scalars_of r) ≡ true
  unfolding bits
  known-scalars = every-select (among scalars) scalars r.scalars.0 refl

  pub scalar_in : (a : ℕ) → among (codes_of r) a ≡ true → among (scalars_of r) (scalar_part a) ≡ true
  unfolding codes_of
  scalar_in a e = (pairs-parts (constructors_of r) (scalars_of r) a all-below e).scalar

  -- each of its constructors over each of its scalars is a type of the set
  pub type_in : (k s : ℕ) → among (constructors_of r) k ≡ true → among (scalars_of r) s ≡ true → among (codes_of r) (type_code k s) ≡ true
  unfolding codes_of
  type_in k s e f = pairs-has (constructors_of r) (scalars_of r) k s e f

  -- so is a type of the set with another scalar of it
  pub other-scalar : (a s : ℕ) → among (codes_of r) a ≡ true → among (scalars_of r) s ≡ true → among (codes_of r) (type_code (constructor_part a) s) ≡ true
  unfolding codes_of
  other-scalar a s e f = type_in (constructor_part a) s (pairs-parts (constructors_of r) (scalars_of r) a all-below e).constructor f
