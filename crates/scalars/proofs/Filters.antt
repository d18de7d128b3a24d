-- Laws of `filter`, over any test. By its definition a filter keeps the order. Two filters one after the other are the filter that
-- asks both, so filters commute, and a filter done twice is done once; one that every element passes changes nothing.
-- Assumes nothing.
use mathlib.Core.Path.{◌≡◌, refl, sym, ap, ap₂, ◌∙◌}
use mathlib.Core.Bool.{Bool, true, false}
use mathlib.Core.List.{List, [], ◌∷◌, ◌++◌, map}
use Prim.Native.Nat.{ℕ}
use native.Mathlib.Omega.{arith}
use Rattle.scalars.specs.Mask.{both, cons_if, filter, every}
use Rattle.scalars.proofs.Sifts.{keep_cons}

pub both_comm : (a b : Bool) → both a b ≡ both b a
both_comm true true = refl
both_comm true false = refl
both_comm false true = refl
both_comm false false = refl

pub both_self : (a : Bool) → both a a ≡ a
both_self true = refl
both_self false = refl

pub both_left : (a b : Bool) → both a b ≡ true → a ≡ true
both_left true b e = refl
both_left false b e = e

pub both_right : (a b : Bool) → both a b ≡ true → b ≡ true
both_right true b e = e
both_right false b e = let z : ◌≡◌ {A = ℕ} 0 1 = cc in absurd (omega arith)

pub both_true : {a b : Bool} → a ≡ true → b ≡ true → both a b ≡ true
both_true e f = simp (e, f)

module _ {A : Type 0} where
  -- two tests that say the same of each element that passes a third
  pub filter-among : (among p q : A → Bool) → ((x : A) → among x ≡ true → p x ≡ q x) → (xs : List A) → every among xs ≡ true
      → filter p xs ≡ filter q xs
  filter-among among p q same [] e = refl
  filter-among among p q same (x ∷ xs) e =
      ap₂ (λ (b : Bool) (ys : List A). cons_if b x ys) (same x (both_left (among x) _ e)) (filter-among among p q same xs (both_right (among x) _ e))

  -- two tests that say the same
  pub filter_same : (p q : A → Bool) → ((x : A) → p x ≡ q x) → (xs : List A) → filter p xs ≡ filter q xs
  filter_same p q same [] = refl
  filter_same p q same (x ∷ xs) = ap₂ (λ (b : Bool) (ys : List A). cons_if b x ys) (same x) (filter_same p q same xs)

  -- two tests one after the other are the test that asks both
  pub filter_both : (p q : A → Bool) (xs : List A) → filter p (filter q xs) ≡ filter (λ x. both (q x) (p x)) xs
  filter_both p q [] = refl
  filter_both p q (x ∷ xs) = sym (keep_cons p (q x) x (filter q xs)) ∙ ap (cons_if (both (q x) (p x)) x) (filter_both p q xs)

  pub filter_comm : (p q : A → Bool) (xs : List A) → filter p (filter q xs) ≡ filter q (filter p xs)
  filter_comm p q xs =
      filter_both p q xs ∙ filter_same (λ x. both (q x) (p x)) (λ x. both (p x) (q x)) (λ x. both_comm (q x) (p x)) xs ∙ sym (filter_both q p xs)

  pub filter-twice : (p : A → Bool) (xs : List A) → filter p (filter p xs) ≡ filter p xs
  filter-twice p xs = filter_both p p xs ∙ filter_same (λ x. both (p x) (p x)) p (λ x. both_self (p x)) xs

  -- every element passes, or none does
  pub filter-all : (p : A → Bool) (xs : List A) → every p xs ≡ true → filter p xs ≡ xs
  filter-all p [] e = refl
  filter-all p (x ∷ xs) e = ap₂ (λ (b : Bool) (ys : List A). cons_if b x ys) (both_left (p x) _ e) (filter-all p xs (both_right (p x) _ e))

  -- a test that asks nothing
  pub filter-true : (xs : List A) → filter (λ x. true) xs ≡ xs
  filter-true [] = refl
  filter-true (x ∷ xs) = ap (λ (ys : List A). x ∷ ys) (filter-true xs)

  pub filter_none : (p : A → Bool) → ((x : A) → p x ≡ false) → (xs : List A) → filter p xs ≡ []
  filter_none p none [] = refl
  filter_none p none (x ∷ xs) = ap₂ (λ (b : Bool) (ys : List A). cons_if b x ys) (none x) (filter_none p none xs)

  pub filter_append : (p : A → Bool) (xs ys : List A) → filter p (xs ++ ys) ≡ filter p xs ++ filter p ys
  filter_append p [] ys = refl
  filter_append p (x ∷ xs) ys = ap (cons_if (p x) x) (filter_append p xs ys) ∙ move (p x)
    where
      move : (b : Bool) → cons_if b x (filter p xs ++ filter p ys) ≡ cons_if b x (filter p xs) ++ filter p ys
      move true = refl
      move false = refl

  -- what holds of every element of two lists holds of both together
  pub every_append : (p : A → Bool) (xs ys : List A) → every p xs ≡ true → every p ys ≡ true → every p (xs ++ ys) ≡ true
  every_append p [] ys e f = f
  every_append p (x ∷ xs) ys e f = both_true (both_left (p x) _ e) (every_append p xs ys (both_right (p x) _ e) f)

  -- what holds of every element holds of those that are left
  pub every-filter : (p q : A → Bool) (xs : List A) → every p xs ≡ true → every p (filter q xs) ≡ true
  every-filter p q [] e = refl
  every-filter p q (x ∷ xs) e = go (q x) (every-filter p q xs (both_right (p x) _ e))
    where
      go : (b : Bool) → every p (filter q xs) ≡ true → every p (cons_if b x (filter q xs)) ≡ true
      go true ih = both_true (both_left (p x) _ e) ih
      go false ih = ih

pub filter_map : {A B : Type 0} (p : B → Bool) (f : A → B) (xs : List A) → filter p (map f xs) ≡ map f (filter (λ x. p (f x)) xs)
filter_map p f [] = refl
filter_map {A} p f (x ∷ xs) = ap (cons_if (p (f x)) (f x)) (filter_map p f xs) ∙ move (p (f x)) (filter (λ x. p (f x)) xs)
  where
    move : (b : Bool) (ys : List A) → cons_if b (f x) (map f ys) ≡ map f (cons_if b x ys)
    move true ys = refl
    move false ys = refl
