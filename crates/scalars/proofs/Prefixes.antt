-- The first n elements of a list: the element at an index, then what is left of them, and whether each passes a test. Assumes nothing.
use mathlib.Core.Path.{◌≡◌, refl, sym, ap, ◌∙◌, subst⁻¹}
use mathlib.Core.Bool.{Bool, true, false}
use mathlib.Core.List.{List, [], ◌∷◌, map}
use Prim.Native.Nat.{ℕ, zero, suc, ◌+◌, ◌≤◌, ◌<◌, min}
use native.Mathlib.Nat.{le_of_suc-le-suc, not-suc-le-zero}
use native.Mathlib.Numerals.{add-one}
use native.Mathlib.Omega.{arith}
use lib.Dec.{ltb}
use borrow.Author.Tests.{ltb-true, ltb-false}
use lib.ListN.{length, take, drop, get_or, drop_of_length-le}
use lib.Seq.{take_all, drop-cons, get_or-take, length-take-le}
use Rattle.scalars.specs.Mask.{both, every}

-- no more than the list has are taken
pub take_min : {A : Type 0} (xs : List A) (n m : ℕ) {k : ℕ} → length xs ≡ m → k ≡ min n m → take k xs ≡ take n xs
take_min {A = A} xs n m l e = ap (λ (i : ℕ). take i xs) e ∙ go (ltb m n) refl
  where
    go : (b : Bool) → ltb m n ≡ b → take (min n m) xs ≡ take n xs
    go true h = take_all (min n m) xs (omega (arith, ltb-true m n h)) ∙ sym (take_all n xs (omega (arith, ltb-true m n h)))
    go false h = let s : min n m ≡ n = omega (arith, ltb-false m n h) in ap (λ (i : ℕ). take i xs) s

-- what a function gives at an index that is there
pub map_at : {A B : Type 0} (f : A → B) (xs : List A) (n : ℕ) (d : A) (e : B) → n < length xs → get_or (map f xs) n e ≡ f (get_or xs n d)
map_at f [] n d e h = absurd (not-suc-le-zero h)
map_at f (x ∷ xs) zero d e h = refl
map_at f (x ∷ xs) (suc n) d e h = map_at f xs n d e (le_of_suc-le-suc h)

-- one element further
module _ {A : Type 0} (d : A) (xs : List A) (n i : ℕ) (l : n ≤ length xs) where
  pub next : i < n → drop i (take n xs) ≡ get_or xs i d ∷ drop (i + 1) (take n xs)
  next h = drop-cons (take n xs) i d (subst⁻¹ (λ (k : ℕ). i < k) (length-take-le n xs l) h) ∙ rw (get_or-take, add-one)

  pub ended : n ≤ i → drop i (take n xs) ≡ []
  ended h = drop_of_length-le (take n xs) (subst⁻¹ (λ (k : ℕ). k ≤ i) (length-take-le n xs l) h)

pub both_true : (a b : Bool) → both a b ≡ true → (a ≡ true) × (b ≡ true)
both_true true b e = (refl, e)
both_true false b e = let z : ◌≡◌ {A = ℕ} 0 1 = cc in absurd (omega arith)

-- if each of the first n passes, the one at an index does
pub every-at : {A : Type 0} (d : A) (p : A → Bool) (xs : List A) (n i : ℕ) → n ≤ length xs → i < n → every p (take n xs) ≡ true → p (get_or xs i d) ≡ true
every-at d p [] n i l h e = absurd (omega arith)
every-at d p (x ∷ xs) zero i l h e = absurd (not-suc-le-zero h)
every-at d p (x ∷ xs) (suc n) zero l h e = (both_true (p x) (every p (take n xs)) e).0
every-at d p (x ∷ xs) (suc n) (suc i) l h e = every-at d p xs n i (le_of_suc-le-suc l) (le_of_suc-le-suc h) (both_true (p x) (every p (take n xs)) e).1
