-- When two byte strings are the same, and how a comparison from the front on finds out. Assumes nothing.
use mathlib.Core.Path.{◌≡◌, refl, sym, ap, ap₂, ◌∙◌}
use mathlib.Core.Bool.{Bool, true, false}
use mathlib.Core.List.{List, [], ◌∷◌}
use Prim.Native.Nat.{ℕ, ◌+◌, ◌≤◌, ◌<◌}
use native.Mathlib.Omega.{arith}
use native.Mathlib.Numerals.{add-one}
use borrow.Author.Tests.{eq-eqb, ne_eqb, eqb-true}
use lib.Dec.{eqb}
use lib.ListN.{length, get_or, drop, drop_of_length-le}
use lib.Seq.{drop-cons}
use Rattle.scalars.specs.Mask.{choose}
use Rattle.names.specs.Names.{same}

pub apart : {A : Type 0} → false ≡ true → A
apart e = let z : ◌≡◌ {A = ℕ} 0 1 = cc in absurd (omega arith)

pub same-is : (a b : List ℕ) → same a b ≡ true → a ≡ b
unfolding same
same-is [] [] e = refl
same-is [] (y ∷ ys) e = apart e
same-is (x ∷ xs) [] e = apart e
same-is (x ∷ xs) (y ∷ ys) e = go (eqb x y) refl (same-is xs ys) e
  where
    go : (b : Bool) → eqb x y ≡ b → (same xs ys ≡ true → xs ≡ ys) → choose b (same xs ys) false ≡ true → x ∷ xs ≡ y ∷ ys
    go true p r q = ap₂ ◌∷◌ (eqb-true x y p) (r q)
    go false p r q = apart q

pub same_self : (a : List ℕ) → same a a ≡ true
unfolding same
same_self [] = refl
same_self (x ∷ xs) = simp (eq-eqb x x refl) (same_self xs)

-- byte strings of two lengths differ
pub other_length : (a b : List ℕ) → (length a ≡ length b → ⊥) → false ≡ same a b
other_length a b h = go (same a b) refl
  where
    go : (t : Bool) → same a b ≡ t → false ≡ same a b
    go true e = absurd (h (ap length (same-is a b e)))
    go false e = sym e

-- the bytes before i are the same, so that the rest decides
module _ (a b : List ℕ) (i : ℕ) (n : length a ≡ length b) (rest : same (drop i a) (drop i b) ≡ same a b) where
  module _ (h : i < length a) where
    pub byte-differs : (get_or a i 0 ≡ get_or b i 0 → ⊥) → false ≡ same a b
    unfolding same
    byte-differs e =
        let k : i < length b = omega arith in
        sym (rw (drop-cons a i 0, drop-cons b i 0) (simp (ne_eqb (get_or a i 0) (get_or b i 0) e))) ∙ rest

    pub byte-agrees : get_or a i 0 ≡ get_or b i 0 → same (drop (i + 1) a) (drop (i + 1) b) ≡ same a b
    unfolding same
    byte-agrees e =
        let k : i < length b = omega arith in
        sym (rw (add-one, drop-cons a i 0, drop-cons b i 0) (simp (eq-eqb (get_or a i 0) (get_or b i 0) e))) ∙ rest

  pub none_left : length a ≤ i → true ≡ same a b
  unfolding same
  none_left h = sym (ap₂ same (drop_of_length-le a h) (drop_of_length-le b {i = i} (omega arith))) ∙ rest
