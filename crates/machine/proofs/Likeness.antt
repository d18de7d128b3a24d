-- When the machine's test finds operands to be of given types: exactly when these are theirs; and as many operands as types, if each
-- operand is of the type at its place, found one by one.
-- Assumes nothing.
use mathlib.Core.Path.{◌≡◌, refl, sym, ◌∙◌}
use mathlib.Core.Bool.{true, false, false≢true}
use mathlib.Core.List.{List, [], ◌∷◌}
use Prim.Native.Nat.{ℕ, ◌+◌, ◌≤◌, ◌<◌}
use native.Mathlib.Numerals.{add-one}
use lib.Dec.{eqb}
use lib.ListN.{length, get_or, drop, drop_of_length-le}
use lib.Seq.{drop-cons}
use borrow.Author.Tests.{eqb-true, eq-eqb}
use Rattle.scalars.specs.Mask.{both}
use Rattle.scalars.proofs.Filters.{both_left, both_right}
use Rattle.types.specs.Operand.{codes}
use Rattle.types.specs.declared.operand.Operand.{Operand}
use Rattle.machine.specs.Machine.{same}

pub same-same : (xs : List Operand) → same xs (codes xs) ≡ true
same-same [] = refl
same-same (x ∷ xs) = rw (eq-eqb x.code x.code refl) (same-same xs)

pub same-is : (xs : List Operand) (ys : List ℕ) → same xs ys ≡ true → codes xs ≡ ys
same-is [] [] e = refl
same-is [] (y ∷ ys) e = absurd (false≢true e)
same-is (x ∷ xs) [] e = absurd (false≢true e)
same-is (x ∷ xs) (y ∷ ys) e =
    rw (eqb-true x.code y (both_left (eqb x.code y) (same xs ys) e), same-is xs ys (both_right (eqb x.code y) (same xs ys) e))

module _ (xs : List Operand) (ys : List ℕ) (i : ℕ) where
  pub same_end : length xs ≤ i → length ys ≤ i → same (drop i xs) (drop i ys) ≡ true
  same_end h l = rw (drop_of_length-le xs h, drop_of_length-le ys l)

  module _ (d : Operand) (e : ℕ) (h : i < length xs) (l : i < length ys) where
    same-one : same (drop i xs) (drop i ys) ≡ both (eqb (get_or xs i d).code (get_or ys i e)) (same (drop (i + 1) xs) (drop (i + 1) ys))
    same-one = rw (add-one, drop-cons xs i d h, drop-cons ys i e l)

    pub same_differ : eqb (get_or xs i d).code (get_or ys i e) ≡ false → same (drop i xs) (drop i ys) ≡ false
    same_differ p = same-one ∙ rw p

    pub same_next : eqb (get_or xs i d).code (get_or ys i e) ≡ true → same (drop (i + 1) xs) (drop (i + 1) ys) ≡ same (drop i xs) (drop i ys)
    same_next p = sym (same-one ∙ rw p)
