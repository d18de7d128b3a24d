-- An array of blanks that is filled from the front is the list that was put there, padded with blanks. Assumes nothing.
use mathlib.Core.Path.{◌≡◌, sym, ap, ◌∙◌}
use mathlib.Core.List.{List, [], ◌∷◌, ◌++◌}
use Prim.Native.Nat.{ℕ, zero, suc, ◌+◌, ◌-◌, ◌≤◌}
use native.Mathlib.Nat.{zero-add, zero-sub, sub-zero, suc-sub-suc}
use native.Mathlib.Numerals.{add-one}
use native.Mathlib.Omega.{arith}
use lib.ListN.{length, drop, set, replicate, length-replicate}
use lib.Seq.{sets, sets-eq}
use Rattle.scalars.specs.Mask.{padded}

module _ {A : Type 0} where
  drop_blanks : (k n : ℕ) (b : A) → drop k (replicate n b) ≡ replicate (n - k) b
  drop_blanks zero n b = ap (λ (m : ℕ). replicate m b) (sym (sub-zero n))
  drop_blanks (suc k) zero b = ap (λ (m : ℕ). replicate m b) (sym (zero-sub (suc k)))
  drop_blanks (suc k) (suc n) b = drop_blanks k n b ∙ ap (λ (m : ℕ). replicate m b) (sym (suc-sub-suc n k))

  pub filled : (n : ℕ) (b : A) (ks : List A) → length ks ≤ n → sets (replicate n b) 0 ks ≡ padded n b ks
  filled n b ks h =
      sets-eq ks (replicate n b) 0 (omega (arith, length-replicate n b))
      ∙ ap (λ (m : ℕ). ks ++ drop m (replicate n b)) (zero-add (length ks))
      ∙ ap (λ (r : List A). ks ++ r) (drop_blanks (length ks) n b)

  -- one entry further
  pub fill_next : (out : List A) (i : ℕ) (k : A) (ks : List A) → sets (set out i k) (i + 1) ks ≡ sets out i (k ∷ ks)
  fill_next out i k ks = ap (λ (j : ℕ). sets (set out i k) j ks) (add-one i)

  -- the entries that are left to fill in, one entry further
  pub fill_step : (out : List A) (i : ℕ) {all ks goal : List A} {k : A} → all ≡ k ∷ ks → sets out i all ≡ goal → sets (set out i k) (i + 1) ks ≡ goal
  fill_step out i {all} {ks} {goal} {k} e left = fill_next out i k ks ∙ ap (sets out i) (sym e) ∙ left

  pub fill_end : (out : List A) (i : ℕ) {all goal : List A} → all ≡ [] → sets out i all ≡ goal → out ≡ goal
  fill_end out i e left = sym (ap (sets out i) e) ∙ left
