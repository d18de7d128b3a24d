-- An entry of a list by its number: within a run of equal entries, or in a list that a function numbers. Assumes nothing.
use mathlib.Core.Path.{◌≡◌, refl, sym, ap, ◌∙◌}
use mathlib.Core.List.{List, [], ◌∷◌, map}
use Prim.Native.Nat.{ℕ, zero, suc, ◌+◌, ◌-◌, ◌≤◌, ◌<◌}
use native.Mathlib.Nat.{sub-zero, suc-sub-suc, le_of_suc-le-suc, not-suc-le-zero}
use native.Mathlib.Numerals.{add-one}
use native.Mathlib.Omega.{arith}
use lib.ListN.{length, take, drop, get_or, replicate, get_or-replicate, drop_of_length-le}
use lib.Seq.{get_or-take, drop-cons}
use Rattle.scalars.specs.Mask.{up_to}
use Rattle.scalars.proofs.Bits.{up_to-length, up_to-at}
use Rattle.scalars.proofs.Prefixes.{map_at}

module _ {A : Type 0} (d : A) where
  -- an entry behind the first k
  dropped-at : (k : ℕ) (xs : List A) (f : ℕ) → k ≤ f → get_or xs f d ≡ get_or (drop k xs) (f - k) d
  dropped-at zero xs f h = ap (λ (i : ℕ). get_or xs i d) (sym (sub-zero f))
  dropped-at (suc k) [] f h = refl
  dropped-at (suc k) (x ∷ xs) zero h = absurd (not-suc-le-zero h)
  dropped-at (suc k) (x ∷ xs) (suc f) h =
      dropped-at k xs f (le_of_suc-le-suc h) ∙ ap (λ (i : ℕ). get_or (drop k xs) i d) (sym (suc-sub-suc f k))

  -- n equal entries from the k-th on
  pub run_at : (xs : List A) (k n : ℕ) {x : A} {f : ℕ} → take n (drop k xs) ≡ replicate n x → k ≤ f → f < k + n → get_or xs f d ≡ x
  run_at xs k n {x} {f} e l h =
      let b : f - k < n = omega arith in
      dropped-at k xs f l ∙ sym (get_or-take n (drop k xs) (f - k) d b) ∙ ap (λ (ys : List A). get_or ys (f - k) d) e
      ∙ get_or-replicate n (f - k) x d b

  -- the k-th entry of what a function gives of 0, 1, .. is what it gives of k
  pub numbered : (xs : List A) (g : ℕ → A) (n k : ℕ) → xs ≡ map g (up_to n) → k < n → get_or xs k d ≡ g k
  numbered xs g n k e h =
      ap (λ (ys : List A). get_or ys k d) e ∙ map_at g (up_to n) k 0 d (omega (arith, up_to-length n)) ∙ ap g (up_to-at n k h)

  -- the entry at an index, then what is left
  pub next_at : (xs : List A) (i : ℕ) → i < length xs → drop i xs ≡ get_or xs i d ∷ drop (i + 1) xs
  next_at xs i h = drop-cons xs i d h ∙ ap (λ (j : ℕ). get_or xs i d ∷ drop j xs) (sym (add-one i))

  pub past-at : (xs : List A) (i : ℕ) → length xs ≤ i → drop i xs ≡ []
  past-at xs i h = drop_of_length-le xs h

  -- the last entry, and the same value behind it
  pub last-at : (xs : List A) (k : ℕ) {i : ℕ} → drop k xs ≡ d ∷ [] → k ≤ i → d ≡ get_or xs i d
  last-at xs k {i} e h = sym (dropped-at k xs i h ∙ ap (λ (ys : List A). get_or ys (i - k) d) e ∙ only (i - k))
    where
      only : (j : ℕ) → get_or (d ∷ []) j d ≡ d
      only zero = refl
      only (suc j) = refl
