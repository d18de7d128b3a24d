-- Where the first pair that passes stands among all: the rows before its constructor's, each as long as there are scalars, and the
-- scalars before its own. How many members of a mask come before one is had by counting the ones below its bit. Assumes nothing.
use mathlib.Core.Path.{◌≡◌, refl, sym, ap, ap₂, ◌∙◌, subst}
use mathlib.Core.Bool.{Bool, true, false}
use mathlib.Core.List.{List, [], ◌∷◌, ◌++◌, map}
use Prim.Native.Nat.{ℕ, zero, suc, ◌+◌, ◌-◌, ◌*◌, ◌/◌, ◌%◌, ◌^◌, ◌≤◌, ◌<◌}
use native.Mathlib.Nat.{mod-lt, mul-le-mul, suc-mul}
use native.Mathlib.Omega.{arith}
use lib.Count.{ones}
use lib.Dec.{ltb}
use lib.ListN.{length}
use lib.Pow.{pow_pos}
use borrow.Author.Tests.{ltb-true}
use Rattle.scalars.specs.Mask.{choose, both, cons_if, odd, filter, every, select, count_from, up_to, bits}
use Rattle.rules.specs.Signature.{Signature}
use Rattle.lists.specs.Entry.{number, keep}
use Rattle.calls.specs.Choice.{chosen, first}
use Rattle.regular.specs.Regular.{pairs}
use Rattle.calls.specs.private.CallSets.{rank}
use Rattle.scalars.proofs.Masks.{select_mod, bit_is}
use Rattle.scalars.proofs.Bits.{bits-count, bits-length, up_to-length}
use Rattle.scalars.proofs.Filters.{both_left, both_right}

-- ---- ranks by counting ones

rank_mod : (k m : ℕ) → bits k (m % 2 ^ k) ≡ bits k m
unfolding bits
rank_mod k m = subst (λ (n : ℕ). select (up_to k) (m % 2 ^ n) ≡ select (up_to k) m) (up_to-length k) (select_mod (up_to k) m)

-- the ones of a word of w bits below bit k
pub rank-ones : (w k m : ℕ) → k < w → ones (m % ((1 * 2 ^ k) % 2 ^ w)) ≡ rank k m
unfolding rank
rank-ones w k m h =
    ap (λ (b : ℕ). ones (m % b)) (bit_is w k h) ∙ bits-count k (m % 2 ^ k) (mod-lt m (pow_pos k)) ∙ ap length (rank_mod k m)

pub rank_most : (k m : ℕ) → rank k m ≤ k
unfolding rank
rank_most k m = bits-length k m

module _ (c n k s : ℕ) (masked : n < 2 ^ 12) where
  row : ones n ≡ length (bits 12 n)
  row = bits-count 12 n masked

  -- the index of a known constructor and scalar fits in a byte
  pub place-most : k < 13 → s < 12 → rank k c * ones n + rank s n ≤ 155
  place-most h l =
      let a : rank k c ≤ 12 = omega (arith, rank_most k c) in
      let b : ones n ≤ 12 = omega (arith, row, bits-length 12 n) in
      omega (arith, mul-le-mul a b, rank_most s n)

  pub place_is : rank k c * ones n + rank s n ≡ rank k c * length (bits 12 n) + rank s n
  place_is = ap (λ (x : ℕ). rank k c * x + rank s n) row

-- ---- the place of the first that passes

abbrev pub place : (ℕ → Bool) → List ℕ → ℕ
place p [] = 0
place p (x ∷ xs) = choose (p x) 0 (suc (place p xs))

rank-from : (p : ℕ → Bool) (i n m x : ℕ) (rest : List ℕ) → filter p (select (count_from i n) m) ≡ x ∷ rest
    → (i ≤ x) × (place p (select (count_from i n) m) ≡ length (select (count_from i (x - i)) m))
rank-from p i zero m x rest e = let z : ◌≡◌ {A = ℕ} 0 1 = cc in absurd (omega arith)
rank-from p i (suc n) m x rest e = go (odd m) refl (rank-from p (suc i) n (m / 2) x rest) e
  where
    more : List ℕ
    more = select (count_from (suc i) n) (m / 2)

    -- one number further
    on : (b : Bool) → odd m ≡ b → suc i ≤ x
        → length (cons_if b i (select (count_from (suc i) (x - suc i)) (m / 2))) ≡ length (select (count_from i (x - i)) m)
    on b o h =
        ap (λ (a : Bool). length (cons_if a i (select (count_from (suc i) (x - suc i)) (m / 2)))) (sym o)
        ∙ let z : suc (x - suc i) ≡ x - i = omega arith in ap (λ (d : ℕ). length (select (count_from i d) m)) z

    here : (b : Bool) → p i ≡ b → odd m ≡ true
        → (filter p more ≡ x ∷ rest → (suc i ≤ x) × (place p more ≡ length (select (count_from (suc i) (x - suc i)) (m / 2))))
        → cons_if b i (filter p more) ≡ x ∷ rest
        → (i ≤ x) × (choose b 0 (suc (place p more)) ≡ length (select (count_from i (x - i)) m))
    here true t o ih f =
        let z : i ≡ x = cc in
        let d : 0 ≡ x - i = omega arith in
        (omega arith, ap (λ (d : ℕ). length (select (count_from i d) m)) d)
    here false t o ih f =
        let h = ih f in
        let l : suc i ≤ x = h.0 in
        (omega arith, ap suc h.1 ∙ on true o l)

    go : (b : Bool) → odd m ≡ b
        → (filter p more ≡ x ∷ rest → (suc i ≤ x) × (place p more ≡ length (select (count_from (suc i) (x - suc i)) (m / 2))))
        → filter p (cons_if b i more) ≡ x ∷ rest
        → (i ≤ x) × (place p (cons_if b i more) ≡ length (select (count_from i (x - i)) m))
    go true o ih f = here (p i) refl o ih f
    go false o ih f =
        let h = ih f in
        let l : suc i ≤ x = h.0 in
        (omega arith, h.1 ∙ on false o l)

-- among a mask's members, the first that passes comes after those below it
pub rank-first : (p : ℕ → Bool) (n m k : ℕ) (rest : List ℕ) → filter p (bits n m) ≡ k ∷ rest → place p (bits n m) ≡ rank k m
unfolding bits rank
rank-first p n m k rest e =
    let z : k - 0 ≡ k = omega arith in
    (rank-from p 0 n m k rest e).1 ∙ ap (λ (d : ℕ). length (select (count_from 0 d) m)) z

-- ---- the first pair that passes, by the tests of its parts

module _ (f : ℕ → Signature) (p : Signature → Bool) (q r : ℕ → Bool)
    (splits : (k s : ℕ) → k < 13 → s < 12 → p (f (k * 12 + s)) ≡ both (q k) (r s)) where
  -- in the row of a constructor that passes
  row_first : (k : ℕ) → k < 13 → q k ≡ true → (ss : List ℕ) → every (λ s. ltb s 12) ss ≡ true → (i : ℕ) (ts : List ℕ)
      → (s : ℕ) (rest : List ℕ) → filter r ss ≡ s ∷ rest
      → first (keep p (number i (map f (map (λ s. k * 12 + s) ss ++ ts)))) ≡ chosen (i + place r ss) (f (k * 12 + s))
  row_first k h o [] u i ts s rest e = let z : ◌≡◌ {A = ℕ} 0 1 = cc in absurd (omega arith)
  row_first k h o (x ∷ ss) u i ts s rest e =
      ap (λ (b : Bool). first (cons_if b (record { index = i; rule = f (k * 12 + x) }) (keep p (number (suc i) (map f (map (λ s. k * 12 + s) ss ++ ts))))))
      (splits k x h (ltb-true _ _ (both_left (ltb x 12) _ u)) ∙ ap (λ (b : Bool). both b (r x)) o)
      ∙ go (r x) e (row_first k h o ss (both_right (ltb x 12) _ u) (suc i) ts s rest)
    where
      go : (b : Bool) → cons_if b x (filter r ss) ≡ s ∷ rest
          → (filter r ss ≡ s ∷ rest → first (keep p (number (suc i) (map f (map (λ s. k * 12 + s) ss ++ ts)))) ≡ chosen (suc i + place r ss) (f (k * 12 + s)))
          → first (cons_if b (record { index = i; rule = f (k * 12 + x) }) (keep p (number (suc i) (map f (map (λ s. k * 12 + s) ss ++ ts)))))
          ≡ chosen (i + choose b 0 (suc (place r ss))) (f (k * 12 + s))
      go true g ih =
          let z : x ≡ s = cc in
          let j : i ≡ i + 0 = omega arith in
          ap₂ (λ (a c : ℕ). chosen a (f (k * 12 + c))) j z
      go false g ih = let j : suc i + place r ss ≡ i + suc (place r ss) = omega arith in ih g ∙ ap (λ (a : ℕ). chosen a (f (k * 12 + s))) j

  -- no pair of a constructor that does not
  row-none : (k : ℕ) → k < 13 → q k ≡ false → (ss : List ℕ) → every (λ s. ltb s 12) ss ≡ true → (i : ℕ) (ts : List ℕ)
      → keep p (number i (map f (map (λ s. k * 12 + s) ss ++ ts))) ≡ keep p (number (i + length ss) (map f ts))
  row-none k h o [] u i ts = let j : i ≡ i + 0 = omega arith in ap (λ (a : ℕ). keep p (number a (map f ts))) j
  row-none k h o (x ∷ ss) u i ts =
      ap (λ (b : Bool). cons_if b (record { index = i; rule = f (k * 12 + x) }) (keep p (number (suc i) (map f (map (λ s. k * 12 + s) ss ++ ts)))))
      (splits k x h (ltb-true _ _ (both_left (ltb x 12) _ u)) ∙ ap (λ (b : Bool). both b (r x)) o)
      ∙ row-none k h o ss (both_right (ltb x 12) _ u) (suc i) ts
      ∙ let j : suc i + length ss ≡ i + suc (length ss) = omega arith in ap (λ (a : ℕ). keep p (number a (map f ts))) j

  pub pairs_first : (ks ss : List ℕ) → every (λ k. ltb k 13) ks ≡ true → every (λ s. ltb s 12) ss ≡ true → (i : ℕ)
      → (k : ℕ) (more : List ℕ) → filter q ks ≡ k ∷ more → (s : ℕ) (rest : List ℕ) → filter r ss ≡ s ∷ rest
      → first (keep p (number i (map f (pairs ks ss)))) ≡ chosen (i + (place q ks * length ss + place r ss)) (f (k * 12 + s))
  pairs_first [] ss t u i k more d s rest e = let z : ◌≡◌ {A = ℕ} 0 1 = cc in absurd (omega arith)
  pairs_first (x ∷ ks) ss t u i k more d s rest e =
      go (q x) refl d (λ g. pairs_first ks ss (both_right (ltb x 13) _ t) u (i + length ss) k more g s rest e)
    where
      below : x < 13
      below = ltb-true _ _ (both_left (ltb x 13) _ t)

      go : (b : Bool) → q x ≡ b → cons_if b x (filter q ks) ≡ k ∷ more
          → (filter q ks ≡ k ∷ more
          → first (keep p (number (i + length ss) (map f (pairs ks ss)))) ≡ chosen (i + length ss + (place q ks * length ss + place r ss)) (f (k * 12 + s)))
          → first (keep p (number i (map f (map (λ s. x * 12 + s) ss ++ pairs ks ss)))) ≡ chosen (i + (choose b 0 (suc (place q ks)) * length ss + place r ss)) (f (k * 12 + s))
      go true o g ih =
          let z : x ≡ k = cc in
          let j : i + place r ss ≡ i + (0 * length ss + place r ss) = omega arith in
          row_first x below o ss u i (pairs ks ss) s rest e ∙ ap₂ (λ (a c : ℕ). chosen a (f (c * 12 + s))) j z
      go false o g ih =
          let j : i + length ss + (place q ks * length ss + place r ss) ≡ i + (suc (place q ks) * length ss + place r ss) =
          omega (arith, suc-mul (place q ks) (length ss)) in
          ap first (row-none x below o ss u i (pairs ks ss)) ∙ ih g ∙ ap (λ (a : ℕ). chosen a (f (k * 12 + s))) j
