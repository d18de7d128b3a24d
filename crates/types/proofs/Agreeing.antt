-- A consensus one component further, with who gave it: what was agreed on is what the best so far converts to, so a component whose scalar it
-- is has made it the best, and the first such component did. Assumes nothing.
use mathlib.Core.Path.{◌≡◌, refl, sym, ap, ◌∙◌}
use mathlib.Core.Bool.{Bool, true, false}
use mathlib.Core.List.{List, [], ◌∷◌}
use Prim.Native.Nat.{ℕ, suc, ◌+◌, ◌≤◌, ◌<◌}
use Rattle.std.specs.Prelude.{Option, Some, None}
use native.Mathlib.Numerals.{add-one}
use native.Mathlib.Nat.{zero-add}
use native.Mathlib.Omega.{arith}
use lib.Dec.{eqb}
use lib.ListN.{length, get_or, drop, drop_of_length-le}
use borrow.Author.Tests.{lt-ltb, le-ltb, eq-eqb, ne_eqb, eqb-true, eqb-false}
use Rattle.types.specs.Domain.{value?, scalar_part, other_type}
use Rattle.scalars.specs.Mask.{choose}
use Rattle.scalars.specs.Domain.{converts, scalar_count}
use Rattle.scalars.specs.Paper.{Paper, accepted, refusal, unused}
use Rattle.types.specs.TypePaper.{left, right, by_base, by_component, no_consensus}
use Rattle.types.specs.Conversion.{combination, side, combined, none, agree, agree_with_first, first_of, giver_of, with_giver, if_known_all}
use Rattle.types.specs.private.Agreeing.{agree_from, giver_after, giver_in}
use Rattle.scalars.specs.declared.scalar_set.Scalar.{Scalar}
use Rattle.types.proofs.Codes.{from-here, known_types_answer}
use Rattle.types.proofs.Conversions.{itself, alike, onwards, joins}
use Rattle.types.proofs.Combinations.{combination-known, combined-some}

-- ---- the scalar

-- the best so far converts to what is agreed on
agree-reaches : (best i : ℕ) (ts vs : List ℕ) → best < scalar_count → agree best i ts ≡ accepted vs → (get_or vs 0 unused < scalar_count) × (converts best (get_or vs 0 unused) ≡ true)
unfolding agree
agree-reaches best i [] vs h e =
    let q : best ∷ [] ≡ vs = cc in
    rw (sym q) (h, itself best h)
agree-reaches best i (t ∷ ts) vs h e = go (value? t) (eqb c none) refl (agree-reaches c (suc i) ts vs) e
  where
    c : ℕ
    c = combination best (scalar_part t)

    s : ℕ
    s = get_or vs 0 unused

    go : (x y : Bool) → eqb c none ≡ y → (c < scalar_count → agree c (suc i) ts ≡ accepted vs → (s < scalar_count) × (converts c s ≡ true))
        → choose x (choose y (refusal 12 i (unused ∷ [])) (agree c (suc i) ts)) (refusal 12 i (unused ∷ [])) ≡ accepted vs
        → (s < scalar_count) × (converts best s ≡ true)
    go true false q rest e =
        let n : c ≡ none → ⊥ = eqb-false c none q in
        let l : c < scalar_count = combination-known best (scalar_part t) h (omega arith) n in
        let (k, r) = rest l e in
        (k, onwards best c s h l k (joins best (scalar_part t) h (omega arith) n).left r)
    go true true q rest e = let z : ◌≡◌ {A = ℕ} 0 1 = cc in absurd (omega arith)
    go false y q rest e = let z : ◌≡◌ {A = ℕ} 0 1 = cc in absurd (omega arith)

-- ---- who gave it

-- two ways to name the giver are as good, if they name the same one for the scalar that is answered
same_giver : (f g : ℕ → List ℕ) (p : Paper) → ((vs : List ℕ) → p ≡ accepted vs → f (get_or vs 0 unused) ≡ g (get_or vs 0 unused)) → with_giver f p ≡ with_giver g p
same_giver f g (accepted vs) h = ap (λ (ws : List ℕ). accepted (get_or vs 0 unused ∷ ws)) (h vs refl)
same_giver f g (refusal n at vs) h = refl

-- the left side gives the combination where the right converts to it, and else the right side does
module _ (a b : ℕ) (h : a < scalar_count) (k : b < scalar_count) where
  left-stays : converts b a ≡ true → combination a b ≡ a
  unfolding combination
  left-stays p = go (converts a b) refl
    where
      go : (x : Bool) → converts a b ≡ x → choose x b (choose (converts b a) a none) ≡ a
      go true q = alike b a k h p q
      go false q = simp p

  right-gives : converts b a ≡ false → (combination a b ≡ none → ⊥) → combination a b ≡ b
  unfolding combination
  right-gives p n = go (converts a b) n
    where
      go : (x : Bool) → (choose x b (choose (converts b a) a none) ≡ none → ⊥) → choose x b (choose (converts b a) a none) ≡ b
      go true n = refl
      go false n = absurd (n (simp p))

-- one component further
module _ (best i t : ℕ) (ts g : List ℕ) (h : best < scalar_count) (w : t < other_type) (n : combination best (scalar_part t) ≡ none → ⊥) where
  abbrev v : ℕ
  v = scalar_part t

  abbrev c : ℕ
  c = combination best v

  -- the giver behind the best so far, and behind the next best
  abbrev here : ℕ → List ℕ
  here s = choose (eqb best s) g (by_component (i + first_of s (t ∷ ts)))

  abbrev there : ℕ → List ℕ
  there s = choose (eqb c s) (choose (eqb (side best v) left) g (by_component i)) (by_component (suc i + first_of s ts))

  module _ (s : ℕ) (l : s < scalar_count) (r : converts c s ≡ true) where
    here-is-there : there s ≡ here s
    unfolding side first_of
    here-is-there = go (converts v best) refl
      where
        stays : converts v best ≡ true → (x y : Bool) → eqb best s ≡ x → eqb v s ≡ y
            → choose x g (by_component (suc i + first_of s ts)) ≡ choose x g (by_component (i + choose y 0 (suc (first_of s ts))))
        stays p true y e f = refl
        stays p false false e f = ap by_component (omega arith)
        stays p false true e f =
            let q : v ≡ s = eqb-true v s f in
            let o : converts best v ≡ true = rw (left-stays best v h (omega arith) p, sym q) at r in
            absurd (eqb-false best s e (alike best v h (omega arith) o p ∙ q))

        gives : converts v best ≡ false → (x y : Bool) → eqb best s ≡ x → eqb v s ≡ y
            → choose y (by_component i) (by_component (suc i + first_of s ts)) ≡ choose x g (by_component (i + choose y 0 (suc (first_of s ts))))
        gives p false true e f = ap by_component (omega arith)
        gives p false false e f = ap by_component (omega arith)
        gives p true y e f =
            let o : converts v best ≡ true = rw (right-gives best v h (omega arith) p n, sym (eqb-true best s e)) at r in
            let z : true ≡ false = sym o ∙ p in
            absurd (let u : ◌≡◌ {A = ℕ} 0 1 = cc in omega arith)

        go : (x : Bool) → converts v best ≡ x
            → choose (eqb c s) (choose (eqb (choose x left right) left) g (by_component i)) (by_component (suc i + first_of s ts)) ≡ here s
        go true p = rw (left-stays best v h (omega arith) p, lt-ltb t other_type w) (stays p (eqb best s) (eqb v s) refl refl)
        go false p = rw (right-gives best v h (omega arith) p n, lt-ltb t other_type w) (gives p (eqb best s) (eqb v s) refl refl)

  further : agree_from c (choose (eqb (side best v) left) g (by_component i)) (suc i) ts ≡ agree_from best g i (t ∷ ts)
  unfolding agree_from agree
  further = simp (lt-ltb t other_type w, ne_eqb c none n) (same_giver there here (agree c (suc i) ts) (λ vs e. let (l, r) = agree-reaches c (suc i) ts vs (combination-known best v h (omega arith) n) e in here-is-there (get_or vs 0 unused) l r))

-- ---- from an index on, as the loop goes

-- the giver after component i, by its number
giver_later : (n giver by i : ℕ) → i < n → giver_in n (giver_after giver by i) ≡ choose (eqb by left) (giver_in n giver) (by_component i)
giver_later n giver by i h = go (eqb by left)
  where
    go : (x : Bool) → giver_in n (choose x giver i) ≡ choose x (giver_in n giver) (by_component i)
    go true = refl
    go false = simp (ne_eqb i n (λ e. omega arith))

module _ (best : ℕ) (s : List ℕ) (i : ℕ) where
  pub agree-end : (g : List ℕ) → length s ≤ i → accepted (best ∷ g) ≡ agree_from best g i (drop i s)
  unfolding agree_from agree
  agree-end g h = sym (ap (agree_from best g i) (drop_of_length-le s h) ∙ simp (eq-eqb best best refl))

  pub agree-without : (g : List ℕ) → i < length s → other_type ≤ get_or s i 0 → refusal 12 i no_consensus ≡ agree_from best g i (drop i s)
  unfolding agree_from agree
  agree-without g h v = sym (ap (agree_from best g i) (from-here s i h) ∙ simp (le-ltb _ _ v))

  module _ {v : ℕ} (h : i < length s) (w : get_or s i 0 < other_type) (f : v ≡ scalar_part (get_or s i 0)) where
    pub agree-none : (g : List ℕ) → combination best v ≡ none → refusal 12 i no_consensus ≡ agree_from best g i (drop i s)
    unfolding agree_from agree
    agree-none g n = sym (ap (agree_from best g i) (from-here s i h) ∙ simp (lt-ltb _ _ w, ← f, n))

    pub agree-next : (giver next by later : ℕ) → best < scalar_count → accepted (next ∷ by ∷ []) ≡ combined best v → later ≡ giver_after giver by i
        → (next < scalar_count) × (agree_from next (giver_in (length s) later) (i + 1) (drop (i + 1) s) ≡ agree_from best (giver_in (length s) giver) i (drop i s))
    agree-next giver next by later b m l =
        let (n, p, q) = combined-some best v m in
        let k : v < scalar_count = omega (arith, f) in (
          rw p at (combination-known best v b k n),
          rw (l, giver_later (length s) giver by i h, sym p, sym q, add-one i, from-here s i h, f, add-one i)
              (further best i (get_or s i 0) (drop (suc i) s) (giver_in (length s) giver) b w (λ z. n (ap (combination best) f ∙ z))),
        )

-- ---- from the start

-- where each type is known, the test for it stands in nobody's way
pub with_known : (b : Option Scalar) (ts : List ℕ) (answer : Paper) → accepted [] ≡ if_known_all ts [] (accepted [])
    → with_giver (giver_of b ts) answer ≡ with_giver (giver_of b ts) (if_known_all ts (unused ∷ []) answer)
with_known b ts answer e = ap (with_giver (giver_of b ts)) (known_types_answer ts (unused ∷ []) answer e)

module _ (s : List ℕ) where
  -- with a base, which is its own giver
  pub base_agrees : (b : Scalar) → agree_from b.0 (giver_in (length s) (length s)) 0 s ≡ with_giver (giver_of (Some b) s) (agree b.0 0 s)
  unfolding agree_from giver_of
  base_agrees b =
      rw (eq-eqb (length s) (length s) refl)
      (same_giver (λ x. choose (eqb b.0 x) by_base (by_component (0 + first_of x s))) (giver_of (Some b) s) (agree b.0 0 s)
      (λ vs e. ap (λ (n : ℕ). choose (eqb b.0 (get_or vs 0 unused)) by_base (by_component n)) (zero-add (first_of (get_or vs 0 unused) s))))

  -- with none: the first component, and the rest behind it
  abbrev with_first : List ℕ → Paper
  with_first ts = with_giver (giver_of None ts) (agree_with_first ts)

  pub first-none : length s ≡ 0 → refusal 11 0 no_consensus ≡ with_first s
  first-none e = sym (ap with_first (empty s e))
    where
      empty : (s : List ℕ) → length s ≡ 0 → s ≡ []
      empty [] e = refl
      empty (t ∷ ts) e = absurd (omega arith)

  split : (length s ≡ 0 → ⊥) → s ≡ get_or s 0 0 ∷ drop 1 s
  split n = go s n
    where
      go : (s : List ℕ) → (length s ≡ 0 → ⊥) → s ≡ get_or s 0 0 ∷ drop 1 s
      go [] n = absurd (n refl)
      go (t ∷ ts) n = refl

  pub first-without : (length s ≡ 0 → ⊥) → other_type ≤ get_or s 0 0 → refusal 12 0 no_consensus ≡ with_first s
  first-without n v = sym (ap with_first (split n) ∙ simp (le-ltb _ _ v))

  pub first-agrees : {v : ℕ} → (length s ≡ 0 → ⊥) → get_or s 0 0 < other_type → v ≡ scalar_part (get_or s 0 0) → agree_from v (giver_in (length s) 0) 1 (drop 1 s) ≡ with_first s
  unfolding agree_from giver_of first_of
  first-agrees {v} n w f =
      rw (ne_eqb 0 (length s) (λ z. n (sym z)))
      (same_giver (λ x. choose (eqb v x) (by_component 0) (by_component (1 + first_of x (drop 1 s))))
      (λ x. by_component (choose (eqb v x) 0 (suc (first_of x (drop 1 s))))) (agree v 1 (drop 1 s)) (λ vs e. either_way (eqb v (get_or vs 0 unused)) (first_of (get_or vs 0 unused) (drop 1 s)))
      ∙ sym (ap with_first (split n) ∙ simp (lt-ltb _ _ w, ← f)))
    where
      either_way : (x : Bool) (k : ℕ) → choose x (by_component 0) (by_component (1 + k)) ≡ by_component (choose x 0 (suc k))
      either_way true k = refl
      either_way false k = ap by_component (omega arith)
