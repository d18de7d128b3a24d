-- The giver that the definition names is the one of specs/Consensus.antt: the base, or the first component with the scalar. Assumes nothing.
use mathlib.Core.Path.{◌≡◌, refl, sym, ap}
use mathlib.Core.Bool.{Bool, true, false}
use mathlib.Core.List.{List, [], ◌∷◌}
use Prim.Native.Nat.{ℕ, zero, suc, ◌<◌}
use native.Mathlib.Omega.{arith}
use borrow.Author.Tests.{eq-eqb, ne_eqb, ltb-true, ltb-false, eqb-true, eqb-false, leb-true, leb-false}
use lib.Dec.{eqb, leb}
use Rattle.scalars.specs.Mask.{choose, both}
use Rattle.types.specs.Domain.{value?, scalar_part, other_type}
use Rattle.types.specs.TypePaper.{by_base, by_component, giver_values}
use Rattle.types.specs.Conversion.{first_of, giver_of}
use Rattle.std.specs.Prelude.{Option, Some, None}
use Rattle.scalars.specs.declared.scalar_set.Scalar.{Scalar}
use Rattle.theorems.specs.Consensus as consensus
use Rattle.theorems.specs.Consensus.{OfBase, OfComponent, Offered, Gave, the_base, the_first}
use Rattle.theorems.proofs.AgreedScalar.{scalar, same_base, no_base}

-- ---- the first component with a scalar

module _ (a : ℕ) where
  -- a component is not behind the first, and there is none before it
  pub first-is : (ts : List ℕ) (k : ℕ) → OfComponent ts k a → OfComponent ts (first_of a ts) a
  unfolding first_of
  first-is [] k (l, v, e) = absurd (omega arith)
  first-is (t ∷ ts) k h = go (value? t) (eqb (scalar_part t) a) refl refl (first-is ts) k h
    where
      go : (x y : Bool) → value? t ≡ x → eqb (scalar_part t) a ≡ y → ((k : ℕ) → OfComponent ts k a → OfComponent ts (first_of a ts) a)
          → (k : ℕ) → OfComponent (t ∷ ts) k a → OfComponent (t ∷ ts) (choose (both x y) 0 (suc (first_of a ts))) a
      go true true p q rest k h = (omega arith, ltb-true t other_type p, eqb-true (scalar_part t) a q)
      go true false p q rest zero (l, v, e) = absurd (eqb-false (scalar_part t) a q e)
      go true false p q rest (suc k) (l, v, e) = let (m, w, f) = rest k (omega arith, v, e) in (omega arith, w, f)
      go false y p q rest zero (l, v, e) = let w = ltb-false t other_type p in absurd (omega arith)
      go false y p q rest (suc k) (l, v, e) = let (m, w, f) = rest k (omega arith, v, e) in (omega arith, w, f)

  pub none_before : (ts : List ℕ) (j : ℕ) → j < first_of a ts → OfComponent ts j a → ⊥
  unfolding first_of
  none_before [] j l h = omega arith
  none_before (t ∷ ts) j l h = go (value? t) (eqb (scalar_part t) a) refl refl (none_before ts) j l h
    where
      go : (x y : Bool) → value? t ≡ x → eqb (scalar_part t) a ≡ y → ((j : ℕ) → j < first_of a ts → OfComponent ts j a → ⊥)
          → (j : ℕ) → j < choose (both x y) 0 (suc (first_of a ts)) → OfComponent (t ∷ ts) j a → ⊥
      go true true p q rest j l h = omega arith
      go true false p q rest zero l (m, v, e) = eqb-false (scalar_part t) a q e
      go true false p q rest (suc j) l (m, v, e) = rest j (omega arith) (omega arith, v, e)
      go false y p q rest zero l (m, v, e) = let w = ltb-false t other_type p in omega arith
      go false y p q rest (suc j) l (m, v, e) = rest j (omega arith) (omega arith, v, e)

  -- there is one such component
  first_one : (ts : List ℕ) (k : ℕ) → OfComponent ts k a → ((j : ℕ) → j < k → OfComponent ts j a → ⊥) → first_of a ts ≡ k
  first_one ts k h n = go (leb (first_of a ts) k) (leb k (first_of a ts)) refl refl
    where
      go : (x y : Bool) → leb (first_of a ts) k ≡ x → leb k (first_of a ts) ≡ y → first_of a ts ≡ k
      go true true p q = omega (arith, leb-true (first_of a ts) k p, leb-true k (first_of a ts) q)
      go true false p q = absurd (n (first_of a ts) (leb-false k (first_of a ts) q) (first-is ts k h))
      go false y p q = absurd (none_before ts k (leb-false (first_of a ts) k p) h)

-- ---- who gave it, by the definition and by what it says

module _ (ts : List ℕ) (a : ℕ) where
  not-both : {A : Type 0} (k : ℕ) → by_base ≡ by_component k → A
  not-both k e = let z : ◌≡◌ {A = ℕ} 0 1 = cc in absurd (omega arith)

  the_base_lem : (b : Option Scalar) → OfBase b a → (g : Option ℕ) → by_base ≡ giver_values g → Gave b ts a g
  the_base_lem b e None q = the_base e
  the_base_lem b e (Some k) q = not-both k q

  the_first_lem : (b : Option Scalar) → (OfBase b a → ⊥) → Offered b ts a → (g : Option ℕ) → by_component (first_of a ts) ≡ giver_values g → Gave b ts a g
  the_first_lem b n o None q = not-both (first_of a ts) (sym q)
  the_first_lem b n o (Some k) q =
      let e : first_of a ts ≡ k = cc in
      let there : Gave b ts a (Some (first_of a ts)) = the_first (first_of a ts) n (found o) (none_before a ts) in
      rw e at there
    where
      found : Offered b ts a → OfComponent ts (first_of a ts) a
      found (consensus.by_base e) = absurd (n e)
      found (consensus.by_component j h) = first-is a ts j h

  -- the definition's giver of what is on offer gave it
  pub gave : (b : Option Scalar) → Offered b ts a → (g : Option ℕ) → giver_of b ts a ≡ giver_values g → Gave b ts a g
  unfolding giver_of
  gave None o g q = the_first_lem None (λ e. no_base a e) o g q
  gave (Some c) o g q = go (eqb c.0 a) refl q
    where
      go : (x : Bool) → eqb c.0 a ≡ x → choose x by_base (by_component (first_of a ts)) ≡ giver_values g → Gave (Some c) ts a g
      go true p q = the_base_lem (Some c) (ap scalar (eqb-true c.0 a p)) g q
      go false p q = the_first_lem (Some c) (λ e. eqb-false c.0 a p (same_base c.0 a e)) o g q

  -- whoever gave it is the definition's giver
  pub given_by : (b : Option Scalar) (g : Option ℕ) → Gave b ts a g → giver_of b ts a ≡ giver_values g
  unfolding giver_of
  given_by None g (the_base e) = no_base a e
  given_by None g (the_first k n h m) = ap by_component (first_one a ts k h m)
  given_by (Some c) g (the_base e) = simp (eq-eqb c.0 a (same_base c.0 a e))
  given_by (Some c) g (the_first k n h m) = simp (ne_eqb c.0 a (λ e. n (ap scalar e))) (ap by_component (first_one a ts k h m))
