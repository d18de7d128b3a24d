-- Filters of numbered rules: two are one, with both tests; the first rule that is left stands at its index in the listing, and none
-- before it passes. Assumes nothing.
use mathlib.Core.Path.{◌≡◌, refl, ap}
use mathlib.Core.Bool.{Bool, true, false}
use mathlib.Core.List.{List, [], ◌∷◌}
use mathlib.Core.Option.{some}
use Prim.Native.Nat.{ℕ, zero, suc, ◌+◌, ◌<◌}
use native.Mathlib.Omega.{arith}
use lib.ListN.{get_elem?}
use Rattle.scalars.specs.Mask.{both, cons_if}
use Rattle.rules.specs.Signature.{Signature}
use Rattle.lists.specs.Entry.{Entry, number, keep}
use Rattle.calls.specs.Choice.{chosen, first}
use Rattle.scalars.proofs.Filters.{filter-true, filter_both}

pub keep-keep : (p q : Signature → Bool) (s : List Entry) → keep q (keep p s) ≡ keep (λ (r : Signature). both (p r) (q r)) s
keep-keep p q s = filter_both (λ (x : Entry). q x.rule) (λ (x : Entry). p x.rule) s

pub keep-every : (s : List Entry) → keep (λ (r : Signature). true) s ≡ s
keep-every s = filter-true s

-- the rule at an index passes a test, and none before it does
pub record IsFirst (q : Signature → Bool) (rules : List Signature) (i : ℕ) (r : Signature) : Type 0 where
  pub there : get_elem? rules i ≡ some r
  pub passes : q r ≡ true
  pub earliest : (j : ℕ) → j < i → (r' : Signature) → get_elem? rules j ≡ some r' → q r' ≡ false

-- the first that is left
first-from : (q : Signature → Bool) (rules : List Signature) (i j : ℕ) (r : Signature) → first (keep q (number i rules)) ≡ chosen j r
    → (k : ℕ) × (j ≡ i + k) × IsFirst q rules k r
first-from q [] i j r e = absurd (let z : ◌≡◌ {A = ℕ} 0 1 = cc in omega arith)
first-from q (x ∷ xs) i j r e = go (first-from q xs (suc i) j r) (q x) refl e
  where
    later : q x ≡ false → (k : ℕ) → IsFirst q xs k r → (m : ℕ) → m < suc k → (r' : Signature) → get_elem? (x ∷ xs) m ≡ some r'
        → q r' ≡ false
    later a k f zero lt r' h = cc
    later a k f (suc m) lt r' h = f.earliest m (omega arith) r' h

    go : (first (keep q (number (suc i) xs)) ≡ chosen j r → (k : ℕ) × (j ≡ suc i + k) × IsFirst q xs k r)
        → (b : Bool) → q x ≡ b → first (cons_if b (record { index = i; rule = x }) (keep q (number (suc i) xs))) ≡ chosen j r
        → (k : ℕ) × (j ≡ i + k) × IsFirst q (x ∷ xs) k r
    go ih true a e' =
        let same : x ≡ r = cc in
        let at : i ≡ j = cc in
        (0, omega arith, record { there = ap some same; passes = cc; earliest = λ m lt r' h. absurd (omega arith) })
    go ih false a e' =
        let f = ih e' in
        let n : j ≡ suc i + f.0 = f.1 in
        (suc f.0, omega arith, record { there = f.2.there; passes = f.2.passes; earliest = later a f.0 f.2 })

pub first-is : (q : Signature → Bool) (rules : List Signature) (i : ℕ) (r : Signature) → first (keep q (number 0 rules)) ≡ chosen i r
    → IsFirst q rules i r
first-is q rules i r e =
    let f = first-from q rules 0 i r e in
    let n : i ≡ 0 + f.0 = f.1 in
    let n' : i ≡ f.0 = omega arith in
    rw n' f.2
