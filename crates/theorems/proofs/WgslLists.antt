-- A listing that passes the test of specs/WgslLists.antt chooses by rank, for operands over WGSL's scalars: the first rule that takes them ranks
-- at most as high as each other that does. Assumes nothing.
use mathlib.Core.Path.{◌≡◌, refl, sym, subst}
use mathlib.Core.Bool.{Bool, true, true≢false}
use mathlib.Core.List.{List, [], ◌∷◌}
use mathlib.Core.Option.{some}
use mathlib.Core.Logic.{◌⊎◌, inl, inr, ⊎_elim}
use Prim.Native.Nat.{ℕ, zero, suc, ◌≤◌, ◌<◌}
use native.Mathlib.Omega.{arith}
use lib.ListN.{get_elem?}
use Rattle.scalars.specs.Mask.{every}
use Rattle.types.proofs.Conversions.{yes_either}
use Rattle.rules.specs.Signature.{Signature}
use Rattle.scalars.proofs.Filters.{both_left, both_right, both_true}
use Rattle.functions.proofs.Database.{every_element}
use Rattle.theorems.specs.Taking.{Takes, NoRule, Best}
use Rattle.theorems.specs.Wgsl.{any, over_wgsl, AtMost, Outranks, Ranked}
use Rattle.theorems.specs.WgslLists.{apart, most, cover_all, covers, pair?, row?, rows?, ordered?, ListLaw}
use Rattle.theorems.proofs.WgslArguments.{then, reached, reached-all, reached-length, reached-at, apart-never, most-ranks, cover_reaches, Differ, alike_or_differ}

-- ---- rules of a list

record Found (p : Signature → Bool) (rs : List Signature) : Type 0 where
  index : ℕ
  rule : Signature
  there : get_elem? rs index ≡ some rule
  passes : p rule ≡ true

any-there : (p : Signature → Bool) (rs : List Signature) → any p rs ≡ true → Found p rs
any-there p [] e = absurd (true≢false (sym e))
any-there p (r ∷ rs) e =
    ⊎_elim (λ f. record { index = 0; rule = r; there = refl; passes = f })
    (λ f. let g = any-there p rs f in record { index = suc g.index; rule = g.rule; there = g.there; passes = g.passes })
    (yes_either (p r) (any p rs) e)

-- a rule over WGSL's scalars that ranks at most as high as each rule of a listing over them that takes the operands
pub record First (switch : Bool) (ts : List ℕ) (rules : List Signature) (p : Signature) : Type 0 where
  pub over : over_wgsl p.arguments ≡ true
  pub most : (j : ℕ) (q : Signature) → get_elem? rules j ≡ some q → Takes switch ts q → over_wgsl q.arguments ≡ true → AtMost ts p q

module _ (switch : Bool) (ts : List ℕ) (w : over_wgsl ts ≡ true) where
  all-reached : (r : Signature) → Takes switch ts r → reached ts r.arguments ≡ true
  all-reached r h = reached-all ts r.arguments h.many h.reached

  -- ---- two rules that take the operands

  covered : (p q r : Signature) → covers p q r ≡ true → Takes switch ts p → Takes switch ts q → Takes switch ts r
  covered p q r e h k =
      let a = both_left (cover_all r.arguments p.arguments q.arguments) _ e in
      let b = both_right (cover_all r.arguments p.arguments q.arguments) _ e in
      let c = cover_reaches ts r.arguments p.arguments q.arguments w (all-reached p h) (all-reached q k) a in
      record {
        many = reached-length ts r.arguments c;
        reached = reached-at ts r.arguments c;
        allowed = λ on. then b (both_true (h.allowed on) (k.allowed on));
      }

  module _ (before : List Signature) (none : NoRule switch before ts) (p : Signature) (h : Takes switch ts p) where
    uncovered : (q : Signature) → Takes switch ts q → any (covers p q) before ≡ true → ⊥
    unfolding NoRule
    uncovered q k e =
        let f = any-there (covers p q) before e in
        none f.index f.rule f.there (covered p q f.rule f.passes h k)

    pair-ranks : (q : Signature) → Takes switch ts q → over_wgsl q.arguments ≡ true → pair? before p q ≡ true → AtMost ts p q
    unfolding AtMost
    pair-ranks q k v e =
        ⊎_elim (λ a. absurd (apart-never ts p.arguments q.arguments w (all-reached p h) (all-reached q k) a))
        (λ f. ⊎_elim (most-ranks ts p.arguments q.arguments w (all-reached p h) (all-reached q k)) (λ g. absurd (uncovered q k g))
        (yes_either (most p.arguments q.arguments) _ f))
        (yes_either (apart p.arguments q.arguments) _ (then e v))

    row-ranks : (after : List Signature) → row? before p after ≡ true → (over_wgsl p.arguments ≡ true) × (every (pair? before p) after ≡ true)
    row-ranks after e =
        ⊎_elim (λ c. absurd (uncovered p h c)) (λ f. (both_left (over_wgsl p.arguments) _ f, both_right (over_wgsl p.arguments) _ f))
        (yes_either (any (covers p p) before) _ e)

  -- ---- the first rule of a listing that takes the operands

  none_more : (before : List Signature) (x : Signature) → NoRule switch before ts → (Takes switch ts x → ⊥) → NoRule switch (x ∷ before) ts
  unfolding NoRule
  none_more before x none n zero r e h = let g : r ≡ x = cc in n (subst (Takes switch ts) g h)
  none_more before x none n (suc i) r e h = none i r e h

  at-itself : (p : Signature) → AtMost ts p p
  unfolding AtMost
  at-itself p k h = omega arith

  first-ranks : (before rules : List Signature) → rows? before rules ≡ true → NoRule switch before ts
      → (i : ℕ) (p : Signature) → Best switch rules ts i p → First switch ts rules p
  first-ranks before [] e none i p b = let f = b.there in let z : ◌≡◌ {A = ℕ} 0 1 = cc in absurd (omega arith)
  first-ranks before (x ∷ rules) e none zero p b =
      let f = b.there in
      let g : p ≡ x = cc in
      let row : row? before p rules ≡ true = subst (λ (s : Signature). row? before s rules ≡ true) (sym g) (both_left (row? before x rules) _ e) in
      let r = row-ranks before none p b.taken rules row in
      record { over = r.0; most = later r.1 g }
    where
      later : every (pair? before p) rules ≡ true → p ≡ x → (j : ℕ) (q : Signature) → get_elem? (x ∷ rules) j ≡ some q → Takes switch ts q
          → over_wgsl q.arguments ≡ true → AtMost ts p q
      later a g zero q f h v = let k : p ≡ q = cc in subst (AtMost ts p) k (at-itself p)
      later a g (suc j) q f h v = pair-ranks before none p b.taken q h v (every_element (pair? before p) rules a j q f)
  first-ranks before (x ∷ rules) e none (suc i) p b =
      let n : Takes switch ts x → ⊥ = b.earliest 0 (omega arith) x refl in
      let ih =
      first-ranks (x ∷ before) rules (both_right (row? before x rules) _ e) (none_more before x none n) i p
      record { there = b.there; taken = b.taken; earliest = λ j l r f. b.earliest (suc j) (omega arith) r f } in
      record { over = ih.over; most = later n ih.most }
    where
      later : (Takes switch ts x → ⊥)
          → ((j : ℕ) (q : Signature) → get_elem? rules j ≡ some q → Takes switch ts q → over_wgsl q.arguments ≡ true → AtMost ts p q)
          → (j : ℕ) (q : Signature) → get_elem? (x ∷ rules) j ≡ some q → Takes switch ts q → over_wgsl q.arguments ≡ true → AtMost ts p q
      later n m zero q f h v = let g : q ≡ x = cc in absurd (n (subst (Takes switch ts) g h))
      later n m (suc j) q f h v = m j q f h v

  -- ---- ranks at most as high as each, it is outranked by none and outranks the others

  unbeaten : (p q : Signature) → AtMost ts p q → Outranks ts q p → ⊥
  unfolding AtMost
  unbeaten p q m o = let l = m o.operand o.there in let l' = o.lower in omega arith

  beats : (p q : Signature) → Takes switch ts p → Takes switch ts q → over_wgsl p.arguments ≡ true → over_wgsl q.arguments ≡ true
      → AtMost ts p q → (p.arguments ≡ q.arguments) ⊎ Outranks ts p q
  unfolding AtMost
  beats p q h k u v m =
      ⊎_elim inl
      (λ (d : Differ ts p.arguments q.arguments).
      let l = m d.operand d.there in
      inr record { most = m; operand = d.operand; there = d.there; lower = below d.other l })
      (alike_or_differ ts p.arguments q.arguments w u v (all-reached p h) (all-reached q k))
    where
      below : {a b : ℕ} → (a ≡ b → ⊥) → a ≤ b → a < b
      below n l = omega arith

no_rules_lem : (switch : Bool) (ts : List ℕ) → NoRule switch [] ts
unfolding NoRule
no_rules_lem switch ts i r e h = let z : ◌≡◌ {A = ℕ} 0 1 = cc in omega arith

-- the first rule that takes the operands, over WGSL's scalars and at most as high as each other, makes a listing ranked
pub ranked_first : (rules : List Signature)
    → ((switch : Bool) (ts : List ℕ) → over_wgsl ts ≡ true → (i : ℕ) (p : Signature) → Best switch rules ts i p → First switch ts rules p)
    → Ranked rules
unfolding Ranked
ranked_first rules firsts switch ts w i p b =
    let f = firsts switch ts w i p b in
    record {
      over = f.over;
      unbeaten = λ q v. unbeaten switch ts w p q.rule (f.most q.index q.rule q.there q.takes v);
      best = λ q v. beats switch ts w p q.rule b.taken q.takes f.over v (f.most q.index q.rule q.there q.takes v);
    }

pub ordered_ranked : ListLaw
unfolding ordered?
ordered_ranked rules e = ranked_first rules (λ switch ts w. first-ranks switch ts w [] rules e (no_rules_lem switch ts))
