-- The rule that a call's steps choose is the first of its listing that takes the operands; where they choose none, what they answer
-- is what is wrong. For a listing of one rule length, with the concrete-only switch on or off.
-- Assumes nothing.
use mathlib.Core.Path.{◌≡◌, refl, sym, ap, ◌∙◌, subst}
use mathlib.Core.Bool.{Bool, true, false, true≢false, false≢true}
use mathlib.Core.List.{List, [], ◌∷◌}
use mathlib.Core.Option.{some}
use Prim.Native.Nat.{ℕ, zero, suc, ◌+◌, ◌≤◌, ◌<◌}
use native.Mathlib.Omega.{arith}
use lib.Dec.{ltb}
use lib.ListN.{length, get_or, take, length-take, get_elem?}
use lib.Seq.{get_or-take}
use borrow.Author.Tests.{ltb-true, ltb-false}
use Rattle.scalars.specs.Mask.{choose, both, either, cons_if}
use Rattle.rules.specs.Signature.{Signature, same_shape, reaches, argument_passes, fits, takes, concrete}
use Rattle.rules.specs.declared.rule.Part.{Part}
use Rattle.rules.specs.declared.rule.Part.TheVariants.{Shape, Number}
use Rattle.lists.specs.Entry.{Entry, number, keep}
use Rattle.calls.specs.Choice.{Narrowed, left, emptied, narrow, wrong_count, first, concrete_step, after_operands, resolve}
use Rattle.rules.specs.Verdict.{longest}
use Rattle.theorems.specs.Taking.{Takes, NoRule, Best, OneLength, LeftAfter, ShapeLeft, NoneBy, Says}
use Rattle.scalars.proofs.Filters.{both_left, both_right, both_true}
use Rattle.calls.proofs.Firsts.{keep-keep, IsFirst, first-is}
use Rattle.calls.proofs.Narrowing.{takes_from, permits, passes_all, Some, Stopped, Narrows, narrow_narrows}
use Rattle.calls.proofs.Surviving.{left_is}

-- where nothing is left, no rule of the listing passes
none_passes : (q : Signature → Bool) (rules : List Signature) (i : ℕ) → keep q (number i rules) ≡ []
    → (j : ℕ) (r : Signature) → get_elem? rules j ≡ some r → q r ≡ false
none_passes q [] i e j r h = cc
none_passes q (x ∷ xs) i e zero r h = go (q x) refl e
  where
    go : (b : Bool) → q x ≡ b → cons_if b (record { index = i; rule = x }) (keep q (number (suc i) xs)) ≡ [] → q r ≡ false
    go true a e' = cc
    go false a e' = cc
none_passes q (x ∷ xs) i e (suc j) r h = none_passes q xs (suc i) (go (q x) e) j r h
  where
    go : (b : Bool) → cons_if b (record { index = i; rule = x }) (keep q (number (suc i) xs)) ≡ [] → keep q (number (suc i) xs) ≡ []
    go true e' = cc
    go false e' = e'

-- a step's test is a test of the argument at an index
module _ (p : ℕ → Bool) where
  passes_at : (k : ℕ) (az : List ℕ) → argument_passes p k az ≡ true → (k < length az) × (p (get_or az k 0) ≡ true)
  passes_at k [] e = absurd (false≢true e)
  passes_at zero (a ∷ az) e = (omega arith, e)
  passes_at (suc k) (a ∷ az) e = let h = passes_at k az e in (omega arith, h.1)

  at-passes : (k : ℕ) (az : List ℕ) → k < length az → p (get_or az k 0) ≡ true → argument_passes p k az ≡ true
  at-passes k [] h e = absurd (omega arith)
  at-passes zero (a ∷ az) h e = e
  at-passes (suc k) (a ∷ az) h e = at-passes k az (omega arith) e

reached-from : (ts : List ℕ) (k : ℕ) (r : Signature) → takes_from k ts r ≡ true → (j : ℕ) → j < length ts
    → (k + j < length r.arguments) × (reaches (get_or ts j 0) (get_or r.arguments (k + j) 0) ≡ true)
reached-from [] k r e j h = absurd (omega arith)
reached-from (t ∷ ts) k r e zero h =
    let z : k + 0 ≡ k = omega arith in
    rw z (passes_at (reaches t) k r.arguments (both_left (takes k t r) (takes_from (suc k) ts r) e))
reached-from (t ∷ ts) k r e (suc j) h =
    let z : k + suc j ≡ suc k + j = omega arith in
    rw z (reached-from ts (suc k) r (both_right (takes k t r) (takes_from (suc k) ts r) e) j (omega arith))

from-reached : (ts : List ℕ) (k : ℕ) (r : Signature) → k + length ts ≤ length r.arguments
    → ((j : ℕ) → j < length ts → reaches (get_or ts j 0) (get_or r.arguments (k + j) 0) ≡ true) → takes_from k ts r ≡ true
from-reached [] k r l h = refl
from-reached (t ∷ ts) k r l h =
    let z : k + 0 ≡ k = omega arith in
    both_true (at-passes (reaches t) k r.arguments (omega arith) (rw z at (h 0 (omega arith))))
    (from-reached ts (suc k) r (omega arith)
    (λ j lt. let z' : k + suc j ≡ suc k + j = omega arith in rw z' at (h (suc j) (omega arith))))

plain : (j : ℕ) → 0 + j ≡ j
plain j = omega arith

allowed-only : (switch : Bool) (r : Signature) → permits switch r ≡ true → switch ≡ true → concrete r ≡ true
allowed-only false r e c = absurd (false≢true c)
allowed-only true r e c = e

only-allowed : (switch : Bool) (r : Signature) → (switch ≡ true → concrete r ≡ true) → permits switch r ≡ true
only-allowed false r h = refl
only-allowed true r h = h refl

-- the whole test is `Takes`, for a rule with as many arguments as there are operands
module _ (switch : Bool) (ts : List ℕ) (r : Signature) where
  pub passes-takes : length ts ≡ length r.arguments → passes_all switch ts r ≡ true → Takes switch ts r
  passes-takes l e =
      record {
        many = l;
        reached = λ j h. rw plain at (reached-from ts 0 r (both_left (takes_from 0 ts r) (permits switch r) e) j h).1;
        allowed = allowed-only switch r (both_right (takes_from 0 ts r) (permits switch r) e);
      }

  pub takes-passes : Takes switch ts r → passes_all switch ts r ≡ true
  takes-passes h =
      let l : length ts ≡ length r.arguments = h.many in
      both_true (from-reached ts 0 r (omega arith) (λ j lt. rw plain (h.reached j lt))) (only-allowed switch r h.allowed)

-- the test of the first operands is `LeftAfter`
module _ (rules : List Signature) (ts : List ℕ) (k : ℕ) (h : k < length ts) where
  some_left : Some (keep (takes_from 0 (take (suc k) ts)) (number 0 rules)) → LeftAfter rules ts k
  some_left s =
      let f = first-is (takes_from 0 (take (suc k) ts)) rules s.0 s.1 s.2 in
      let l : length (take (suc k) ts) ≡ suc k = length-take (suc k) ts ∙ omega arith in
      let g = reached-from (take (suc k) ts) 0 s.1 f.passes in
      record {
        index = s.0;
        rule = s.1;
        there = f.there;
        long = rw plain at (g k (omega arith)).0;
        reached = λ j le. let e : j < suc k = omega arith in rw (plain, get_or-take (suc k) ts j 0 e) at (g j (omega arith)).1;
      }

  none_left : keep (takes_from 0 (take (suc k) ts)) (number 0 rules) ≡ [] → LeftAfter rules ts k → ⊥
  none_left e w =
      let l : length (take (suc k) ts) ≡ suc k = length-take (suc k) ts ∙ omega arith in
      let n = w.long in
      true≢false (sym
      (from-reached (take (suc k) ts) 0 w.rule (omega arith)
      (λ j lt. let lt' : j < suc k = omega arith in rw (plain, get_or-take (suc k) ts j 0 lt') (w.reached j (omega arith))))
      ∙ none_passes (takes_from 0 (take (suc k) ts)) rules 0 e w.index w.rule w.there)

  -- the test of those before it, and of its shape, is `ShapeLeft`
  abbrev before : Signature → Bool
  before = takes_from 0 (take k ts)

  abbrev shaped : List Entry
  shaped = keep (fits Shape k (get_or ts k 0)) (keep before (number 0 rules))

  as_one : shaped ≡ keep (λ r. both (before r) (fits Shape k (get_or ts k 0) r)) (number 0 rules)
  as_one = keep-keep before (fits Shape k (get_or ts k 0)) (number 0 rules)

  shape-left : Some shaped → ShapeLeft rules ts k
  shape-left s =
      let f = first-is (λ r. both (before r) (fits Shape k (get_or ts k 0) r)) rules s.0 s.1 (ap first (sym as_one) ∙ s.2) in
      let l : length (take k ts) ≡ k = length-take k ts ∙ omega arith in
      let g = reached-from (take k ts) 0 s.1 (both_left (before s.1) _ f.passes) in
      let (long, shape) = passes_at (same_shape (get_or ts k 0)) k s.1.arguments (both_right (before s.1) _ f.passes) in
      record {
        index = s.0;
        rule = s.1;
        there = f.there;
        long = long;
        reached = λ j lt. rw (plain, get_or-take k ts j 0 lt) at (g j (omega arith)).1;
        shape = shape;
      }

  no-shape-left : shaped ≡ [] → ShapeLeft rules ts k → ⊥
  no-shape-left e w =
      let l : length (take k ts) ≡ k = length-take k ts ∙ omega arith in
      let n = w.long in
      true≢false (sym (both_true
      (from-reached (take k ts) 0 w.rule (omega arith)
      (λ j lt. let lt' : j < k = omega arith in rw (plain, get_or-take k ts j 0 lt') (w.reached j lt')))
      (at-passes (same_shape (get_or ts k 0)) k w.rule.arguments w.long w.shape))
      ∙ none_passes (λ r. both (before r) (fits Shape k (get_or ts k 0) r)) rules 0 (sym as_one ∙ e) w.index w.rule w.there)

  stopped_by : (part : Part) → Stopped part ts 0 (number 0 rules) k k → NoneBy part rules ts k
  stopped_by Shape e = no-shape-left e
  stopped_by Number e = (shape-left e.0, none_left e.1)

-- what the steps answer
module _ (switch : Bool) (rules : List Signature) (ts : List ℕ) (one : OneLength rules) where
  no_rule : keep (passes_all switch ts) (number 0 rules) ≡ [] → NoRule switch rules ts
  unfolding NoRule
  no_rule e i r h t = true≢false (sym (takes-passes switch ts r t) ∙ none_passes (passes_all switch ts) rules 0 e i r h)

  best : length ts ≡ longest rules → (i : ℕ) (r : Signature) → IsFirst (passes_all switch ts) rules i r → Best switch rules ts i r
  unfolding OneLength
  best l i r f =
      record {
        there = f.there;
        taken = passes-takes switch ts r (l ∙ sym (one i r f.there)) f.passes;
        earliest = λ j lt r' h t. true≢false (sym (takes-passes switch ts r' t) ∙ f.earliest j lt r' h);
      }

  first_says : length ts ≡ longest rules → ((j : ℕ) → j < length ts → LeftAfter rules ts j)
      → (s : List Entry) → s ≡ keep (passes_all switch ts) (number 0 rules) → Says switch rules ts (first s)
  first_says l w [] e = record { counted = l; after = w; none = no_rule (sym e) }
  first_says l w (x ∷ xs) e = best l x.index x.rule (first-is (passes_all switch ts) rules x.index x.rule (ap first (sym e)))

  narrowed-says : length ts ≡ longest rules → (y : Narrowed) → Narrows ts 0 (number 0 rules) y → Says switch rules ts (after_operands switch y)
  narrowed-says l (left s) h =
      first_says l (λ j lt. some_left rules ts j lt (h.1 j lt)) (concrete_step switch s)
      (left_is switch rules ts s h.0)
  narrowed-says l (emptied part k) (m, e, lt, stopped, lasts) =
      let z : m ≡ k = sym (e ∙ plain m) in
      let lt' : k < length ts = omega arith in
      record {
        counted = l;
        there = lt';
        before = λ j b. some_left rules ts j (omega arith) (lasts j (omega arith));
        none = stopped_by rules ts k lt' part (subst (Stopped part ts 0 (number 0 rules) k) z stopped);
      }

  pub resolve-says : Says switch rules ts (resolve switch rules ts)
  unfolding resolve
  resolve-says = go (ltb (length ts) (longest rules)) (ltb (longest rules) (length ts)) refl refl
    where
      go : (b c : Bool) → ltb (length ts) (longest rules) ≡ b → ltb (longest rules) (length ts) ≡ c
          → Says switch rules ts (choose (either b c) wrong_count (after_operands switch (narrow ts 0 (number 0 rules))))
      go true c e e' = λ l. omega (arith, ltb-true (length ts) (longest rules) e)
      go false true e e' = λ l. omega (arith, ltb-true (longest rules) (length ts) e')
      go false false e e' =
          narrowed-says (omega (arith, ltb-false (length ts) (longest rules) e, ltb-false (longest rules) (length ts) e'))
          (narrow ts 0 (number 0 rules)) (narrow_narrows ts 0 (number 0 rules))
