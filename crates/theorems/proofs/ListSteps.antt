-- Steps of a List. A step keeps the members that pass, in order; two steps commute, a step done twice is done once, and the two of an
-- operand are document 01's single one. A List made of rules
-- lists them, and is accepted if they are known; and a step of a List that was tested is answered by the members that it keeps.
-- Assumes nothing.
use mathlib.Core.Path.{◌≡◌, refl, sym, ap, ◌∙◌}
use mathlib.Core.Bool.{Bool, true, false}
use mathlib.Core.List as L
use mathlib.Core.List.{[], ◌∷◌, map}
use Prim.Native.Nat.{ℕ, suc, ◌-◌, ◌/◌, ◌^◌, ◌≤◌}
use native.Mathlib.Nat.{le_refl}
use lib.Dec.{leb, ltb}
use lib.ListN.{length}
use lib.Seq.{take_all}
use borrow.Author.Tests.{lt-ltb, le-leb, leb-true}
use Rattle.scalars.specs.Mask.{choose, both, cons_if, odd, filter, every, select}
use Rattle.scalars.specs.Paper.{Paper, accepted, refusal}
use Rattle.rules.specs.Signature.{Signature, fits, takes}
use Rattle.rules.specs.Rule.{rule_of, known_rule, short_rule, passes}
use Rattle.rules.specs.Verdict.{on_verdict}
use Rattle.rules.specs.declared.rule.Part.TheVariants.{Shape, Number}
use Rattle.rules.specs.declared.rule.Keep.{Keep}
use Rattle.rules.specs.declared.rule.Keep.TheVariants.{Argument}
use Rattle.lists.specs.Entry.{Entry, number}
use Rattle.lists.specs.List.{most_rules, held, signatures, listing, entries, clean_list, accepted_list, no_list_values, verdict_of, kept, list_step}
use Rattle.lists.specs.Expansion.{list_of}
use Rattle.lists.specs.private.Tested.{Valid}
use Rattle.lists.specs.declared.list.List.{List}
use Rattle.scalars.proofs.Filters.{both_left, both_right, both_true}
use Rattle.scalars.proofs.Meets.{select-ones}
use Rattle.scalars.proofs.Sifts.{select-sift, sift_comm, sift-twice, sift-both}
use Rattle.rules.proofs.Records.{record_says, short?, typed?}
use Rattle.rules.proofs.Rules.{takes-both}
use Rattle.theorems.specs.Steps.{single_list}
use Rattle.lists.proofs.Steps.{kept-valid}
use Rattle.lists.proofs.Expansions.{held_of, signatures_of, valid_of}

-- ---- what a step leaves

pub listing-kept : (k : Keep) (l : List) → listing (kept k l) ≡ filter (passes k) (listing l)
unfolding listing kept signatures
listing-kept k l = select-sift (passes k) (signatures l) l.members

pub kept_comm : (j k : Keep) (l : List) → kept j (kept k l) ≡ kept k (kept j l)
unfolding kept signatures
kept_comm j k l = ap (λ (m : ℕ). record { rules = l.rules; len = l.len; members = m }) (sift_comm (passes j) (passes k) (signatures l) l.members)

pub kept-twice : (k : Keep) (l : List) → kept k (kept k l) ≡ kept k l
unfolding kept signatures
kept-twice k l = ap (λ (m : ℕ). record { rules = l.rules; len = l.len; members = m }) (sift-twice (passes k) (signatures l) l.members)

-- the steps by the two parts of an operand, in either order, keep the members that take it
module _ (i t : ℕ) (l : List) where
  pub list-shape_first : kept (Argument Number i t) (kept (Argument Shape i t) l) ≡ single_list i t l
  unfolding kept signatures single_list
  list-shape_first =
      ap (λ (m : ℕ). record { rules = l.rules; len = l.len; members = m })
      (sift-both (fits Number i t) (fits Shape i t) (takes i t) (takes-both i t) (signatures l) l.members)

  pub list-number_first : kept (Argument Shape i t) (kept (Argument Number i t) l) ≡ single_list i t l
  list-number_first = kept_comm (Argument Shape i t) (Argument Number i t) l ∙ list-shape_first

-- ---- the entries, without their indices, are the listing

rules_cons : (b : Bool) (x : Entry) (xs : L.List Entry) → map (λ (y : Entry). y.rule) (cons_if b x xs) ≡ cons_if b x.rule (map (λ (y : Entry). y.rule) xs)
rules_cons true x xs = refl
rules_cons false x xs = refl

entry-rules : (i : ℕ) (rs : L.List Signature) (m : ℕ) → map (λ (x : Entry). x.rule) (select (number i rs) m) ≡ select rs m
entry-rules i [] m = refl
entry-rules i (r ∷ rs) m = rules_cons (odd m) (record { index = i; rule = r }) (select (number (suc i) rs) (m / 2)) ∙ ap (cons_if (odd m) r) (entry-rules (suc i) rs (m / 2))

pub entries-rules : (l : List) → map (λ (x : Entry). x.rule) (entries l) ≡ listing l
unfolding entries listing
entries-rules l = entry-rules 0 (signatures l) l.members

-- ---- the List of these rules

-- each is known, and short
known-each : (xs : L.List Signature) → every short? xs ≡ true → every typed? xs ≡ true → every known_rule (map rule_of xs) ≡ true
unfolding known_rule rule_of
known-each [] e f = refl
known-each (s ∷ xs) e f =
    both_true
    (ap (λ (x : Signature). typed? x) (record_says s (leb-true _ _ (both_left (short? s) _ e))) ∙ both_left (typed? s) _ f)
    (known-each xs (both_right (short? s) _ e) (both_right (typed? s) _ f))

short-each : (xs : L.List Signature) → every short? xs ≡ true → every short_rule (map rule_of xs) ≡ true
unfolding short_rule rule_of
short-each [] e = refl
short-each (s ∷ xs) e = both_true (both_left (short? s) _ e) (short-each xs (both_right (short? s) _ e))

module _ (rs : L.List Signature) (short : every short? rs ≡ true) where
  pub listing_of : listing (list_of rs) ≡ rs
  unfolding listing list_of
  listing_of =
      ap (λ (xs : L.List Signature). select xs (2 ^ length rs - 1)) (signatures_of rs short)
      ∙ select-ones rs (length rs) (le_refl (length rs)) ∙ take_all (length rs) rs (le_refl (length rs))

  module _ (few : length rs ≤ most_rules) where
    pub accepted_of : every typed? rs ≡ true → verdict_of (list_of rs) ≡ accepted []
    unfolding verdict_of
    accepted_of typed =
        let valid = valid_of rs short few in
        let k : every known_rule (held (list_of rs)) ≡ true = ap (every known_rule) (held_of rs) ∙ known-each rs short typed in
        let s : every short_rule (held (list_of rs)) ≡ true = ap (every short_rule) (held_of rs) ∙ short-each rs short in
        let w : ltb (list_of rs).members (2 ^ (list_of rs).len) ≡ true = lt-ltb _ _ valid.within in
        let l : leb (list_of rs).len most_rules ≡ true = le-leb _ _ valid.few in
        simp (k, s, w, l)

-- ---- a step of a List that was tested

-- clean, and accepted if it is tested again
pub record Tested (l : List) : Type 0 where
  pub valid : Valid l
  pub accepted : verdict_of l ≡ accepted []

kept_verdict : (k : Keep) (l : List) → Valid l → verdict_of (kept k l) ≡ verdict_of l
unfolding verdict_of kept
kept_verdict k l valid =
    ap (λ (b : Bool). choose (both (every known_rule (held l)) b) (choose (both (leb l.len most_rules) (every short_rule (held l))) (accepted []) (refusal 3 0 [])) (refusal 7 0 []))
    (lt-ltb _ _ (kept-valid k l valid).within ∙ sym (lt-ltb _ _ valid.within))

pub kept-tested : (k : Keep) (l : List) → Tested l → Tested (kept k l)
kept-tested k l t = record { valid = kept-valid k l t.valid; accepted = kept_verdict k l t.valid ∙ t.accepted }

-- the answer is the List of the members that the step keeps
pub step_answer : (k : Keep) (l : List) → Tested l → list_step k l ≡ accepted_list (kept k l)
unfolding list_step
step_answer k l t =
    ap (λ (v : Paper). on_verdict v (accepted_list (kept k (clean_list l))) no_list_values) t.accepted
    ∙ ap (λ (x : List). accepted_list (kept k x)) t.valid.clean
