-- What testing a List answers: the verdict, by the four tests, with the clean List where it is accepted. Assumes nothing.
use mathlib.Core.Path.{◌≡◌, refl, sym, ap, ◌∙◌, subst⁻¹}
use mathlib.Core.Bool.{Bool, true, false}
use mathlib.Core.List as L
use mathlib.Core.List.{[], map}
use Prim.Native.Nat.{ℕ, ◌^◌, ◌≤◌, ◌<◌, min}
use native.Mathlib.Omega.{arith}
use lib.Dec.{leb, ltb}
use lib.ListN.{length, take}
use borrow.Author.Tests.{ltb-true, leb-true}
use Rattle.scalars.specs.Mask.{choose, both, every, padded}
use Rattle.rules.specs.Signature.{Signature}
use Rattle.rules.specs.Rule.{blank_rule, signature_of, rule_of, known_rule, short_rule}
use Rattle.rules.specs.declared.rule.Rule.{Rule}
use Rattle.scalars.proofs.Prefixes.{take_min}
use Rattle.lists.specs.Entry.{Entry}
use Rattle.lists.specs.List.{most_rules, held, signatures, listing, entries, clean_list, accepted_list, no_list_values, verdict_of, checked_list}
use Rattle.lists.specs.private.Tested.{Valid}
use Rattle.rules.specs.Verdict.{on_verdict}
use Rattle.lists.specs.declared.list.List.{List}
use Rattle.scalars.specs.declared.refusal.Refusal.{Refusal}
use Rattle.scalars.specs.Paper.{Paper, accepted, refusal, values, refused}
use Rattle.lists.specs.ChosenPaper.{list_values}
use Rattle.lists.proofs.ChosenPapers.{list_values-one}
use Rattle.lists.proofs.Cleans.{clean-listing, clean-entries, clean-valid}

-- ---- the four tests

-- the verdict by what the tests say, in order
abbrev pub judged : Bool → Bool → Bool → Bool → Paper
judged a b c d = choose (both a b) (choose (both c d) (accepted []) (refusal 3 0 [])) (refusal 7 0 [])

-- whether the rules are known, the members are among them, the rules are few and each is short; n is how many of them the array holds
module _ (l : List) (long : length l.rules ≡ most_rules) {n : ℕ} (is : n ≡ min l.len most_rules) where
  pub checked_by : (a b c d : Bool) → every known_rule (take n l.rules) ≡ a → ltb l.members (2 ^ l.len) ≡ b → leb l.len most_rules ≡ c → every short_rule (take n l.rules) ≡ d
      → on_verdict (judged a b c d) (accepted_list (clean_list l)) no_list_values ≡ checked_list l
  unfolding checked_list verdict_of
  checked_by a b c d p q r s =
      let h = take_min l.rules l.len most_rules long is in
      rw (sym (ap (every known_rule) h) ∙ p, q, r, sym (ap (every short_rule) h) ∙ s)

  -- and the clean List, where all four say yes
  pub checked-clean : {rules : L.List Rule} → rules ≡ padded most_rules blank_rule (map rule_of (map signature_of (take n l.rules)))
      → record { rules = rules; len = l.len; members = l.members } ≡ clean_list l
  unfolding clean_list signatures
  checked-clean e =
      ap (λ (rs : L.List Rule). record { rules = rs; len = l.len; members = l.members })
      (e ∙ ap (λ (rs : L.List Rule). padded most_rules blank_rule (map rule_of (map signature_of rs))) (take_min l.rules l.len most_rules long is))

  pub checked-valid : {rules : L.List Rule} → rules ≡ padded most_rules blank_rule (map rule_of (map signature_of (take n l.rules)))
      → l.len ≤ most_rules → ltb l.members (2 ^ l.len) ≡ true → Valid (record { rules = rules; len = l.len; members = l.members })
  checked-valid e few inside = subst⁻¹ Valid (checked-clean e) (clean-valid l long few (ltb-true _ _ inside))

-- a List that is accepted passed each test
passed : (a b c d : Bool) → judged a b c d ≡ accepted [] → (b ≡ true) × (c ≡ true)
passed true true true true e = (refl, refl)
passed true true true false e = let z : ◌≡◌ {A = ℕ} 0 1 = cc in absurd (omega arith)
passed true true false d e = let z : ◌≡◌ {A = ℕ} 0 1 = cc in absurd (omega arith)
passed true false c d e = let z : ◌≡◌ {A = ℕ} 0 1 = cc in absurd (omega arith)
passed false b c d e = let z : ◌≡◌ {A = ℕ} 0 1 = cc in absurd (omega arith)

accepted-tests : (l : List) → verdict_of l ≡ accepted [] → (ltb l.members (2 ^ l.len) ≡ true) × (leb l.len most_rules ≡ true)
unfolding verdict_of
accepted-tests l e = passed (every known_rule (held l)) (ltb l.members (2 ^ l.len)) (leb l.len most_rules) (every short_rule (held l)) e

pub accepted-few : (l : List) → verdict_of l ≡ accepted [] → l.len ≤ most_rules
accepted-few l e = leb-true _ _ (accepted-tests l e).1

pub accepted-within : (l : List) → verdict_of l ≡ accepted [] → l.members < 2 ^ l.len
accepted-within l e = ltb-true _ _ (accepted-tests l e).0

-- ---- the answer

-- of an accepted List the verdict is accepted, and the List in the answer is the clean one
accepted-so : (p q : Bool) (x y : List)
    → accepted (list_values x) ≡ on_verdict (choose p (choose q (accepted []) (refusal 3 0 [])) (refusal 7 0 [])) (accepted_list y) no_list_values
    → (choose p (choose q (accepted []) (refusal 3 0 [])) (refusal 7 0 []) ≡ accepted []) × (x ≡ y)
unfolding accepted_list
accepted-so true true x y e = (refl, list_values-one x y (ap values e))
accepted-so true false x y e = cc
accepted-so false q x y e = cc

-- a refusal has the verdict's number and place
refused-so : (v : Paper) (y : List) (why : Refusal) → refused why no_list_values ≡ on_verdict v (accepted_list y) no_list_values
    → (x : Paper) (ws : L.List ℕ) → refused why ws ≡ on_verdict v x ws
unfolding accepted_list
refused-so (accepted vs) y why e x ws = cc
refused-so (refusal n p vs) y why e x ws = cc

-- what follows from a List's answer, as `checked` gives it: a refusal
pub on-refused : (l : List) (why : Refusal) → refused why no_list_values ≡ checked_list l → (x : Paper) (ws : L.List ℕ) → refused why ws ≡ on_verdict (verdict_of l) x ws
unfolding checked_list
on-refused l why asked = refused-so (verdict_of l) (clean_list l) why asked

-- or a List t
module _ (l t : List) (asked : accepted (list_values t) ≡ checked_list l) where
  tested : (verdict_of l ≡ accepted []) × (t ≡ clean_list l)
  unfolding checked_list verdict_of
  tested = accepted-so (both (every known_rule (held l)) (ltb l.members (2 ^ l.len))) (both (leb l.len most_rules) (every short_rule (held l))) t (clean_list l) asked

  on-accepted : (x : Paper) (ws : L.List ℕ) → x ≡ on_verdict (verdict_of l) x ws
  on-accepted x ws = sym (ap (λ (v : Paper). on_verdict v x ws) tested.0)

  -- what is answered of the tested List is the answer of the clean one
  pub then_list : (f : List → Paper) (ws : L.List ℕ) → f t ≡ on_verdict (verdict_of l) (f (clean_list l)) ws
  then_list f ws = ap f tested.1 ∙ on-accepted (f (clean_list l)) ws

  module _ (long : length l.rules ≡ most_rules) where
    -- and what is answered of its members is the answer of the List's own
    pub then_listing : (f : L.List Signature → Paper) (ws : L.List ℕ) → f (listing t) ≡ on_verdict (verdict_of l) (f (listing l)) ws
    then_listing f ws = ap f (ap listing tested.1 ∙ clean-listing l long (accepted-few l tested.0)) ∙ on-accepted (f (listing l)) ws

    pub then_entries : (f : L.List Entry → Paper) (ws : L.List ℕ) → f (entries t) ≡ on_verdict (verdict_of l) (f (entries l)) ws
    then_entries f ws = ap f (ap entries tested.1 ∙ clean-entries l long (accepted-few l tested.0)) ∙ on-accepted (f (entries l)) ws
