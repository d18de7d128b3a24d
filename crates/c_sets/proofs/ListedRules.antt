-- The rule at an index of a Regular set's listing, by what the listing answers: its refusal, or how many rules it has. Assumes nothing.
use mathlib.Core.Path.{◌≡◌, refl, sym, ap, ◌∙◌}
use mathlib.Core.Bool.{Bool, true, false}
use mathlib.Core.List.{List, [], ◌∷◌, map}
use Prim.Native.Nat.{ℕ, zero, suc, ◌≤◌, ◌<◌}
use native.Mathlib.Nat.{le_of_suc-le-suc, not-suc-le-zero}
use native.Mathlib.Omega.{arith}
use lib.ListN.{length, get_or, drop, length-map, get_or-append}
use Rattle.scalars.specs.Mask.{choose, padded}
use Rattle.scalars.specs.Paper.{Paper, accepted, refusal, values, refused}
use Rattle.scalars.specs.declared.refusal.Refusal.{Refusal}
use Rattle.rules.specs.Signature.{Signature}
use Rattle.rules.specs.Rule.{blank_rule, rule_of}
use Rattle.rules.specs.RulePaper.{rule_values, no_rule, rules_values, no_listing}
use Rattle.rules.specs.Verdict.{on_verdict}
use Rattle.rules.specs.Listing.{accepted_listing}
use Rattle.rules.specs.declared.rule.Rule.{Rule}
use Rattle.rules.proofs.RulePapers.{rules-one}
use Rattle.regular.specs.Regular.{regular_verdict, regular_rules, all_conclude, regular_listing}
use Rattle.regular.specs.private.Tested.{concluded_listing}
use Rattle.regular.specs.declared.regular.Regular.{Regular}
use Rattle.regular.proofs.Listings.{codes-few, rules-count}
use Rattle.functions.specs.Functions.{rule_in}
use Rattle.functions.proofs.Indices.{rule-here, rule-past}
use Rattle.c_sets.specs.Sets.{regular_rule_at}

-- an entry does not depend on what stands for one that is not there
same-entry : {A : Type 0} (d e : A) (xs : List A) (i : ℕ) → i < length xs → get_or xs i d ≡ get_or xs i e
same-entry d e [] i h = absurd (not-suc-le-zero h)
same-entry d e (x ∷ xs) zero h = refl
same-entry d e (x ∷ xs) (suc i) h = same-entry d e xs i (le_of_suc-le-suc h)

module _ (rs : List Signature) (i : ℕ) where
  -- the set's listing, and the rule at the index, by the set's verdict and whether each rule concludes
  abbrev listed : Paper → Bool → Paper
  listed v b = on_verdict v (choose b (accepted_listing rs) (refusal 13 0 no_listing)) no_listing

  abbrev rule_by : Paper → Bool → Paper
  rule_by v b = on_verdict v (choose b (rule_in rs i) (refusal 13 0 no_rule)) no_rule

  refused_by : (v : Paper) (b : Bool) (why : Refusal) (vs : List ℕ) → refused why vs ≡ listed v b → refused why no_rule ≡ rule_by v b
  unfolding accepted_listing
  refused_by (accepted ws) true why vs e = let z : ◌≡◌ {A = ℕ} 0 1 = cc in absurd (omega arith)
  refused_by (accepted ws) false why vs e = cc
  refused_by (refusal n p ws) b why vs e = cc

  counted_by : (v : Paper) (b : Bool) (vs : List ℕ) → accepted vs ≡ listed v b
      → (vs ≡ length rs ∷ rules_values (padded 156 blank_rule (map rule_of rs))) × (rule_in rs i ≡ rule_by v b)
  unfolding accepted_listing
  counted_by (accepted ws) true vs e = (ap values e, refl)
  counted_by (accepted ws) false vs e = let z : ◌≡◌ {A = ℕ} 0 1 = cc in absurd (omega arith)
  counted_by (refusal n p ws) b vs e = let z : ◌≡◌ {A = ℕ} 0 1 = cc in absurd (omega arith)

module _ (r : Regular) (i : ℕ) where
  pub listed-refused : (why : Refusal) → refused why no_listing ≡ regular_listing r → refused why no_rule ≡ regular_rule_at i r
  unfolding regular_listing concluded_listing regular_rule_at
  listed-refused why e = refused_by (regular_rules r) i (regular_verdict r) (all_conclude r) why no_listing e

  module _ {n : ℕ} (rs : List Rule) (asked : accepted (n ∷ rules_values rs) ≡ regular_listing r) where
    both_told : (n ∷ rules_values rs ≡ length (regular_rules r) ∷ rules_values (padded 156 blank_rule (map rule_of (regular_rules r))))
        × (rule_in (regular_rules r) i ≡ regular_rule_at i r)
    unfolding regular_listing concluded_listing regular_rule_at
    both_told = counted_by (regular_rules r) i (regular_verdict r) (all_conclude r) (n ∷ rules_values rs) asked

    count-is : n ≡ length (regular_rules r)
    count-is = ap (λ vs. get_or vs 0 0) both_told.0

    pub listed-few : n ≤ 156
    listed-few = omega (arith, count-is, rules-count r, codes-few r)

    pub listed-past : n ≤ i → refusal 7 1 no_rule ≡ regular_rule_at i r
    listed-past p = sym (rule-past (regular_rules r) i (omega (arith, count-is))) ∙ both_told.1

    pub listed_here : (d : Rule) → i < n → accepted (rule_values (get_or rs i d)) ≡ regular_rule_at i r
    listed_here d p =
        let rules = map rule_of (regular_rules r) in
        let q : i < length rules = omega (arith, count-is, length-map (regular_rules r) rule_of) in
        ap (λ (x : Rule). accepted (rule_values x))
        (ap (λ (xs : List Rule). get_or xs i d) (rules-one rs (padded 156 blank_rule rules) (ap (drop 1) both_told.0))
        ∙ get_or-append rules _ d i q
        ∙ same-entry d blank_rule rules i q)
        ∙ sym (rule-here (regular_rules r) i (omega (arith, count-is)))
        ∙ both_told.1
