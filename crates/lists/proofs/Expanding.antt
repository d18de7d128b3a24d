-- A Regular set expanded: from the listing of its rules to the List of them, or the refusal. Assumes nothing.
use mathlib.Core.Path.{◌≡◌, sym, ap, ap₂, ◌∙◌}
use mathlib.Core.Bool.{Bool, true, false}
use mathlib.Core.List as L
use mathlib.Core.List.{[], ◌∷◌, ◌++◌, map, append_assoc}
use Prim.Native.Nat.{ℕ, zero, suc, ◌-◌, ◌*◌, ◌^◌, ◌≤◌, ◌<◌}
use native.Mathlib.Nat.{suc-sub-suc, sub-zero}
use native.Mathlib.Omega.{arith}
use lib.Count.{ones}
use lib.Dec.{leb}
use lib.ListN.{length, take, drop, replicate, length-map, length-replicate, length-append}
use lib.Seq.{take_at}
use borrow.Author.Tests.{le-leb, lt-leb}
use Rattle.scalars.specs.Mask.{choose, padded}
use Rattle.rules.specs.Rule.{blank_rule, rule_of}
use Rattle.scalars.specs.Paper.{Paper, accepted, refusal, values, refused}
use Rattle.rules.specs.RulePaper.{rules_values}
use Rattle.rules.proofs.RulePapers.{rules-one}
use Rattle.rules.specs.Listing.{most_listed, accepted_listing, no_listing}
use Rattle.rules.specs.Verdict.{on_verdict}
use Rattle.lists.specs.List.{most_rules, accepted_list, no_list_values}
use Rattle.regular.specs.Regular.{regular_rules, regular_verdict, all_conclude, regular_listing}
use Rattle.lists.specs.Expansion.{list_of, expanded}
use Rattle.rules.specs.declared.listing.Listing.{Listing}
use Rattle.scalars.specs.declared.refusal.Refusal.{Refusal}
use Rattle.regular.specs.declared.regular.Regular.{Regular}
use Rattle.rules.specs.declared.rule.Rule.{Rule}
use Rattle.regular.proofs.Regulars.{accepted-known, codes-count}
use Rattle.regular.proofs.Listings.{rules-count}

-- fewer blanks behind the same rules
module _ {A : Type 0} where
  blanks_split : (n m : ℕ) (b : A) → n ≤ m → replicate m b ≡ replicate n b ++ replicate (m - n) b
  blanks_split zero m b h = ap (λ (k : ℕ). replicate k b) (sym (sub-zero m))
  blanks_split (suc n) zero b h = absurd (omega arith)
  blanks_split (suc n) (suc m) b h =
      ap (λ (l : L.List A). b ∷ l) (blanks_split n m b (omega arith) ∙ ap (λ (k : ℕ). replicate n b ++ replicate k b) (sym (suc-sub-suc m n)))

  pub fewer_blanks : (n m : ℕ) (b : A) (xs : L.List A) → length xs ≤ n → n ≤ m → take n (padded m b xs) ≡ padded n b xs
  fewer_blanks n m b xs h k =
      let front = padded n b xs in
      let back = replicate (m - length xs - (n - length xs)) b in
      ap (λ (l : L.List A). take n (xs ++ l)) (blanks_split (n - length xs) (m - length xs) b (omega arith))
      ∙ ap (take n) (sym (append_assoc xs (replicate (n - length xs) b) back))
      ∙ take_at front back n (length-append xs (replicate (n - length xs) b) ∙ omega (arith, length-replicate (n - length xs) b))

-- of a set that is refused, and of one that is accepted, whose rules are as many as the product of its two counts
pub expand_unknown : (r : Regular) (why : Refusal) → refused why [] ≡ regular_verdict r → refused why no_list_values ≡ expanded r
unfolding expanded
expand_unknown r why is = rw (sym is)

module _ (r : Regular) (ok : accepted [] ≡ regular_verdict r) where
  many : ones r.constructors.0 * ones r.scalars.0 ≡ length (regular_rules r)
  many = sym (rules-count r ∙ codes-count r (accepted-known r (sym ok)))

  pub expand_many : most_rules < ones r.constructors.0 * ones r.scalars.0 → refusal 3 0 no_list_values ≡ expanded r
  unfolding expanded
  expand_many h = rw (sym ok, lt-leb (length (regular_rules r)) most_rules (omega (arith, many)))

  module _ (h : ones r.constructors.0 * ones r.scalars.0 ≤ most_rules) where
    few : leb (length (regular_rules r)) most_rules ≡ true
    few = le-leb (length (regular_rules r)) most_rules (omega (arith, many))

    -- the listing's paper, of a set that is accepted
    said : {p : Paper} → p ≡ regular_listing r → p ≡ choose (all_conclude r) (accepted_listing (regular_rules r)) (refusal 13 0 no_listing)
    unfolding regular_listing
    said asked = asked ∙ ap (λ (v : Paper). on_verdict v (choose (all_conclude r) (accepted_listing (regular_rules r)) (refusal 13 0 no_listing)) no_listing) (sym ok)

    pub expand_refused : (why : Refusal) → refused why no_listing ≡ regular_listing r → refused why no_list_values ≡ expanded r
    unfolding expanded accepted_listing
    expand_refused why asked = rw (sym ok, few) (go (all_conclude r) (said asked))
      where
        go : (b : Bool) → refused why no_listing ≡ choose b (accepted_listing (regular_rules r)) (refusal 13 0 no_listing)
            → refused why no_list_values ≡ choose b (accepted_list (list_of (regular_rules r))) (refusal 13 0 no_list_values)
        go true f = cc
        go false f = cc

    pub expand_list : (l : Listing) → accepted (l.count ∷ rules_values l.rules) ≡ regular_listing r → {rules : L.List Rule} {members : ℕ} → rules ≡ take most_rules l.rules
        → members ≡ choose (leb (ones r.constructors.0 * ones r.scalars.0) most_rules) (2 ^ (ones r.constructors.0 * ones r.scalars.0) - 1) 0
        → accepted_list (record { rules = rules; len = ones r.constructors.0 * ones r.scalars.0; members = members }) ≡ expanded r
    unfolding expanded accepted_listing list_of
    expand_list l asked {rules} {members} t m = rw (sym ok, few) (go (all_conclude r) (said asked))
      where
        go : (b : Bool) → accepted (l.count ∷ rules_values l.rules) ≡ choose b (accepted_listing (regular_rules r)) (refusal 13 0 no_listing)
            → accepted_list (record { rules = rules; len = ones r.constructors.0 * ones r.scalars.0; members = members }) ≡ choose b (accepted_list (list_of (regular_rules r))) (refusal 13 0 no_list_values)
        go true f =
            ap accepted_list (
            ap₂ (λ (x : L.List Rule) (m : ℕ). record { rules = x; len = ones r.constructors.0 * ones r.scalars.0; members = m })
            (t ∙ ap (take most_rules) (rules-one l.rules (padded most_listed blank_rule (map rule_of (regular_rules r))) (ap (λ (p : Paper). drop 1 (values p)) f)) ∙ fewer_blanks most_rules most_listed blank_rule (map rule_of (regular_rules r)) (omega (arith, length-map (regular_rules r) rule_of, many)) (omega arith))
            (m ∙ ap (λ (b : Bool). choose b (2 ^ (ones r.constructors.0 * ones r.scalars.0) - 1) 0) (le-leb (ones r.constructors.0 * ones r.scalars.0) most_rules h))
            ∙ ap (λ (c : ℕ). record { rules = padded most_rules blank_rule (map rule_of (regular_rules r)); len = c; members = 2 ^ c - 1 }) many)
        go false f = cc
