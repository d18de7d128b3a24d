-- Agreement, of the sets that steps leave. Take a Regular set that expands, and its List. A step, at any index and of any type, leaves sets
-- that list the same rules in the same order; their listings are answered alike. Where one of the steps was by an argument's shape and rules remain,
-- the preferred rules of the two are equal. Assumes nothing.
use mathlib.Core.Path.{◌≡◌, sym, ap, ◌∙◌}
use mathlib.Core.Bool.{true}
use mathlib.Core.List as L
use mathlib.Core.List.{◌∷◌}
use mathlib.Core.Logic.{inl}
use Prim.Native.Nat.{ℕ}
use Rattle.scalars.specs.Mask.{choose, filter}
use Rattle.scalars.specs.Paper.{Paper, accepted, refusal}
use Rattle.rules.specs.Signature.{Signature}
use Rattle.rules.specs.Rule.{rule_of, passes}
use Rattle.rules.specs.RulePaper.{rule_values}
use Rattle.regular.specs.Regular.{regular_rules, all_conclude, regular_listing, regular_preferred}
use Rattle.regular.specs.private.Tested.{Known, concluded_listing}
use Rattle.lists.specs.List.{listing, accepted_list, no_list_values, kept, list_step, list_arg, list_listing, list_preferred}
use Rattle.lists.specs.Expansion.{list_of}
use Rattle.theorems.specs.Expands.{Expands}
use Rattle.lists.specs.declared.list.List.{List}
use Rattle.regular.specs.declared.regular.Regular.{Regular}
use Rattle.rules.specs.declared.rule.Keep.{Keep}
use Rattle.rules.specs.declared.rule.Keep.TheVariants.{Argument, Concrete}
use Rattle.regular.proofs.Regulars.{accepted_verdict, known-accepted}
use Rattle.regular.proofs.RegularRules.{rules-short, rules-typed}
use Rattle.theorems.proofs.InTurn.{in_turn, listed-after}
use Rattle.theorems.proofs.ListSteps.{listing-kept, Tested, listing_of, accepted_of, kept-tested, step_answer}
use Rattle.theorems.specs.Steps.{step_regular, Lasting}
use Rattle.theorems.proofs.SetSteps.{known_step, step-rules, step-lasting, step-known, step-concludes}
use Rattle.theorems.proofs.Preferred.{OneShape, regular-first, list-first}
use Rattle.lists.proofs.Expansions.{valid_of}

-- ---- a Regular set's listing, after any steps, is the first one filtered by each step's test in turn

pub rules-after : (ks : L.List Keep) (r : Regular) → Lasting r → regular_rules (in_turn step_regular ks r) ≡ in_turn (λ k. filter (passes k)) ks (regular_rules r)
rules-after = listed-after Lasting regular_rules step_regular step-lasting step-rules

-- ---- the answer to a step is the List of the members that it keeps; to a number that is no type, refusal 7

abbrev pub ask_list : Keep → List → Paper
ask_list (Argument part i t) l = list_arg part i t l
ask_list Concrete l = list_step Concrete l

pub asked-list : (k : Keep) (l : List) → Tested l → ask_list k l ≡ choose (known_step k) (accepted_list (kept k l)) (refusal 7 0 no_list_values)
unfolding list_arg
asked-list Concrete l t = step_answer Concrete l t
asked-list (Argument part i u) l t =
    ap (λ (p : Paper). choose (known_step (Argument part i u)) p (refusal 7 0 no_list_values)) (step_answer (Argument part i u) l t)

-- ---- both sets are accepted, and list the same rules

pub record Alike (l : List) (r : Regular) : Type 0 where
  pub tested : Tested l
  pub known : Known r
  pub lasting : Lasting r
  pub concludes : all_conclude r ≡ true
  pub same : listing l ≡ regular_rules r

module _ (r : Regular) (h : Expands r) where
  pub alike-first : Alike (list_of (regular_rules r)) r
  alike-first =
      let short = rules-short r (accepted_verdict r h.known) in
      record {
        tested =
            record {
              valid = valid_of (regular_rules r) short h.few;
              accepted = accepted_of (regular_rules r) short h.few (rules-typed r h.concludes);
            };
        known = accepted_verdict r h.known;
        lasting = inl h.some;
        concludes = h.concludes;
        same = listing_of (regular_rules r) short;
      }

module _ (l : List) (r : Regular) (a : Alike l r) where
  pub alike-step : (k : Keep) → Alike (kept k l) (step_regular k r)
  alike-step k = record {
    tested = kept-tested k l a.tested;
    known = step-known k r a.known;
    lasting = step-lasting k r a.lasting;
    concludes = step-concludes k r a.concludes;
    same = listing-kept k l ∙ ap (filter (passes k)) a.same ∙ sym (step-rules k r a.lasting);
  }

  pub same-listing : list_listing l ≡ regular_listing r
  unfolding list_listing regular_listing concluded_listing
  same-listing = rw (a.tested.accepted, known-accepted r a.known, a.concludes, a.same)

  -- where one constructor is left
  pub same-preferred : OneShape r → (s : Signature) (rest : L.List Signature) → regular_rules r ≡ s ∷ rest
      → (i : ℕ) × (list_preferred l ≡ accepted (i ∷ rule_values (rule_of s))) × (regular_preferred r ≡ accepted (rule_values (rule_of s)))
  same-preferred one s rest q =
      let (i, p) = list-first l a.tested.accepted s rest (a.same ∙ q) in
      (i, p, regular-first r a.known a.concludes one s rest q)
