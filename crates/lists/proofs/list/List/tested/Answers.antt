-- `List::tested` meets its contract: its four tests are the verdict's, in order, over the rules that the array holds. Assumes nothing.
use mathlib.Core.Path.{refl, sym, ap, ◌∙◌}
use mathlib.Core.Bool.{Bool, true, false}
use borrow.Author.Rules.{rules}
use borrow.Author.Tests.{le-leb, lt-leb}
use Rattle.lists.specs.List.{accepted_list}
use Rattle.scalars.proofs.Masks.{mapped-long}
use Rattle.lists.proofs.Verdicts.{checked_by, checked-clean, checked-valid}
use Rattle.lists.proofs.list.List.tested.Goals as goal
use Rattle.lists.proofs.list.List.tested.Goals.{then-not-all_known-via-then-not-all_known, then-not-all_known-via-else-not-all_known+then-not-within, then-self-gt-MOST_RULES-via-then-self-gt-MOST_RULES, then-self-gt-MOST_RULES-via-else-self-gt-MOST_RULES+then-not-all_short}

pub returns-then-not-all_known : goal.returns-then-not-all_known
returns-then-not-all_known c =
    let so = checked_by c.args.self (search (rules, mapped-long)) c.min.ensures in
    elim c.then-not-all_known.branch [
      | then-not-all_known-via-then-not-all_known w ↦ so false _ _ _ (sym c.all_known.ensures ∙ w.if-not-all_known.true) refl refl refl
      | then-not-all_known-via-else-not-all_known+then-not-within w ↦
          so true false _ _ (sym c.all_known.ensures ∙ w.if-not-all_known.false) (sym w.within.ensures ∙ w.if-not-within.true) refl refl
    ]

pub returns-then-self-gt-MOST_RULES : goal.returns-then-self-gt-MOST_RULES
returns-then-self-gt-MOST_RULES c =
    let so = λ (m d : Bool). checked_by c.args.self (search (rules, mapped-long)) c.min.ensures true true m d (sym c.all_known.ensures ∙ c.if-not-all_known.false) (sym c.within.ensures ∙ c.if-not-within.false) in
    elim c.then-self-gt-MOST_RULES.branch [
      | then-self-gt-MOST_RULES-via-then-self-gt-MOST_RULES w ↦ so false _ (lt-leb _ _ w.if-self-gt-MOST_RULES.true) refl
      | then-self-gt-MOST_RULES-via-else-self-gt-MOST_RULES+then-not-all_short w ↦
          so true false (le-leb _ _ w.if-self-gt-MOST_RULES.false) (sym w.all_short.ensures ∙ w.if-not-all_short.true)
    ]

pub returns : goal.returns
unfolding accepted_list
returns c =
    let l = c.args.self in
    ap accepted_list (checked-clean l (search (rules, mapped-long)) c.min.ensures c.cleaned.ensures)
    ∙ checked_by l (search (rules, mapped-long)) c.min.ensures true true true true (sym c.all_known.ensures ∙ c.if-not-all_known.false) (sym c.within.ensures ∙ c.if-not-within.false)
    (le-leb _ _ c.if-self-gt-MOST_RULES.false) (sym c.all_short.ensures ∙ c.if-not-all_short.false)

pub invariant_of-result : goal.invariant_of-result
invariant_of-result c = record {
  valid = checked-valid c.args.self (search (rules, mapped-long)) c.min.ensures c.cleaned.ensures c.if-self-gt-MOST_RULES.false (sym c.within.ensures ∙ c.if-not-within.false);
}
