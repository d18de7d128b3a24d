-- `TestedList::listed` meets its contract. The loop's invariant: the records so far, followed by those of the members that are left, are the whole
-- listing. Assumes nothing.
use mathlib.Core.Path.{ap, ap₂, ◌∙◌}
use mathlib.Core.List.{List, map, ◌∷◌}
use Prim.Native.Nat.{ℕ, ◌<◌}
use native.Mathlib.Nat.{zero-add}
use native.Mathlib.Omega.{arith}
use lib.ListN.{length, length-set, length-map, length-replicate}
use Rattle.scalars.specs.Paper.{accepted}
use Rattle.scalars.specs.declared.one_bits_iter.OneBitsIter.{OneBitsIter}
use Rattle.rules.specs.Rule.{blank_rule, rule_of}
use Rattle.rules.specs.RulePaper.{rules_values}
use Rattle.rules.specs.Listing.{most_listed, accepted_listing}
use Rattle.rules.specs.declared.rule.Rule.{Rule}
use Rattle.lists.specs.List.{most_rules, listing}
use Rattle.scalars.proofs.Fills.{filled, fill_step, fill_end}
use Rattle.lists.proofs.Lists.{valid-long, valid-within, turned, turned_record, turned_out, none_left, listing-length}
use Rattle.lists.proofs.tested.TestedList.listed.Goals as goal
use Rattle.lists.proofs.tested.TestedList.listed.Goals.{After-from}

-- a member that is left has an entry
fits : (c : After-from) → c.loop-bit.count < most_rules
fits c =
    let turn = turned blank_rule c.args.self.list _ (valid-long _ c.args.self.valid) c.loop-bit.invariant.within c.in-Some.ensures.steps.1 c.number.ensures c.rule.ensures in
    omega (arith, c.loop-bit.invariant.counted, ap length turn.members, listing-length c.args.self.list c.args.self.valid)

pub loop-bit-init : goal.loop-bit-init
unfolding listing
loop-bit-init c =
    let l = c.args.self.list in
    rw (ap (λ (w : OneBitsIter). w.0) c.into_iter-bit-iterator.ensures.into_iter_gives) record {
      within = valid-within l c.args.self.valid;
      counted = zero-add _;
      long = ap length c.no_rules-rules.ensures ∙ length-replicate most_listed blank_rule;
      filled = rw c.no_rules-rules.ensures
          (filled most_listed blank_rule (map rule_of (listing l)) (omega (arith, length-map (listing l) rule_of, listing-length l c.args.self.valid)));
    }

pub bounds-rules-from : goal.bounds-rules-from
bounds-rules-from c = omega (arith, fits c, c.from.ensures)

pub overflow_add-count : goal.overflow_add-count
overflow_add-count c = omega (arith, fits c)

pub loop-bit-preserved : goal.loop-bit-preserved
loop-bit-preserved c =
    let turn = turned blank_rule c.args.self.list _ (valid-long _ c.args.self.valid) c.loop-bit.invariant.within c.in-Some.ensures.steps.1 c.number.ensures c.rule.ensures in
    record {
      within = turn.less;
      counted = omega (arith, c.loop-bit.invariant.counted, ap length turn.members);
      long = simp length-set c.loop-bit.invariant.long;
      filled = rw c.from.ensures (fill_step _ _ (turned_record _ c.args.self.valid turn c.rule.ensures) c.loop-bit.invariant.filled);
    }

pub returns : goal.returns
unfolding accepted_listing
returns c =
    let none = none_left c.args.self.list (turned_out c.args.self.list _ (valid-long _ c.args.self.valid) c.loop-bit.invariant.within c.in-None.ensures.steps.1) in
    ap₂ (λ (n : ℕ) (rs : List Rule). accepted (n ∷ rules_values rs)) (omega (arith, c.loop-bit.invariant.counted, ap length none))
    (fill_end _ _ (ap (map rule_of) none) c.loop-bit.invariant.filled)
