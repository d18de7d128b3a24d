-- `longest` meets its contract. The loop's invariant: the larger of the best so far and the longest of the rest is the longest of all.
-- Assumes nothing.
use mathlib.Core.Path.{ap, ◌∙◌}
use mathlib.Core.List.{[], ◌∷◌}
use Prim.Native.Nat.{ℕ}
use native.Mathlib.Omega.{arith}
use borrow.Author.Rules.{rules}
use Rattle.scalars.specs.Paper.{accepted}
use Rattle.scalars.specs.declared.one_bits_iter.OneBitsIter.{OneBitsIter}
use Rattle.rules.specs.Verdict.{longest}
use Rattle.scalars.proofs.Masks.{mapped-long}
use Rattle.lists.proofs.Lists.{turned_out, read_turn, read_below, none_left, with_rules-less, with_rules-listed, counted_none, counted}
use Rattle.lists.proofs.walks.longest.Goals as goal

pub returns-then-members-eq0 : goal.returns-then-members-eq0
returns-then-members-eq0 c = counted_none c.args.list (search (rules, mapped-long)) c.with_rules-members.ensures c.if-members-eq0.true

pub loop-bit-init : goal.loop-bit-init
loop-bit-init c = rw (ap (λ (w : OneBitsIter). w.0) c.into_iter-bit-iterator.ensures.into_iter_gives) record {
  within = with_rules-less c.args.list (search (rules, mapped-long)) c.args.list.members c.with_rules-members.ensures;
  best = omega (arith, ap longest (with_rules-listed c.args.list (search (rules, mapped-long)) c.with_rules-members.ensures));
}

pub bounds-list-from : goal.bounds-list-from
bounds-list-from c = read_below c.args.list (search (rules, mapped-long)) c.loop-bit.invariant.within c.in-Some.ensures.steps.1 (c.from.ensures ∙ c.number.ensures)

pub loop-bit-preserved : goal.loop-bit-preserved
loop-bit-preserved c =
    let turn = read_turn c.args.list (search (rules, mapped-long)) c.loop-bit.invariant.within c.in-Some.ensures.steps.1 (c.from.ensures ∙ c.number.ensures) in
    record { within = turn.less; best = omega (arith, c.loop-bit.invariant.best, ap longest turn.members, c.len.ensures) }

pub returns : goal.returns
returns c =
    let none = none_left c.args.list (turned_out c.args.list _ (search (rules, mapped-long)) c.loop-bit.invariant.within c.in-None.ensures.steps.1) in
    ap (λ (n : ℕ). accepted (n ∷ [])) (omega (arith, c.loop-bit.invariant.best, ap longest none))
    ∙ counted c.args.list (search (rules, mapped-long)) c.with_rules-members.ensures (omega arith)
