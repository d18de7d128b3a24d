-- `filter` meets its contract. The loop's invariant: the members kept so far, and those that pass among the rest, are those that pass.
-- Assumes nothing.
use mathlib.Core.Path.{◌≡◌, ap, ◌∙◌}
use Prim.Native.Nat.{◌+◌}
use native.Mathlib.Nat.{zero-add}
use native.Mathlib.Omega.{arith}
use borrow.Author.Rules.{rules}
use Rattle.scalars.specs.Mask.{sift}
use Rattle.scalars.specs.declared.one_bits_iter.OneBitsIter.{OneBitsIter}
use Rattle.rules.specs.Rule.{passes}
use Rattle.lists.specs.List.{signatures}
use Rattle.scalars.proofs.Masks.{sift_le, mapped-long}
use Rattle.lists.proofs.Lists.{turned_out, read_turn, read_below, with_rules-less, with_rules_sifted}
use Rattle.lists.proofs.StepsTogether.{kept-turn}
use Rattle.lists.proofs.walks.filter.Goals as goal
use Rattle.lists.proofs.walks.filter.Goals.{After-if_kept-left}

-- what the turn's test says of the two masks
kept : (c : After-if_kept-left)
    → sift (passes c.args.keep) (signatures c.args.list) c.loop-bit.bit-iterator.0 ≡ c.if_kept-left.result + sift (passes c.args.keep) (signatures c.args.list) c.next.new.self.0
kept c =
    kept-turn (passes c.args.keep) (read_turn c.args.list (search (rules, mapped-long)) c.loop-bit.invariant.within c.in-Some.ensures.steps.1 (c.from.ensures ∙ c.number.ensures))
    c.passes.ensures c.if_kept-left.ensures

pub loop-bit-init : goal.loop-bit-init
loop-bit-init c = record {
  within = with_rules-less c.args.list (search (rules, mapped-long)) _ (ap (λ (w : OneBitsIter). w.0) c.into_iter-bit-iterator.ensures.into_iter_gives ∙ c.with_rules.ensures);
  kept = zero-add _;
}

pub bounds-list-from : goal.bounds-list-from
bounds-list-from c = read_below c.args.list (search (rules, mapped-long)) c.loop-bit.invariant.within c.in-Some.ensures.steps.1 (c.from.ensures ∙ c.number.ensures)

pub overflow_add-left : goal.overflow_add-left
overflow_add-left c =
    omega (arith, c.loop-bit.invariant.kept, kept c, sift_le (passes c.args.keep) (signatures c.args.list) c.into_iter-bit-iterator.result.0)

pub loop-bit-preserved : goal.loop-bit-preserved
loop-bit-preserved c =
    let turn = read_turn c.args.list (search (rules, mapped-long)) c.loop-bit.invariant.within c.in-Some.ensures.steps.1 (c.from.ensures ∙ c.number.ensures) in
    record { within = turn.less; kept = omega (arith, c.loop-bit.invariant.kept, kept c) }

pub returns : goal.returns
returns c =
    let p = passes c.args.keep in
    let none = turned_out c.args.list _ (search (rules, mapped-long)) c.loop-bit.invariant.within c.in-None.ensures.steps.1 in
    omega (arith, c.loop-bit.invariant.kept, sift_le p (signatures c.args.list) c.loop-bit.bit-iterator.0, with_rules_sifted c.args.list (search (rules, mapped-long)) c.args.rules.0 (ap (λ (w : OneBitsIter). w.0) c.into_iter-bit-iterator.ensures.into_iter_gives ∙ c.with_rules.ensures) p)
