-- `filter_both` meets its contract. The loop's invariant: of either mask, the members kept so far, and those that pass among the rest, are
-- those that pass. Assumes nothing.
use mathlib.Core.Path.{◌≡◌, sym, ap, ◌∙◌}
use Prim.Native.Nat.{◌+◌}
use native.Mathlib.Nat.{zero-add}
use native.Mathlib.Omega.{arith}
use borrow.Author.Rules.{rules}
use Rattle.scalars.specs.Mask.{sift}
use Rattle.scalars.specs.declared.one_bits_iter.OneBitsIter.{OneBitsIter}
use Rattle.rules.specs.Signature.{fits, takes}
use Rattle.rules.specs.declared.rule.Part.TheVariants.{Shape, Number}
use Rattle.lists.specs.List.{signatures}
use Rattle.scalars.proofs.Masks.{sift_le, mapped-long}
use Rattle.lists.proofs.Lists.{turned_out, read_turn, read_below, with_rules-less, with_rules_sifted}
use Rattle.lists.proofs.StepsTogether.{both_left, kept-turn, both-turn}
use Rattle.lists.proofs.walks.filter_both.Goals as goal
use Rattle.lists.proofs.walks.filter_both.Goals.{After-if_kept-of_both}

-- what the turn's tests say of the two masks
module _ (c : After-if_kept-of_both) where
  shaped-so : sift (fits Shape c.args.i c.args.t) (signatures c.args.list) c.loop-bit.bit-iterator.0
      ≡ c.if_kept-of_shape.result + sift (fits Shape c.args.i c.args.t) (signatures c.args.list) c.next.new.self.0
  shaped-so =
      kept-turn (fits Shape c.args.i c.args.t) (read_turn c.args.list (search (rules, mapped-long)) c.loop-bit.invariant.within c.in-Some.ensures.steps.1 (c.from.ensures ∙ c.number.ensures))
      c.passes.ensures c.if_kept-of_shape.ensures

  left_so : sift (takes c.args.i c.args.t) (signatures c.args.list) c.loop-bit.bit-iterator.0
      ≡ c.if_kept-of_both.result + sift (takes c.args.i c.args.t) (signatures c.args.list) c.next.new.self.0
  left_so =
      both-turn c.args.i c.args.t (read_turn c.args.list (search (rules, mapped-long)) c.loop-bit.invariant.within c.in-Some.ensures.steps.1 (c.from.ensures ∙ c.number.ensures))
      c.passes.ensures c.if_kept-of_shape.ensures c.passes-in-loop-bit.ensures c.if_kept-of_both.ensures

pub loop-bit-init : goal.loop-bit-init
loop-bit-init c = record {
  within = with_rules-less c.args.list (search (rules, mapped-long)) _ (ap (λ (w : OneBitsIter). w.0) c.into_iter-bit-iterator.ensures.into_iter_gives ∙ c.with_rules.ensures);
  shaped = zero-add _;
  left = zero-add _;
}

pub bounds-list-from : goal.bounds-list-from
bounds-list-from c = read_below c.args.list (search (rules, mapped-long)) c.loop-bit.invariant.within c.in-Some.ensures.steps.1 (c.from.ensures ∙ c.number.ensures)

pub overflow_add-shaped : goal.overflow_add-shaped
overflow_add-shaped c =
    omega (arith, c.loop-bit.invariant.shaped, shaped-so c, sift_le (fits Shape c.args.i c.args.t) (signatures c.args.list) c.into_iter-bit-iterator.result.0)

pub overflow_add-left : goal.overflow_add-left
overflow_add-left c =
    omega (arith, c.loop-bit.invariant.left, left_so c, sift_le (takes c.args.i c.args.t) (signatures c.args.list) c.into_iter-bit-iterator.result.0)

pub loop-bit-preserved : goal.loop-bit-preserved
loop-bit-preserved c =
    let turn = read_turn c.args.list (search (rules, mapped-long)) c.loop-bit.invariant.within c.in-Some.ensures.steps.1 (c.from.ensures ∙ c.number.ensures) in
    record { within = turn.less; shaped = omega (arith, c.loop-bit.invariant.shaped, shaped-so c); left = omega (arith, c.loop-bit.invariant.left, left_so c) }

pub returns : goal.returns
returns c =
    let signs = signatures c.args.list in
    let shape = fits Shape c.args.i c.args.t in
    let both = takes c.args.i c.args.t in
    let cut = with_rules_sifted c.args.list (search (rules, mapped-long)) c.args.rules.0 (ap (λ (w : OneBitsIter). w.0) c.into_iter-bit-iterator.ensures.into_iter_gives ∙ c.with_rules.ensures) in
    let none = turned_out c.args.list _ (search (rules, mapped-long)) c.loop-bit.invariant.within c.in-None.ensures.steps.1 in
    let shaped : c.loop-bit.shaped ≡ sift shape signs c.args.rules.0 = omega (arith, c.loop-bit.invariant.shaped, sift_le shape signs c.loop-bit.bit-iterator.0, cut shape) in
    let left : c.loop-bit.left ≡ sift both signs c.args.rules.0 = omega (arith, c.loop-bit.invariant.left, sift_le both signs c.loop-bit.bit-iterator.0, cut both) in record {
      shaped = shaped;
      left = left ∙ both_left c.args.i c.args.t signs c.args.rules.0 ∙ ap (sift (fits Number c.args.i c.args.t) signs) (sym shaped);
    }
