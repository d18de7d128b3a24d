-- `TestedList::allowed` meets its contract. The loop's invariant: the types so far, followed by those of the members that are left, are the whole
-- listing of types, and the rest have the argument if and only if all have it. Assumes nothing.
use mathlib.Core.Path.{refl, sym, ap, ap₂, ◌∙◌}
use mathlib.Core.List.{List, ◌∷◌, map}
use Prim.Native.Nat.{ℕ, ◌<◌}
use native.Mathlib.Nat.{zero-add}
use native.Mathlib.Omega.{arith}
use lib.ListN.{length, length-set, length-map, length-replicate}
use Rattle.scalars.specs.Paper.{accepted, unused}
use Rattle.scalars.specs.declared.one_bits_iter.OneBitsIter.{OneBitsIter}
use Rattle.rules.specs.Listing.{most_listed, accepted_types}
use Rattle.rules.specs.Rule.{blank_rule}
use Rattle.rules.specs.Signature.{type_at}
use Rattle.lists.specs.List.{most_rules, listing}
use Rattle.scalars.proofs.Fills.{filled, fill_step, fill_end}
use Rattle.rules.proofs.Records.{clean-count}
use Rattle.lists.proofs.Lists.{valid-long, valid-within, rule-clean, turned, turned_out, none_left, listing-length}
use Rattle.lists.proofs.TypesAt.{lacks, has, all_have}
use Rattle.lists.proofs.tested.TestedList.allowed.Goals as goal
use Rattle.lists.proofs.tested.TestedList.allowed.Goals.{After-from-in-loop-bit}

-- a member that is left has an entry
fits : (c : After-from-in-loop-bit) → c.loop-bit.count < most_rules
fits c =
    let turn = turned blank_rule c.args.self.list _ (valid-long _ c.args.self.valid) c.loop-bit.invariant.within c.in-Some.ensures.steps.1 c.number.ensures c.rule-rule.ensures in
    omega (arith, c.loop-bit.invariant.counted, ap length turn.members, listing-length c.args.self.list c.args.self.valid)

pub loop-bit-init : goal.loop-bit-init
unfolding listing
loop-bit-init c =
    let l = c.args.self.list in
    let i = c.args.i in
    rw (ap (λ (w : OneBitsIter). w.0) c.into_iter-bit-iterator.ensures.into_iter_gives) record {
      within = valid-within l c.args.self.valid;
      counted = zero-add _;
      long = ap length c.no_codes-codes.ensures ∙ length-replicate {A = ℕ} most_listed unused;
      filled = rw c.no_codes-codes.ensures
          (filled most_listed unused (map (type_at i) (listing l)) (omega (arith, length-map (listing l) (type_at i), listing-length l c.args.self.valid)));
      have = refl;
    }

pub returns-then-from-i : goal.returns-then-from-i
returns-then-from-i c =
    let turn = turned blank_rule c.args.self.list _ (valid-long _ c.args.self.valid) c.loop-bit.invariant.within c.in-Some.ensures.steps.1 c.number.ensures c.rule-rule.ensures in
    lacks _ _ c.loop-bit.invariant.have turn.members (omega (arith, clean-count (rule-clean _ c.rule-rule.ensures c.args.self.valid turn.below)))

pub bounds-codes-from : goal.bounds-codes-from
bounds-codes-from c = omega (arith, fits c, c.from-in-loop-bit.ensures)

pub overflow_add-count : goal.overflow_add-count
overflow_add-count c = omega (arith, fits c)

pub loop-bit-preserved : goal.loop-bit-preserved
loop-bit-preserved c =
    let turn = turned blank_rule c.args.self.list _ (valid-long _ c.args.self.valid) c.loop-bit.invariant.within c.in-Some.ensures.steps.1 c.number.ensures c.rule-rule.ensures in
    record {
      within = turn.less;
      counted = omega (arith, c.loop-bit.invariant.counted, ap length turn.members);
      long = simp length-set c.loop-bit.invariant.long;
      filled = rw (c.argument.ensures, c.from-in-loop-bit.ensures) (fill_step _ _ (ap (map (type_at c.args.i)) turn.members) c.loop-bit.invariant.filled);
      have = has c.args.i (listing c.args.self.list) c.loop-bit.invariant.have turn.members (omega (arith, clean-count (rule-clean _ c.rule-rule.ensures c.args.self.valid turn.below)));
    }

pub returns : goal.returns
unfolding accepted_types
returns c =
    let none = none_left c.args.self.list (turned_out c.args.self.list _ (valid-long _ c.args.self.valid) c.loop-bit.invariant.within c.in-None.ensures.steps.1) in
    let types = map (type_at c.args.i) (listing c.args.self.list) in
    ap₂ (λ (n : ℕ) (ts : List ℕ). accepted (n ∷ ts))
    (omega (arith, c.loop-bit.invariant.counted, ap length none) ∙ sym (length-map (listing c.args.self.list) (type_at c.args.i)))
    (fill_end _ _ (ap (map (type_at c.args.i)) none) c.loop-bit.invariant.filled)
    ∙ all_have _ _ c.loop-bit.invariant.have none
