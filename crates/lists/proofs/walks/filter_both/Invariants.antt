-- `filter_both` meets its contract. The loop's invariant: of either mask, the members kept so far, and those that pass among the rest, are
-- those that pass. Assumes nothing.
use mathlib.Core.Path.{◌≡◌}
use Prim.Native.Nat.{◌+◌, ◌^◌, ◌<◌}
use lib.ListN.{length}
use Rattle.scalars.specs.Mask.{sift}
use Rattle.rules.specs.Signature.{fits, takes}
use Rattle.rules.specs.declared.rule.Part.TheVariants.{Shape}
use Rattle.lists.specs.List.{signatures}
use Rattle.lists.proofs.walks.filter_both.Given as goal

abbrev pub invariant-loop-bit : goal.invariant-loop-bit
invariant-loop-bit l = record {
  within : l.bit-iterator.0 < 2 ^ length (signatures l.list);
  shaped : l.shaped + sift (fits Shape l.i l.t) (signatures l.list) l.bit-iterator.0 ≡ sift (fits Shape l.i l.t) (signatures l.list) l.initial.bit-iterator.0;
  left : l.left + sift (takes l.i l.t) (signatures l.list) l.bit-iterator.0 ≡ sift (takes l.i l.t) (signatures l.list) l.initial.bit-iterator.0;
}
