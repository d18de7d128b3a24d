-- `filter` meets its contract. The loop's invariant: the members kept so far, and those that pass among the rest, are those that pass.
-- Assumes nothing.
use mathlib.Core.Path.{◌≡◌}
use Prim.Native.Nat.{◌+◌, ◌^◌, ◌<◌}
use lib.ListN.{length}
use Rattle.scalars.specs.Mask.{sift}
use Rattle.rules.specs.Rule.{passes}
use Rattle.lists.specs.List.{signatures}
use Rattle.lists.proofs.walks.filter.Given as goal

abbrev pub invariant-loop-bit : goal.invariant-loop-bit
invariant-loop-bit l = record {
  within : l.bit-iterator.0 < 2 ^ length (signatures l.list);
  kept : l.left + sift (passes l.keep) (signatures l.list) l.bit-iterator.0 ≡ sift (passes l.keep) (signatures l.list) l.initial.bit-iterator.0;
}
