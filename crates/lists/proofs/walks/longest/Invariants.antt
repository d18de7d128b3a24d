-- `longest` meets its contract. The loop's invariant: the larger of the best so far and the longest of the rest is the longest of all.
-- Assumes nothing.
use mathlib.Core.Path.{◌≡◌}
use Prim.Native.Nat.{◌^◌, ◌<◌, max}
use lib.ListN.{length}
use Rattle.scalars.specs.Mask.{select}
use Rattle.rules.specs.Verdict.{longest}
use Rattle.lists.specs.List.{signatures, listing}
use Rattle.lists.proofs.walks.longest.Given as goal

abbrev pub invariant-loop-bit : goal.invariant-loop-bit
invariant-loop-bit l = record {
  within : l.bit-iterator.0 < 2 ^ length (signatures l.list);
  best : max l.best (longest (select (signatures l.list) l.bit-iterator.0)) ≡ longest (listing l.list);
}
