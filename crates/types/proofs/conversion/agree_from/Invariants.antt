-- `agree_from` meets its contract. The loop's invariant: the best so far is a scalar, and its consensus with what is left, by whoever gave
-- the best, is the whole consensus. Assumes nothing.
use mathlib.Core.Path.{◌≡◌}
use Prim.Native.Nat.{◌<◌}
use lib.ListN.{length, drop}
use Rattle.scalars.specs.Domain.{scalar_count}
use Rattle.types.specs.private.Agreeing.{agree_from, giver_in}
use Rattle.types.proofs.conversion.agree_from.Given as goal

abbrev pub invariant-loop-i : goal.invariant-loop-i
invariant-loop-i l = record {
  scalar : l.best.0 < scalar_count;
  whole : agree_from l.best.0 (giver_in (length l.components) l.giver) l.i (drop l.i l.components)
      ≡ agree_from l.initial.best.0 (giver_in (length l.components) l.by) l.start (drop l.start l.components);
}
