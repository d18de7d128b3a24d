-- The loop's invariant: the machine whose stack has its top last, run over the bytes that are left with this stack, goes out as the
-- whole run does; no more lines were counted than bytes passed. The measure is the number of bytes left.
use mathlib.Core.Path.{◌≡◌}
use mathlib.Core.List.{[]}
use Prim.Native.Nat.{◌+◌, ◌≤◌}
use lib.ListN.{length}
use Rattle.functions.specs.Functions.{listing_of}
use Rattle.machine.specs.Line.{lines_of}
use Rattle.machine.specs.private.MachineStack.{operands_on}
use Rattle.machine.proofs.TopLast.{run_last}
use Rattle.machine.proofs.machine.run_worksheet.Given as goal

abbrev pub invariant-loop-left : goal.invariant-loop-left
invariant-loop-left l = record {
  counted : l.line + length l.left ≤ length l.sheet;
  same_run : run_last listing_of (lines_of l.left) l.line (operands_on l.stack) ≡ run_last listing_of (lines_of l.sheet) 0 [];
}

abbrev pub decreases-loop-left : goal.decreases-loop-left
decreases-loop-left l = length l.left
