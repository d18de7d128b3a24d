-- The loop's invariant: whatever writes the conversions that are left writes them all, and there is room for a line for each operand left.
use Prim.Native.Nat.{◌+◌, ◌*◌, ◌-◌, ◌≤◌}
use lib.ListN.{length}
use Rattle.worksheet.specs.private.Sheet.{enough_bytes}
use Rattle.worksheet.proofs.Conversions.{Leaves}
use Rattle.worksheet.proofs.one_call.convert.Given as goal

abbrev pub invariant-loop-i : goal.invariant-loop-i
invariant-loop-i l = record {
  room : l.sheet.len + 4 * (length l.operands - l.i) ≤ enough_bytes;
  leaves : Leaves l.initial.sheet l.operands l.rule l.sheet l.i;
}
