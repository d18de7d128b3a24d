-- `operands_tested` meets its contract. The loop's invariant: what is left of the operands' test is the whole test, and some operand is measured
-- if one before this one is or one from here on.
-- Assumes nothing.
use mathlib.Core.Path.{◌≡◌}
use lib.ListN.{length}
use Rattle.calls.proofs.OperandTests.{tested_from, SoFar}
use Rattle.calls.proofs.function_call.operands_tested.Given as goal

abbrev pub invariant-loop-i : goal.invariant-loop-i
invariant-loop-i l = (length l.types ≡ length l.marks) × (tested_from l.i l.types l.marks ≡ tested_from 0 l.types l.marks) × SoFar l.marks l.i l.measured
