-- `operands_tested` meets its contract. The loop's invariant: what is left of the operands' test is the whole test, and some operand is measured
-- if one before this one is or one from here on.
-- Assumes nothing.
use native.Mathlib.Omega.{arith}
use Rattle.calls.proofs.OperandTests.{unknown_type, unknown_mark, measured_abstract_out, next-operand, no_operand-left, next-mark, or_first, or_second, all-marks}
use Rattle.calls.proofs.function_call.operands_tested.Goals as goal
use Rattle.calls.proofs.function_call.operands_tested.Goals.{then-code-gt-LAST_CODE-via-then-code-gt-LAST_CODE, then-code-gt-LAST_CODE-via-else-code-gt-LAST_CODE+then-mark-gt-MEASURED, then-measured, else-measured}

pub returns-then-code-gt-LAST_CODE : goal.returns-then-code-gt-LAST_CODE
returns-then-code-gt-LAST_CODE c =
    let inv = c.loop-i.invariant in
    elim c.then-code-gt-LAST_CODE.branch [
      | then-code-gt-LAST_CODE-via-then-code-gt-LAST_CODE w ↦ unknown_type _ _ _ inv.1 inv.0 c.loop-i-test.true w.if-code-gt-LAST_CODE.true
      | then-code-gt-LAST_CODE-via-else-code-gt-LAST_CODE+then-mark-gt-MEASURED w ↦
          unknown_mark _ _ _ inv.1 inv.0 c.loop-i-test.true w.if-code-gt-LAST_CODE.false w.if-mark-gt-MEASURED.true
    ]

pub returns-then-is_measured_abstract : goal.returns-then-is_measured_abstract
returns-then-is_measured_abstract c =
    let inv = c.loop-i.invariant in
    measured_abstract_out _ _ _ inv.1 inv.0 c.loop-i-test.true c.if-code-gt-LAST_CODE.false c.if-mark-gt-MEASURED.false
    c.of-operand.ensures c.is_measured_abstract.ensures c.if-is_measured_abstract.true

pub loop-i-preserved : goal.loop-i-preserved
loop-i-preserved c =
    let inv = c.loop-i.invariant in (
      inv.0,
      next-operand _ _ _ inv.1 inv.0 c.loop-i-test.true c.if-code-gt-LAST_CODE.false c.if-mark-gt-MEASURED.false
          c.of-operand.ensures c.is_measured_abstract.ensures c.if-is_measured_abstract.false,
      next-mark c.args.marks.now c.loop-i.i c.loop-i.measured inv.2 (omega arith) c.of-operand.ensures
          (elim c.if-measured.branch [
            | then-measured w ↦ or_first _ w.measured-is w.if-measured.true
            | else-measured w ↦ or_second _ w.measured-is w.if-measured.false
          ]),
    )

pub returns : goal.returns
returns c =
    let here = c.loop-i in
    no_operand-left _ _ _ here.invariant.1 c.loop-i-test.false (all-marks _ here.i here.measured here.invariant.2 (omega arith))
