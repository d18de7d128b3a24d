-- `tested` meets its contract, test by test.
-- Assumes nothing.
use mathlib.Core.Path.{◌∙◌}
use native.Mathlib.Omega.{arith}
use borrow.Author.Tests.{le-ltb}
use Rattle.calls.proofs.CallTests.{more-marks, more-types, as_many}
use Rattle.calls.proofs.function_call.tested.Goals as goal

pub returns-then-function-ge-FUNCTION_COUNT : goal.returns-then-function-ge-FUNCTION_COUNT
returns-then-function-ge-FUNCTION_COUNT c = simp (le-ltb _ _ c.if-function-ge-FUNCTION_COUNT.true)

pub returns-then-types-marks : goal.returns-then-types-marks
returns-then-types-marks c =
    let start = c.args in
    more-marks _ start.types.now start.marks.now c.if-function-ge-FUNCTION_COUNT.false c.if-types-marks.true

pub returns-then-marks-types : goal.returns-then-marks-types
returns-then-marks-types c =
    let start = c.args in
    more-types _ start.types.now start.marks.now c.if-function-ge-FUNCTION_COUNT.false c.if-marks-types.true

pub returns : goal.returns
returns c =
    let start = c.args in
    c.operands_tested.ensures ∙ as_many _ start.types.now start.marks.now c.if-function-ge-FUNCTION_COUNT.false (omega arith)
