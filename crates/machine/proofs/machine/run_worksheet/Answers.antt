-- `run_worksheet` runs every line of the bytes: each way through the function is a law of proofs/Outcomes.antt.
-- Assumes nothing.
use mathlib.Core.Path.{◌≡◌, sym, ◌∙◌}
use native.Mathlib.Omega.{arith}
use borrow.Author.Tests.{eqb-true, eqb-false}
use Rattle.scalars.proofs.HandedOn.{handed_on}
use Rattle.functions.specs.Functions.{listing_of}
use Rattle.machine.specs.private.MachineStack.{operands_on}
use Rattle.machine.proofs.Outcomes.{lines-counted, run-ended, run-partial, run-stopped, run-next}
use Rattle.machine.proofs.machine.run_worksheet.Goals as goal

pub returns-in_err-ok_or : goal.returns-in_err-ok_or
returns-in_err-ok_or c =
    let loop = c.loop-left in
    let told = c.in_err-ok_or.ensures in
    let number : c.in_err-ok_or.field-0.0.0 ≡ loop.line =
    let e = rw told.ok_part at told.value in cc in
    rw (handed_on c.from_residual.ensures.1, number)
    (run-stopped listing_of c.args.sheet.now loop.left.now loop.line (operands_on loop.stack) loop.invariant.same_run
    c.in-len4-up.len_at_least (rw told.ok_part at c.line.ensures))

pub loop-left-preserved : goal.loop-left-preserved
loop-left-preserved c =
    let loop = c.loop-left in
    record {
      counted = lines-counted loop.left.now loop.line _ c.in-len4-up.len_at_least loop.invariant.counted;
      same_run =
          run-next listing_of c.args.sheet.now loop.left.now loop.line (operands_on loop.stack) loop.invariant.same_run
          c.in-len4-up.len_at_least _ (rw c.in_ok-ok_or.ensures.ok_part at c.line.ensures);
    }

pub returns-then-not-is_empty : goal.returns-then-not-is_empty
returns-then-not-is_empty c =
    let some = eqb-false _ _ (sym c.if-not-is_empty.ensures) in
    run-partial listing_of c.args.sheet.now c.loop-left.left.now _ _ c.loop-left.invariant.same_run (omega arith) c.in_default.len_below

pub returns : goal.returns
returns c =
    c.ended.ensures
    ∙ run-ended listing_of c.args.sheet.now c.loop-left.left.now _ _ c.loop-left.invariant.same_run
    (eqb-true _ _ (sym c.if-not-is_empty.ensures))
