-- `type_expression` meets its contract: a fault of the first pass is the whole answer, and otherwise there is a tree of which the second
-- pass makes it, by the laws of proofs/Whole.antt.
-- Assumes nothing.
use mathlib.Core.Path.{ap, ap₂, ◌∙◌}
use lib.ListN.{length}
use Rattle.std.proofs.Common.{Ok, Err}
use Rattle.scalars.proofs.HandedOn.{handed_on}
use Rattle.scalars.specs.Paper.{accepted}
use Rattle.worksheet.specs.Typing.{type_values}
use Rattle.worksheet.proofs.Whole.{first_fault_lem, root-there, second_fault_lem, root_answer_lem}
use Rattle.worksheet.proofs.typer.type_expression.Goals as goal

pub returns-in_err-read_expression : goal.returns-in_err-read_expression
returns-in_err-read_expression c =
    let made = first_fault_lem c.args.switch c.args.bytes.now c.args.out.now _ _ c.in_err-read_expression.ensures in
    record { answer = rw (handed_on c.from_residual.ensures.1) made.0; buffer = made.1 }

pub type_node-requires : goal.type_node-requires
type_node-requires c =
    root-there c.args.switch _ c.args.out.now _ c.in_ok-read_expression.ensures _ _ c.new-stack.ensures c.new-sheet.ensures

pub returns-in_err-type_node : goal.returns-in_err-type_node
returns-in_err-type_node c =
    let made =
    second_fault_lem c.args.switch _ c.args.out.now _ c.in_ok-read_expression.ensures _ _ c.new-stack.ensures c.new-sheet.ensures _ _ _
    c.in_err-type_node.ensures in
    record { answer = rw (handed_on c.from_residual-in_err-type_node.ensures.1) made.0; buffer = made.1 }

pub returns-in_err-lend_bytes : goal.returns-in_err-lend_bytes
returns-in_err-lend_bytes c =
    let lent = c.in_err-lend_bytes.ensures in
    let made =
    root_answer_lem c.args.switch _ c.args.out.now _ c.in_ok-read_expression.ensures _ _ c.new-stack.ensures c.new-sheet.ensures _ _ _
    c.in_ok-type_node.ensures (Err c.in_err-lend_bytes.field-0.0) (rw c.written-written.ensures at lent.room) in
    record { answer = rw (handed_on c.from_residual-in_err-lend_bytes.ensures.1) made.0; buffer = rw c.written-written.ensures at lent.lent ∙ made.1 }

pub returns : goal.returns
returns c =
    let lent = c.in_ok-lend_bytes.ensures in
    let made =
    root_answer_lem c.args.switch _ c.args.out.now _ c.in_ok-read_expression.ensures _ _ c.new-stack.ensures c.new-sheet.ensures _ _ _
    c.in_ok-type_node.ensures (Ok c.in_ok-lend_bytes.field-0) (rw c.written-written.ensures at lent.room) in
    record {
      answer = ap₂ (λ o n. accepted (type_values o n)) c.operand.ensures (ap length c.written-written.ensures) ∙ made.0;
      buffer = rw c.written-written.ensures at lent.lent ∙ made.1;
    }
