-- `convert` meets its contract: an operand of the argument's type needs no line, and any other has one, by the laws of
-- proofs/Conversions.antt. Assumes nothing.
use mathlib.Core.Path.{ap}
use native.Mathlib.Omega.{arith}
use Rattle.worksheet.specs.declared.sheet.Sheet.{Sheet}
use Rattle.rules.proofs.Records.{arguments-few}
use Rattle.worksheet.proofs.Conversions.{leave_same, leave_line, leave_none}
use Rattle.worksheet.proofs.one_call.convert.Goals.{then-operand-wanted, else-operand-wanted}
use Rattle.worksheet.proofs.one_call.convert.Goals as goal

pub loop-i-init : goal.loop-i-init
loop-i-init c = record { room = omega (arith, c.requires.room); leaves = λ r w. w }

pub overflow_cast-depth : goal.overflow_cast-depth
overflow_cast-depth c = omega (arith, c.requires.taken, arguments-few c.args.rule)

pub line-requires : goal.line-requires
line-requires c = omega arith

pub loop-i-preserved : goal.loop-i-preserved
loop-i-preserved c =
    let here = c.loop-i in
    let wanted = c.argument-wanted in
    elim c.if-operand-wanted.branch [
      | then-operand-wanted w ↦ record {
        room = omega (arith, ap (λ (l : Sheet). l.len) w.sheet-is, w.line.ensures.len_is);
        leaves =
            rw w.sheet-is (leave_line c.args.operands.now c.args.rule here.i c.requires.taken (omega arith) _ _ _ _
            wanted.ensures w.if-operand-wanted.true w.line.ensures here.invariant.leaves);
      }
      | else-operand-wanted w ↦ record {
        room = omega (arith, ap (λ (l : Sheet). l.len) w.sheet-is);
        leaves =
            rw w.sheet-is (leave_same c.args.operands.now c.args.rule here.i c.requires.taken (omega arith) _ _ _
            wanted.ensures w.if-operand-wanted.false here.invariant.leaves);
      }
    ]

pub returns : goal.returns
returns c = leave_none c.args.operands.now c.args.rule _ c.requires.taken _ _ c.loop-i-test.false c.loop-i.invariant.leaves
