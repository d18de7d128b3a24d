-- `convert` does what the machine does whose stack has its top last: where it stops the check finds alone, and otherwise it is a law of
-- proofs/Stacks.antt.
-- Assumes nothing.
use mathlib.Core.Path.{sym, ◌∙◌}
use native.Mathlib.Omega.{arith}
use Rattle.machine.proofs.Stacks.{converted}
use Rattle.machine.proofs.stack.Stack.convert.Goals as goal

pub returns : goal.returns
returns c =
    rw c.from-above.ensures
    (converted c.args.self.now _ _ (omega arith) (rw c.from-above.ensures at c.if-operand-code.false)
    (rw c.from-above.ensures at (sym c.reaches.ensures ∙ c.if-not-reaches.false)))
