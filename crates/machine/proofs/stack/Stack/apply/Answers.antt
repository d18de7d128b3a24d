-- `apply` does what the machine does whose stack has its top last: where it stops the check finds alone but for a wrong count, and
-- otherwise it is a law of proofs/Stacks.antt.
-- Assumes nothing.
use mathlib.Core.Path.{sym, ◌∙◌}
use native.Mathlib.Omega.{arith}
use Rattle.machine.proofs.Stacks.{apply-miscounted, applied}
use Rattle.machine.proofs.stack.Stack.apply.Goals as goal

pub returns-then-rule-count : goal.returns-then-rule-count
returns-then-rule-count c = apply-miscounted c.args.self.now _ c.requires _ c.if-rule-count.true

pub returns : goal.returns
returns c =
    rw c.from-pops.ensures at c.push.ensures
    ∙ applied c.args.self.now _ c.requires _ c.if-rule-count.false (omega arith) (sym c.matches.ensures ∙ c.if-not-matches.false)
    _ (rw c.from-pops.ensures at c.any_measured_from-measured.ensures) (sym c.agrees.ensures ∙ c.if-not-agrees.false)
