-- `FullSet::call` meets its contract. The loop's invariant: the masks hold the entries that are left after the operands so far, and the steps
-- to come are the rest of all steps. Assumes nothing.
use Rattle.rules.specs.declared.rule.Part.TheVariants.{Shape}
use Rattle.calls.proofs.RegularCalls.{Reached}
use Rattle.calls.proofs.regular_call.FullSet.call.Given as goal

abbrev pub invariant-loop-i : goal.invariant-loop-i
invariant-loop-i l = Reached l.self.set l.operands l.left Shape l.i
