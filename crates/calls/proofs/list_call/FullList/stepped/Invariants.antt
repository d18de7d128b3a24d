-- `FullList::stepped` meets its contract. The loop's invariant: the members are the entries that are left after the operands so far, and the steps
-- to come are the rest of all steps. Assumes nothing.
use Rattle.rules.specs.declared.rule.Part.TheVariants.{Shape}
use Rattle.calls.proofs.ListCalls.{Reached}
use Rattle.calls.proofs.list_call.FullList.stepped.Given as goal

abbrev pub invariant-loop-index : goal.invariant-loop-index
invariant-loop-index l = Reached l.self.list l.operands l.left.0 Shape l.index
