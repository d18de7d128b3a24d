-- `call` applies the rule that the function's listing has at the index, and stops where there is none.
-- Assumes nothing.
use mathlib.Core.Path.{◌∙◌}
use Rattle.machine.proofs.RuleRecords.{stands, none-there, called, uncalled}
use Rattle.machine.proofs.stack.Stack.call.Goals as goal

pub apply-requires : goal.apply-requires
apply-requires c = (stands _ _ _ c.in-Ok.ensures).few

pub returns-in-Ok : goal.returns-in-Ok
returns-in-Ok c = c.apply.ensures ∙ called _ _ _ _ (stands _ _ _ c.in-Ok.ensures)

pub returns-in-Err : goal.returns-in-Err
returns-in-Err c = uncalled _ _ _ (none-there _ _ _ _ c.in-Err.ensures)
