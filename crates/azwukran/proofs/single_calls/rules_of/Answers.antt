-- `rules_of` meets its contract: what `rule_total` answers is the length of the full listing. Assumes nothing.
use mathlib.Core.Path.{◌∙◌}
use Rattle.azwukran.proofs.RulesOf.{no_total, total_is}
use Rattle.azwukran.proofs.single_calls.rules_of.Goals as goal

pub returns-in-Ok : goal.returns-in-Ok
returns-in-Ok c = c.from.ensures ∙ total_is _ _ c.in-Ok.ensures

pub returns-in-Err : goal.returns-in-Err
returns-in-Err c = no_total _ _ _ _ c.in-Err.ensures
