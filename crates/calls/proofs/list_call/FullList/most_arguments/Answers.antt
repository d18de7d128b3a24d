-- `FullList::most_arguments` meets its contract: every rule is a member.
-- Assumes nothing.
use mathlib.Core.Path.{◌∙◌}
use Rattle.calls.proofs.ListCalls.{full-most}
use Rattle.calls.proofs.list_call.FullList.most_arguments.Goals as goal

pub returns : goal.returns
returns c = c.from.ensures ∙ c.unwrap_or.ensures ∙ full-most _ c.args.self.full _ c.longest.ensures
