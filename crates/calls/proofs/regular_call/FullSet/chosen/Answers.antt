-- `FullSet::chosen` meets its contract: the rule of the two, with its place.
-- Assumes nothing.
use mathlib.Core.Path.{ap, ap₂, ◌∙◌}
use Rattle.regular.proofs.Regulars.{known_rule}
use Rattle.calls.specs.private.CallSets.{indexed}
use Rattle.calls.proofs.regular_call.FullSet.chosen.Goals as goal

pub returns-in_default : goal.returns-in_default
returns-in_default c = ap (indexed _) (c.in_default.ensures ∙ known_rule c.args.self.set _ _ c.args.self.callable.known c.requires.0 c.requires.1)

pub returns : goal.returns
returns c = ap₂ indexed c.place.ensures (c.in-Ok.ensures ∙ known_rule c.args.self.set _ _ c.args.self.callable.known c.requires.0 c.requires.1)
