-- `List::most_preferred` meets its contract: testing leaves the members with their indices, and `first` finds the first of them.
-- Assumes nothing.
use mathlib.Core.Path.{◌∙◌}
use borrow.Author.Rules.{rules}
use Rattle.scalars.proofs.HandedOn.{handed_on}
use Rattle.lists.specs.List.{list_preferred, preferred_of}
use Rattle.scalars.proofs.Masks.{mapped-long}
use Rattle.lists.proofs.Verdicts.{on-refused, then_entries}
use Rattle.lists.proofs.list.List.most_preferred.Goals as goal

pub returns-in_err-tested : goal.returns-in_err-tested
unfolding list_preferred
returns-in_err-tested c = rw (handed_on c.from_residual.ensures.1) (on-refused c.args.self _ c.in_err-tested.ensures _ _)

pub returns : goal.returns
unfolding list_preferred
returns c = c.first.ensures ∙ then_entries c.args.self _ c.in_ok-tested.ensures (search (rules, mapped-long)) preferred_of _
