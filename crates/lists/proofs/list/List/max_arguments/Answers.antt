-- `List::max_arguments` meets its contract: testing leaves the listing, and `longest` counts it. Assumes nothing.
use mathlib.Core.Path.{◌∙◌}
use borrow.Author.Rules.{rules}
use Rattle.scalars.proofs.HandedOn.{handed_on}
use Rattle.lists.specs.List.{list_count}
use Rattle.rules.specs.Verdict.{count_of}
use Rattle.scalars.proofs.Masks.{mapped-long}
use Rattle.lists.proofs.Verdicts.{on-refused, then_listing}
use Rattle.lists.proofs.list.List.max_arguments.Goals as goal

pub returns-in_err-checked : goal.returns-in_err-checked
unfolding list_count
returns-in_err-checked c = rw (handed_on c.from_residual.ensures.1) (on-refused c.args.self _ c.in_err-checked.ensures _ _)

pub returns : goal.returns
unfolding list_count
returns c = c.longest.ensures ∙ then_listing c.args.self _ c.in_ok-checked.ensures (search (rules, mapped-long)) count_of _
