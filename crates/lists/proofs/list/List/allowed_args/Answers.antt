-- `List::allowed_args` meets its contract: testing leaves the listing, and `allowed` lists its types. Assumes nothing.
use mathlib.Core.Path.{◌∙◌}
use borrow.Author.Rules.{rules}
use Rattle.scalars.proofs.HandedOn.{handed_on}
use Rattle.lists.specs.List.{list_allowed, allowed_of}
use Rattle.scalars.proofs.Masks.{mapped-long}
use Rattle.lists.proofs.Verdicts.{on-refused, then_listing}
use Rattle.lists.proofs.list.List.allowed_args.Goals as goal

pub returns-in_err-tested : goal.returns-in_err-tested
unfolding list_allowed
returns-in_err-tested c = rw (handed_on c.from_residual.ensures.1) (on-refused c.args.self _ c.in_err-tested.ensures _ _)

pub returns : goal.returns
unfolding list_allowed
returns c = c.allowed.ensures ∙ then_listing c.args.self _ c.in_ok-tested.ensures (search (rules, mapped-long)) (allowed_of c.args.i) _
