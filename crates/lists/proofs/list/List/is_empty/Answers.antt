-- `List::is_empty` meets its contract: the listing of an accepted List is empty if and only if no bit of its mask is set.
-- Assumes nothing.
use mathlib.Core.Path.{◌∙◌}
use borrow.Author.Rules.{rules}
use Rattle.scalars.proofs.HandedOn.{handed_on}
use Rattle.lists.specs.List.{list_empty}
use Rattle.rules.specs.Verdict.{empty_of}
use Rattle.scalars.proofs.Masks.{mapped-long}
use Rattle.lists.proofs.Lists.{listing-empty}
use Rattle.lists.proofs.Verdicts.{on-refused, then_listing}
use Rattle.lists.proofs.list.List.is_empty.Goals as goal

pub returns-in_err-tested : goal.returns-in_err-tested
unfolding list_empty
returns-in_err-tested c = rw (handed_on c.from_residual.ensures.1) (on-refused c.args.self _ c.in_err-tested.ensures _ _)

pub returns : goal.returns
unfolding list_empty
returns c =
    listing-empty c.in_ok-tested.field-0.list c.in_ok-tested.field-0.valid
    ∙ then_listing c.args.self _ c.in_ok-tested.ensures (search (rules, mapped-long)) empty_of _
