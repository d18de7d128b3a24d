-- `expand` meets its contract: the listing's first 63 records are the List's, where there are no more.
-- Assumes nothing.
use Rattle.scalars.proofs.HandedOn.{handed_on}
use Rattle.lists.specs.List.{accepted_list}
use Rattle.lists.proofs.Expanding.{expand_unknown, expand_many, expand_refused, expand_list}
use Rattle.lists.proofs.expansion.expand.Goals as goal

pub returns-in_err-verdict : goal.returns-in_err-verdict
returns-in_err-verdict c = rw (handed_on c.from_residual.ensures.1) (expand_unknown c.args.set _ c.in_err-verdict.ensures)

pub returns-then-n-gt-MOST_RULES : goal.returns-then-n-gt-MOST_RULES
returns-then-n-gt-MOST_RULES c = expand_many c.args.set c.in_ok-verdict.ensures c.if-n-gt-MOST_RULES.true

pub returns-in_err-listing : goal.returns-in_err-listing
returns-in_err-listing c =
    rw (handed_on c.from_residual-in_err-listing.ensures.1) (expand_refused c.args.set c.in_ok-verdict.ensures c.if-n-gt-MOST_RULES.false _ c.in_err-listing.ensures)

pub returns : goal.returns
unfolding accepted_list
returns c = expand_list c.args.set c.in_ok-verdict.ensures c.if-n-gt-MOST_RULES.false c.in_ok-listing.listing c.in_ok-listing.ensures c.front.ensures c.len_to_full_mask.ensures
