-- `listed_at` meets its contract: the rule stands in the listing where the index is one.
-- Assumes nothing.
use native.Mathlib.Omega.{arith}
use Rattle.scalars.proofs.HandedOn.{handed_on}
use Rattle.c_sets.proofs.ListedRules.{listed-refused, listed-few, listed-past, listed_here}
use Rattle.c_sets.proofs.regular_parts.listed_at.Goals as goal

pub returns-in_err-listing : goal.returns-in_err-listing
returns-in_err-listing c =
    rw (handed_on c.from_residual.ensures.1) (listed-refused _ _ _ c.in_err-listing.ensures)

pub returns-then-listing-index : goal.returns-then-listing-index
returns-then-listing-index c = listed-past _ _ _ c.in_ok-listing.ensures c.if-listing-index.true

pub bounds-listing-from : goal.bounds-listing-from
bounds-listing-from c = omega (arith, listed-few c.args.set c.args.index c.in_ok-listing.listing.rules c.in_ok-listing.ensures)

pub returns : goal.returns
returns c = rw c.from.ensures (listed_here c.args.set c.args.index _ c.in_ok-listing.ensures _ c.if-listing-index.false)
