-- `AnyOverloadSet::from_regular` meets its contract: the set's verdict is its own.
-- Assumes nothing.
use mathlib.Core.Path.{sym}
use Rattle.scalars.proofs.HandedOn.{handed_on}
use Rattle.regular.specs.Regular.{checked_regular}
use Rattle.lists.proofs.any_overload_set.AnyOverloadSet.from_regular.Goals as goal

pub returns-in_err-verdict : goal.returns-in_err-verdict
unfolding checked_regular
returns-in_err-verdict c = rw (handed_on c.from_residual.ensures.1, sym c.in_err-verdict.ensures)

pub returns : goal.returns
unfolding checked_regular
returns c = rw (sym c.in_ok-verdict.ensures)
