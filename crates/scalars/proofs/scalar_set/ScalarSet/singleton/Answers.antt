-- `ScalarSet::singleton` meets its contract: a shift by the scalar's number.
-- Assumes nothing.
use borrow.Author.Tests.{le-ltb}
use Rattle.scalars.specs.Scalar.{singleton_of}
use Rattle.scalars.proofs.Scalars.{single}
use Rattle.scalars.proofs.scalar_set.ScalarSet.singleton.Goals as goal

pub returns-then-scalar-lt-COUNT : goal.returns-then-scalar-lt-COUNT
returns-then-scalar-lt-COUNT c = single _ c.if-scalar-lt-COUNT.true

pub returns-else-scalar-lt-COUNT : goal.returns-else-scalar-lt-COUNT
unfolding singleton_of
returns-else-scalar-lt-COUNT c = simp (le-ltb _ _ c.if-scalar-lt-COUNT.false)
