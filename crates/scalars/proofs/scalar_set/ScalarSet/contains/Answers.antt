-- `ScalarSet::contains` meets its contract: a scalar's bit, where the scalar is known.
-- Assumes nothing.
use borrow.Author.Tests.{lt-ltb, le-ltb}
use Rattle.scalars.specs.Scalar.{member}
use Rattle.scalars.proofs.scalar_set.ScalarSet.contains.Goals as goal

pub returns-then-scalar-lt-COUNT : goal.returns-then-scalar-lt-COUNT
unfolding member
returns-then-scalar-lt-COUNT c = simp (lt-ltb _ _ c.if-scalar-lt-COUNT.true)

pub returns-else-scalar-lt-COUNT : goal.returns-else-scalar-lt-COUNT
unfolding member
returns-else-scalar-lt-COUNT c = simp (le-ltb _ _ c.if-scalar-lt-COUNT.false)
