-- `Constructor::size` meets its contract: an unknown constructor is refused.
-- Assumes nothing.
use mathlib.Core.Path.{ap}
use borrow.Author.Tests.{lt-ltb, le-ltb}
use Rattle.scalars.specs.Paper.{accepted}
use Rattle.types.specs.Constructor.{constructor_size}
use Rattle.types.proofs.constructor_set.Constructor.size.Goals as goal

pub returns-then-self-ge-COUNT : goal.returns-then-self-ge-COUNT
unfolding constructor_size
returns-then-self-ge-COUNT c = simp (le-ltb _ _ c.if-self-ge-COUNT.true)

pub returns : goal.returns
unfolding constructor_size
returns c = simp (lt-ltb _ _ c.if-self-ge-COUNT.false) (ap accepted c.size_of.ensures)
