-- `ScalarSet::members` meets its contract: there are 12 known bits.
-- Assumes nothing.
use mathlib.Core.Path.{refl}
use Rattle.scalars.specs.Domain.{scalar_count}
use Rattle.scalars.proofs.scalar_set.ScalarSet.members.Goals as goal

pub returns : goal.returns
returns c = c.members_within.ensures.within scalar_count refl
