-- `ConstructorSet::members` meets its contract.
-- Assumes nothing.
use mathlib.Core.Path.{refl}
use Rattle.types.specs.Domain.{constructor_count}
use Rattle.types.proofs.constructor_set.ConstructorSet.members.Goals as goal

pub returns : goal.returns
returns c = c.members_within.ensures.within constructor_count refl
