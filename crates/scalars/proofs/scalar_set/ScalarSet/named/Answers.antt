-- `ScalarSet::named` meets its contract: each named mask, computed from the words that give its members.
-- Assumes nothing.
use mathlib.Core.Path.{refl}
use Rattle.scalars.specs.Scalar.{named_sets}
use Rattle.scalars.proofs.scalar_set.ScalarSet.named.Goals as goal

pub returns : goal.returns
unfolding named_sets
returns c = refl
