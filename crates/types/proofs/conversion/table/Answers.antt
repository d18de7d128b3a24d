-- `table` meets its contract: the constant is the table of all combinations, computed and not written out again. Assumes nothing.
use mathlib.Core.Path.{refl}
use Rattle.scalars.specs.Domain.{converts}
use Rattle.types.specs.Conversion.{combination}
use Rattle.types.specs.private.Agreeing.{combinations}
use Rattle.types.proofs.conversion.table.Goals as goal

pub returns : goal.returns
unfolding combinations combination converts
returns c = refl
