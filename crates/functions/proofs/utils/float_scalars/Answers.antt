-- `float_scalars` meets its contract: an arm for each scalar, the last one from there on. Assumes nothing.
use mathlib.Core.Path.{refl}
use native.Mathlib.Omega.{arith}
use Rattle.functions.specs.Sequences.{float_scalars}
use Rattle.functions.proofs.Runs.{last-at}
use Rattle.functions.proofs.utils.float_scalars.Goals as goal

pub returns-in_default-clause-listed : goal.returns-in_default-clause-listed
unfolding float_scalars
returns-in_default-clause-listed c = last-at 10 float_scalars 3 {i = c.args.i} refl (omega arith)
