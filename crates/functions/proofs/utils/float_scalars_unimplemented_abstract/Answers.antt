-- `float_scalars_unimplemented_abstract` meets its contract: an arm for each scalar, the last one from there on. Assumes nothing.
use mathlib.Core.Path.{refl}
use native.Mathlib.Omega.{arith}
use Rattle.functions.specs.Sequences.{concrete_float_scalars}
use Rattle.functions.proofs.Runs.{last-at}
use Rattle.functions.proofs.utils.float_scalars_unimplemented_abstract.Goals as goal

pub returns-in_default-clause-listed : goal.returns-in_default-clause-listed
unfolding concrete_float_scalars
returns-in_default-clause-listed c = last-at 10 concrete_float_scalars 2 {i = c.args.i} refl (omega arith)
