-- `concrete_int_scalars` meets its contract: an arm for each scalar, the last one from there on. Assumes nothing.
use mathlib.Core.Path.{refl}
use native.Mathlib.Omega.{arith}
use Rattle.functions.specs.Sequences.{concrete_int_scalars}
use Rattle.functions.proofs.Runs.{last-at}
use Rattle.functions.proofs.utils.concrete_int_scalars.Goals as goal

pub returns-in_default-clause-listed : goal.returns-in_default-clause-listed
unfolding concrete_int_scalars
returns-in_default-clause-listed c = last-at 7 concrete_int_scalars 5 {i = c.args.i} refl (omega arith)
