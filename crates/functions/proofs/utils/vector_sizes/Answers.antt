-- `vector_sizes` meets its contract: an arm for each size, the last one from there on. Assumes nothing.
use mathlib.Core.Path.{refl}
use native.Mathlib.Omega.{arith}
use Rattle.functions.specs.Sequences.{vector_sizes}
use Rattle.functions.proofs.Runs.{last-at}
use Rattle.functions.proofs.utils.vector_sizes.Goals as goal

pub returns-in_default : goal.returns-in_default
unfolding vector_sizes
returns-in_default c = last-at 4 vector_sizes 2 {i = c.args.i} refl (omega arith)
