-- `scalar_or_vecn` meets its contract: an arm for the scalar and each size, the last one from there on. Assumes nothing.
use mathlib.Core.Path.{refl, ◌∙◌}
use native.Mathlib.Omega.{arith}
use Rattle.functions.specs.Sequences.{vector, scalar_or_vecn}
use Rattle.functions.proofs.Runs.{last-at}
use Rattle.functions.proofs.utils.scalar_or_vecn.Goals as goal

pub returns-in_default : goal.returns-in_default
unfolding scalar_or_vecn vector
returns-in_default c = let s = c.args.scalar.0 in
    c.code-in_default.ensures ∙ last-at (vector 4 s) (scalar_or_vecn s) 3 {i = c.args.i} refl (omega arith)
