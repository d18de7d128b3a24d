-- `bytes_for` meets its contract: eight rules a byte, rounded up. Assumes nothing.
use native.Mathlib.Omega.{arith}
use Rattle.lending.specs.Masks.{bytes_for}
use Rattle.lending.proofs.masks.bytes_for.Goals as goal

pub returns : goal.returns
unfolding bytes_for
returns c = omega (arith, c.div_ceil.ensures)
