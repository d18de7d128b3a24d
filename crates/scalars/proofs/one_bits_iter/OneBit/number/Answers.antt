-- `OneBit::number` meets its contract: the trailing zeros are the number of the first bit, or 64.
-- Assumes nothing.
use mathlib.Core.Path.{sym}
use native.Mathlib.Omega.{arith}
use lib.Count.{trailing_le}
use Rattle.scalars.proofs.Bits.{bits-lowest}
use Rattle.scalars.proofs.one_bits_iter.OneBit.number.Goals as goal

pub overflow_cast-result : goal.overflow_cast-result
overflow_cast-result c = omega (arith, trailing_le 64 c.args.self.0)

pub returns : goal.returns
returns c = sym (bits-lowest 64 _ (omega arith))
