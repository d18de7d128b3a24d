-- `most_general_scalar` meets its contract: the lowest bit is the first member.
-- Assumes nothing.
use mathlib.Core.Path.{sym}
use native.Mathlib.Omega.{arith}
use lib.Count.{trailing_le}
use borrow.Author.Tests.{le-ltb}
use Rattle.scalars.specs.Mask.{bits}
use Rattle.scalars.specs.Scalar.{most_general}
use Rattle.scalars.proofs.Scalars.{lowest}
use Rattle.scalars.proofs.scalar_set.ScalarSet.most_general_scalar.Goals as goal

pub returns-then-mask : goal.returns-then-mask
unfolding most_general
returns-then-mask c = simp (le-ltb _ _ c.if-mask.true)

pub returns-then-mask-eq0 : goal.returns-then-mask-eq0
unfolding most_general bits
returns-then-mask-eq0 c = simp c.if-mask-eq0.true

pub overflow_cast-result : goal.overflow_cast-result
overflow_cast-result c = omega (arith, trailing_le 16 c.args.self.0)

pub returns : goal.returns
returns c = sym (lowest _ (omega arith) (omega arith))
