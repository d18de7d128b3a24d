-- `ConstructorSet::singleton` meets its contract: a shift by the code's constructor.
-- Assumes nothing.
use native.Mathlib.Omega.{arith}
use borrow.Author.Tests.{lt-ltb, le-ltb}
use Rattle.types.specs.Constructor.{singleton_of_code}
use Rattle.scalars.proofs.Masks.{bit_is}
use Rattle.types.proofs.constructor_set.ConstructorSet.singleton.Goals as goal

pub returns-then-code-ge-VALUES : goal.returns-then-code-ge-VALUES
unfolding singleton_of_code
returns-then-code-ge-VALUES c = simp (le-ltb _ _ c.if-code-ge-VALUES.true)

pub returns : goal.returns
unfolding singleton_of_code
returns c = simp (lt-ltb _ _ c.if-code-ge-VALUES.false) (bit_is 16 _ (omega arith))
