-- `to_inner` meets its contract: the size's refusal is passed on, and the rest is the code of its constructor.
-- Assumes nothing.
use mathlib.Core.Path.{sym}
use Rattle.std.proofs.Common.{rules}
use Rattle.types.specs.Constructor.{inner_of}
use Rattle.types.proofs.constructor_set.ConstructorSize.to_inner.Goals as goal

pub returns-in_err-constructor : goal.returns-in_err-constructor
unfolding inner_of
returns-in_err-constructor c = search rules

pub returns : goal.returns
unfolding inner_of
returns c = rw (sym c.in_ok-constructor.ensures) c.value_code.ensures
