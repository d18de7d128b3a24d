-- `leaf_scalar` meets its contract.
-- Assumes nothing.
use Rattle.std.proofs.Common.{arith, tests}
use Rattle.std.proofs.lemmas.Grind.{common_steps}
use Rattle.types.specs.TypeCode.{leaf_scalar}
use Rattle.types.proofs.type_code.leaf_scalar.Goals as goal

pub returns-then-code-gt-LAST_CODE : goal.returns-then-code-gt-LAST_CODE
unfolding leaf_scalar
returns-then-code-gt-LAST_CODE c = grind (arith, common_steps, tests)

pub returns : goal.returns
unfolding leaf_scalar
returns c = grind (arith, common_steps, tests)
