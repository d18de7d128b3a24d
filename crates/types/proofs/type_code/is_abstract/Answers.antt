-- `is_abstract` meets its contract.
-- Assumes nothing.
use Rattle.std.proofs.Common.{arith, tests}
use Rattle.std.proofs.lemmas.Grind.{common_steps}
use Rattle.types.specs.Domain.{is_abstract}
use Rattle.types.proofs.type_code.is_abstract.Goals as goal

pub returns : goal.returns
unfolding is_abstract
returns c = grind (arith, common_steps, tests)
