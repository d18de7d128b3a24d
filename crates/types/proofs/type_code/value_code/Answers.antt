-- `value_code` meets its contract: an unknown constructor or scalar is refused.
-- Assumes nothing.
use Rattle.std.proofs.Common.{rules}
use Rattle.types.specs.TypeCode.{value_code}
use Rattle.types.proofs.TypeCodes.{unknown_refused, known_answers}
use Rattle.types.proofs.type_code.value_code.Goals as goal

pub returns-in_err-both_known : goal.returns-in_err-both_known
unfolding value_code
returns-in_err-both_known c = search (rules, unknown_refused)

pub returns : goal.returns
unfolding value_code
returns c = known_answers _ _ _ _ c.in_ok-both_known.ensures
