-- `automatic_conversion_combine` meets its contract: an unknown scalar is refused, and two known ones are read off the table.
-- Assumes nothing.
use mathlib.Core.Path.{◌∙◌}
use Rattle.std.proofs.Common.{rules}
use Rattle.types.specs.Conversion.{combine_of}
use Rattle.types.proofs.TypeCodes.{unknown_refused, known_answers}
use Rattle.types.proofs.conversion.automatic_conversion_combine.Goals as goal

pub returns-in_err-both_known : goal.returns-in_err-both_known
unfolding combine_of
returns-in_err-both_known c = search (rules, unknown_refused)

pub returns : goal.returns
unfolding combine_of
returns c = c.combine_by.ensures ∙ known_answers _ _ _ _ c.in_ok-both_known.ensures
