-- `handed_in` meets its contract: the conclusion's test is the one that `of_regular` makes.
-- Assumes nothing.
use Rattle.scalars.proofs.HandedOn.{handed_on}
use Rattle.c_sets.proofs.AskedRegulars.{no_conclusion, some_conclusion}
use Rattle.c_sets.proofs.regular_parts.RegularParts.handed_in.Goals as goal

pub returns-in_err-try_from : goal.returns-in_err-try_from
returns-in_err-try_from c =
    rw (handed_on c.from_residual.ensures.1) (no_conclusion _ _ _ _ c.in_err-try_from.ensures)

pub returns : goal.returns
returns c = some_conclusion _ _ _ _ c.in_ok-try_from.ensures
