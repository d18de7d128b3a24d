-- `concrete_only` meets its contract: what is asked of the parts is asked of their set.
-- Assumes nothing.
use Rattle.scalars.proofs.HandedOn.{handed_on}
use Rattle.c_sets.proofs.AskedRegulars.{asked-refused, asked-accepted}
use Rattle.c_sets.proofs.regular_parts.RegularParts.concrete_only.Goals as goal

pub returns-in_err-handed_in : goal.returns-in_err-handed_in
returns-in_err-handed_in c =
    rw (handed_on c.from_residual.ensures.1) (asked-refused _ _ _ _ _ _ _ c.in_err-handed_in.ensures)

pub returns : goal.returns
returns c = asked-accepted _ _ _ _ _ _ _ c.in_ok-handed_in.ensures c.concrete_only.ensures
