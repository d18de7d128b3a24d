-- `set` meets its contract: the set's own test follows its making.
-- Assumes nothing.
use mathlib.Core.Path.{ap}
use Rattle.scalars.proofs.HandedOn.{handed_on}
use Rattle.scalars.specs.Paper.{Paper}
use Rattle.rules.specs.Verdict.{on_verdict}
use Rattle.regular.specs.Regular.{checked_regular}
use Rattle.regular.specs.SetPaper.{set_paper, no_set}
use Rattle.c_sets.proofs.AskedRegulars.{asked-refused, asked-accepted}
use Rattle.c_sets.proofs.regular_parts.RegularParts.set.Goals as goal

pub returns-in_err-set : goal.returns-in_err-set
returns-in_err-set c =
    rw (handed_on c.from_residual.ensures.1) (asked-refused _ _ _ _ _ _ _ c.in_err-set.ensures)

pub returns-in_err-verdict : goal.returns-in_err-verdict
unfolding checked_regular
returns-in_err-verdict c =
    rw (handed_on c.from_residual-in_err-verdict.ensures.1) (asked-accepted _ _ _ _ _ _ _ c.in_ok-set.ensures (ap (λ (v : Paper). on_verdict v (set_paper c.in_ok-set.set) no_set) c.in_err-verdict.ensures))

pub returns : goal.returns
unfolding checked_regular
returns c = asked-accepted _ _ _ _ _ _ _ c.in_ok-set.ensures (ap (λ (v : Paper). on_verdict v (set_paper c.in_ok-set.set) no_set) c.in_ok-verdict.ensures)
