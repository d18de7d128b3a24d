-- `call_of` meets its contract: the test first, then what the call comes to, as a call by itself answers it.
-- Assumes nothing.
use mathlib.Core.Path.{sym, ap, ◌∙◌}
use native.Mathlib.Omega.{arith}
use Rattle.std.proofs.lemmas.Result.{err_from_is_err_and}
use Rattle.scalars.proofs.HandedOn.{handed_on}
use Rattle.lists.specs.ChosenPaper.{no_choice}
use Rattle.calls.specs.Call.{with_mark}
use Rattle.calls.proofs.CallTests.{refused-call, passed-call}
use Rattle.calls.proofs.OutcomePapers.{outcome-placed, refused_with, refused_marked}
use Rattle.calls.proofs.function_call.call_of.Goals as goal

pub returns-in_err-measured : goal.returns-in_err-measured
returns-in_err-measured c =
    rw (handed_on c.from_residual.ensures.1) (refused-call _ _ _ _ _ (sym c.in_err-measured.ensures))

pub returns-in_err-chosen : goal.returns-in_err-chosen
returns-in_err-chosen c =
    let p = err_from_is_err_and c.from_residual-in_err-chosen.result c.from_residual-in_err-chosen.ensures.1 in
    let why = c.in_err-chosen.field-0.0 in
    rw p.1
    (refused_with why _ no_choice (outcome-placed _ _ _ why c.in_err-chosen.ensures (omega arith)) p.2
    ∙ refused_marked c.in_ok-measured.measured why
    ∙ ap (with_mark c.in_ok-measured.measured) c.in_err-chosen.ensures
    ∙ passed-call _ _ _ _ c.in_ok-measured.measured (sym c.in_ok-measured.ensures) c.concrete_only.ensures)

pub returns : goal.returns
returns c =
    ap (with_mark c.in_ok-measured.measured) c.in_ok-chosen.ensures
    ∙ passed-call _ _ _ _ c.in_ok-measured.measured (sym c.in_ok-measured.ensures) c.concrete_only.ensures
