-- `survivors_of` meets its contract: the test first, then what the steps leave of the List of the function's rules.
-- Assumes nothing.
use mathlib.Core.Path.{sym, ap, ◌∙◌, subst}
use mathlib.Core.List as L
use mathlib.Core.List.{[], ◌∷◌}
use native.Mathlib.Omega.{arith}
use Rattle.std.proofs.lemmas.Result.{err_from_is_err_and}
use Rattle.scalars.proofs.HandedOn.{handed_on}
use Rattle.rules.specs.Signature.{Signature}
use Rattle.lists.specs.List.{signatures}
use Rattle.calls.specs.Call.{survivors_of}
use Rattle.calls.specs.private.CallSets.{Full}
use Rattle.calls.proofs.FunctionCalls.{listed_of, full_of}
use Rattle.calls.proofs.ListCalls.{placed_of}
use Rattle.calls.proofs.OutcomePapers.{refused_with}
use Rattle.calls.proofs.CallTests.{refused-survivors, passed-survivors}
use Rattle.calls.proofs.function_call.survivors_of.Goals as goal

pub returns-in_err-measured : goal.returns-in_err-measured
returns-in_err-measured c =
    rw (handed_on c.from_residual.ensures.1) (refused-survivors _ _ _ _ _ (sym c.in_err-measured.ensures))

pub invariant_of-full : goal.invariant_of-full
invariant_of-full c = record { full = subst Full (sym c.rules_of.ensures) (full_of c.args.function) }

pub returns-in_err-stepped : goal.returns-in_err-stepped
returns-in_err-stepped c =
    let p = err_from_is_err_and c.from_residual-in_err-stepped.result c.from_residual-in_err-stepped.ensures.1 in
    let why = c.in_err-stepped.field-0.0 in
    rw p.1
    (refused_with why _ (0 ∷ []) (placed_of c.rules_of.result c.args.types.now why c.in_err-stepped.ensures.bounded (omega arith)) p.2
    ∙ c.in_err-stepped.ensures.survivors
    ∙ ap (λ (rs : L.List Signature). survivors_of c.concrete_only-concrete.result rs c.args.types.now)
    (ap signatures c.rules_of.ensures ∙ listed_of c.args.function)
    ∙ passed-survivors _ _ _ _ c.in_ok-measured.measured (sym c.in_ok-measured.ensures) c.concrete_only-concrete.ensures)

pub returns : goal.returns
returns c =
    c.members.ensures ∙ c.in_ok-stepped.ensures.survivors
    ∙ ap (λ (rs : L.List Signature). survivors_of c.concrete_only-concrete.result rs c.args.types.now)
    (ap signatures c.rules_of.ensures ∙ listed_of c.args.function)
    ∙ passed-survivors _ _ _ _ c.in_ok-measured.measured (sym c.in_ok-measured.ensures) c.concrete_only-concrete.ensures
