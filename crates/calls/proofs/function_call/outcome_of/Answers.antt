-- `outcome_of` meets its contract: each number's set is one that can be asked, and its rules are the listing.
-- Assumes nothing.
use mathlib.Core.Path.{sym, ap, ◌∙◌}
use mathlib.Core.List.{List}
use Rattle.rules.specs.Signature.{Signature}
use Rattle.calls.specs.Choice.{resolve}
use Rattle.calls.specs.Call.{answered}
use Rattle.calls.proofs.FunctionCalls.{callable, regular_listing, full, list_listing}
use Rattle.functions.proofs.FunctionPapers.{set_told}
use Rattle.calls.proofs.function_call.outcome_of.Goals as goal

pub invariant_of-call : goal.invariant_of-call
invariant_of-call c = record { callable = callable c.args.function _ (set_told _ _ c.function_set.ensures c.in-Regular.is) }

pub invariant_of-full : goal.invariant_of-full
invariant_of-full c = record { full = full _ _ c.full_list.ensures }

pub returns-in-Regular : goal.returns-in-Regular
returns-in-Regular c =
    let start = c.args in
    let told = set_told _ _ c.function_set.ensures c.in-Regular.is in
    c.call.ensures ∙ ap (λ (rs : List Signature). answered (resolve start.concrete rs start.operands.now)) (sym (regular_listing start.function _ told))

pub returns-in-List : goal.returns-in-List
returns-in-List c =
    let start = c.args in
    let told = set_told _ _ c.function_set.ensures c.in-List.is in
    c.call-in-List.ensures
    ∙ ap (λ (rs : List Signature). answered (resolve start.concrete rs start.operands.now)) (list_listing start.function _ _ told c.full_list.ensures)
