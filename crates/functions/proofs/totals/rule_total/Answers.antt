-- `rule_total` meets its contract: a case for each kind of set that a function has. Assumes nothing.
use mathlib.Core.Path.{sym, ap, ◌∙◌}
use mathlib.Core.List.{[], ◌∷◌}
use Prim.Native.Nat.{ℕ}
use native.Mathlib.Omega.{arith}
use borrow.Author.Tests.{le-ltb}
use Rattle.scalars.specs.Paper.{accepted}
use Rattle.functions.specs.RuleTotal.{rule_total}
use Rattle.functions.proofs.RuleTotals.{total_of_set, product, few_in_all}
use Rattle.functions.proofs.FunctionPapers.{set_told}
use Rattle.functions.proofs.totals.rule_total.Goals as goal

pub returns-then-function-ge-FUNCTION_COUNT : goal.returns-then-function-ge-FUNCTION_COUNT
unfolding rule_total
returns-then-function-ge-FUNCTION_COUNT c = simp (le-ltb _ _ c.if-function-ge-FUNCTION_COUNT.true)

pub overflow_mul-result : goal.overflow_mul-result
overflow_mul-result c =
    omega (arith, few_in_all _ c.if-function-ge-FUNCTION_COUNT.false (set_told _ _ c.function_set.ensures c.in-Regular.is))

pub overflow_cast-result : goal.overflow_cast-result
overflow_cast-result c =
    omega (arith, few_in_all _ c.if-function-ge-FUNCTION_COUNT.false (set_told _ _ c.function_set.ensures c.in-Regular.is))

pub returns-in-Regular : goal.returns-in-Regular
returns-in-Regular c =
    let e = set_told _ _ c.function_set.ensures c.in-Regular.is in
    ap (λ (n : ℕ). accepted (n ∷ [])) (product _ c.if-function-ge-FUNCTION_COUNT.false e) ∙ sym (total_of_set _ c.if-function-ge-FUNCTION_COUNT.false e)

pub returns-in-List : goal.returns-in-List
returns-in-List c =
    ap (λ (n : ℕ). accepted (n ∷ [])) c.rule_count.ensures
    ∙ sym (total_of_set _ c.if-function-ge-FUNCTION_COUNT.false (set_told _ _ c.function_set.ensures c.in-List.is))
