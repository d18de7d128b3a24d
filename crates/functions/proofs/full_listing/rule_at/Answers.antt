-- `rule_at` meets its contract: a case for each kind of set that a function has. Assumes nothing.
use mathlib.Core.Path.{sym, ◌∙◌}
use native.Mathlib.Omega.{arith}
use borrow.Author.Tests.{le-ltb}
use Rattle.functions.specs.Functions.{rule_at}
use Rattle.functions.specs.ListedRules.{listed_rules}
use Rattle.functions.proofs.Indices.{rule-here, rule-past}
use Rattle.functions.proofs.Database.{regular-built, rule_of-set}
use Rattle.functions.proofs.FunctionPapers.{set_told}
use Rattle.functions.proofs.full_listing.rule_at.Goals as goal

pub returns-then-function-ge-FUNCTION_COUNT : goal.returns-then-function-ge-FUNCTION_COUNT
unfolding rule_at
returns-then-function-ge-FUNCTION_COUNT c = simp (le-ltb _ _ c.if-function-ge-FUNCTION_COUNT.true)

pub regular_rule-requires : goal.regular_rule-requires
regular_rule-requires c =
    regular-built _ c.if-function-ge-FUNCTION_COUNT.false (set_told _ _ c.function_set.ensures c.in-Regular.is)

pub returns-then-rule_count-index : goal.returns-then-rule_count-index
returns-then-rule_count-index c =
    let i = c.args.index in
    sym (rule_of-set _ i c.if-function-ge-FUNCTION_COUNT.false (set_told _ _ c.function_set.ensures c.in-List.is)
    ∙ rule-past (listed_rules _) i (omega (arith, c.rule_count.ensures)))

pub returns-in-Regular : goal.returns-in-Regular
returns-in-Regular c =
    c.regular_rule.ensures
    ∙ sym (rule_of-set _ _ c.if-function-ge-FUNCTION_COUNT.false (set_told _ _ c.function_set.ensures c.in-Regular.is))

pub returns-else-rule_count-index : goal.returns-else-rule_count-index
returns-else-rule_count-index c =
    let i = c.args.index in
    rw c.listed_rule.ensures
    (sym (rule_of-set _ i c.if-function-ge-FUNCTION_COUNT.false (set_told _ _ c.function_set.ensures c.in-List.is)
    ∙ rule-here (listed_rules _) i (omega (arith, c.rule_count.ensures))))
