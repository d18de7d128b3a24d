-- `Regular::rule_of` meets its contract: the constructor is tested, the scalar, then the set; then the rule of the size and the scalar.
-- Assumes nothing.
use Rattle.std.proofs.Common.{sym, ◌∙◌, arith}
use borrow.Author.Tests.{le-ltb, lt-ltb}
use Rattle.regular.specs.Regular.{regular_rule}
use Rattle.regular.proofs.Regulars.{accepted-known, known_rule, sized-known, sized_rule_lem, unsized}
use Rattle.regular.proofs.regular.Regular.rule_of.Goals as goal

pub returns-in_err-size : goal.returns-in_err-size
returns-in_err-size c =
    let refused = unsized c.args.constructor.0 c.in_err-size.field-0.0 c.args.scalar.0 c.args.self c.in_err-size.ensures in
    grind arith

pub returns-then-scalar-ge-COUNT : goal.returns-then-scalar-ge-COUNT
unfolding regular_rule
returns-then-scalar-ge-COUNT c =
    let sized = sized-known c.args.constructor.0 c.in_ok-size.size c.in_ok-size.ensures in
    simp (lt-ltb _ _ sized.0, le-ltb _ _ c.if-scalar-ge-COUNT.true)

pub returns-in_err-verdict : goal.returns-in_err-verdict
unfolding regular_rule
returns-in_err-verdict c =
    let sized = sized-known c.args.constructor.0 c.in_ok-size.size c.in_ok-size.ensures in
    simp (lt-ltb _ _ sized.0, lt-ltb _ _ c.if-scalar-ge-COUNT.false) (grind arith)

pub rule-requires : goal.rule-requires
rule-requires c = (accepted-known c.args.self (sym c.in_ok-verdict.ensures)).arity

pub returns : goal.returns
returns c =
    let known = accepted-known c.args.self (sym c.in_ok-verdict.ensures) in
    let sized = sized-known c.args.constructor.0 c.in_ok-size.size c.in_ok-size.ensures in
    c.rule.ensures ∙ sized_rule_lem _ _ _ _ sized.0 c.if-scalar-ge-COUNT.false sized.1 ∙ sym (known_rule _ _ _ known sized.0 c.if-scalar-ge-COUNT.false)
