-- `Regular::rule` meets its contract: the type of the size and the scalar, then its conclusion.
-- Assumes nothing.
use Rattle.std.proofs.Common.{sym, ap, ◌∙◌, List, ℕ, arith}
use Rattle.scalars.specs.Paper.{accepted}
use Rattle.rules.specs.Rule.{rule_of}
use Rattle.rules.specs.RulePaper.{rule_values}
use Rattle.rules.specs.declared.rule.Rule.{Rule}
use Rattle.rules.proofs.Records.{uniform}
use Rattle.regular.specs.Regular.{rule_from}
use Rattle.regular.specs.private.Tested.{sized_rule}
use Rattle.regular.proofs.Conclusions.{sized-from}
use Rattle.regular.proofs.regular.Regular.rule.Goals as goal

pub returns-in_err-t : goal.returns-in_err-t
unfolding sized_rule
returns-in_err-t c = grind arith

pub returns-in_err-result : goal.returns-in_err-result
returns-in_err-result c =
    let from = sized-from _ _ c.in_ok-t.t (sym c.in_ok-t.ensures) c.args.self ∙ ap (rule_from c.args.self.arity c.in_ok-t.t) (sym c.in_err-result.ensures) in
    grind arith

pub conclude-requires : goal.conclude-requires
conclude-requires c = sym c.in_ok-t.ensures

pub returns : goal.returns
returns c =
    let same = uniform _ _ _ c.requires in
    ap (λ (r : Rule). accepted (rule_values r)) (c.cleaned.ensures ∙ ap (λ (ts : List ℕ). rule_of (record { arguments = ts; result = c.in_ok-result.result })) same)
    ∙ sym (sized-from _ _ c.in_ok-t.t (sym c.in_ok-t.ensures) c.args.self ∙ ap (rule_from c.args.self.arity c.in_ok-t.t) (sym c.in_ok-result.ensures))
