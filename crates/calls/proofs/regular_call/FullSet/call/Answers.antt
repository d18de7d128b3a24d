-- `FullSet::call` meets its contract. The loop's invariant: the masks hold the entries that are left after the operands so far, and the steps
-- to come are the rest of all steps. Assumes nothing.
use mathlib.Core.Path.{sym, ◌∙◌}
use Rattle.calls.proofs.RegularCalls.{regular-wrong, reached-start, shape_out, number_out, number-on, reached-end, reached-concrete, concrete-left}
use Rattle.calls.proofs.regular_call.FullSet.call.Goals as goal

pub returns-then-operands-from : goal.returns-then-operands-from
returns-then-operands-from c = regular-wrong _ c.args.self.callable _ _ (λ e. c.if-operands-from.true (e ∙ sym c.from.ensures))

pub loop-i-init : goal.loop-i-init
loop-i-init c = reached-start _ c.args.self.callable _

pub returns-then-holds_none : goal.returns-then-holds_none
returns-then-holds_none c =
    shape_out _ c.args.self.callable _ (c.if-operands-from.false ∙ c.from.ensures) _ _ c.loop-i.invariant c.loop-i-test.true _ c.narrow-left.ensures c.holds_none.ensures
    c.if-holds_none.true _

pub returns-then-holds_none-2 : goal.returns-then-holds_none-2
returns-then-holds_none-2 c =
    number_out _ c.args.self.callable _ (c.if-operands-from.false ∙ c.from.ensures) _ _ c.loop-i.invariant c.loop-i-test.true _ c.narrow-left.ensures c.holds_none.ensures
    c.if-holds_none.false _ c.narrow-left-in-loop-i.ensures c.holds_none-in-loop-i.ensures c.if-holds_none-2.true _

pub loop-i-preserved : goal.loop-i-preserved
loop-i-preserved c =
    number-on _ c.args.self.callable _ (c.if-operands-from.false ∙ c.from.ensures) _ _ c.loop-i.invariant c.loop-i-test.true _ c.narrow-left.ensures c.holds_none.ensures
    c.if-holds_none.false _ c.narrow-left-in-loop-i.ensures c.holds_none-in-loop-i.ensures c.if-holds_none-2.false

pub preferred-requires : goal.preferred-requires
preferred-requires c =
    concrete-left _ c.args.self.callable _ (c.if-operands-from.false ∙ c.from.ensures) _ _ c.loop-i.invariant c.loop-i-test.false _ c.concrete.ensures

pub returns-then-switch : goal.returns-then-switch
returns-then-switch c =
    c.preferred.ensures
    ∙ reached-concrete _ c.args.self.callable _ (c.if-operands-from.false ∙ c.from.ensures) _ _ c.loop-i.invariant c.loop-i-test.false _ c.concrete.ensures _ c.if-switch.true

pub returns : goal.returns
returns c =
    c.preferred-2.ensures
    ∙ reached-end _ c.args.self.callable _ (c.if-operands-from.false ∙ c.from.ensures) _ _ c.loop-i.invariant c.loop-i-test.false _ c.if-switch.false
