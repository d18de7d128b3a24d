-- `FullList::stepped` meets its contract. The loop's invariant: the members are the entries that are left after the operands so far, and the steps
-- to come are the rest of all steps. Assumes nothing.
use mathlib.Core.Path.{refl, sym, ◌∙◌}
use Rattle.calls.proofs.ListCalls.{steps-wrong, reached-start, shape_out, number_out, number-on, reached-end, reached-concrete}
use Rattle.calls.proofs.list_call.FullList.stepped.Goals as goal

pub returns-then-operands-most_arguments : goal.returns-then-operands-most_arguments
returns-then-operands-most_arguments c = steps-wrong _ c.args.self.full _ _ (λ e. c.if-operands-most_arguments.true (e ∙ sym c.most_arguments.ensures))

pub loop-index-init : goal.loop-index-init
loop-index-init c = reached-start _ c.args.self.full _ c.args.switch

pub returns-then-both-eq0 : goal.returns-then-both-eq0
returns-then-both-eq0 c =
    shape_out _ c.args.self.full _ _ (c.if-operands-most_arguments.false ∙ c.most_arguments.ensures) _ _ c.loop-index.invariant c.loop-index-test.true
    c.filter_both-both.ensures.shaped c.if-both-eq0.true

pub returns-then-left-eq0 : goal.returns-then-left-eq0
returns-then-left-eq0 c =
    number_out _ c.args.self.full _ _ (c.if-operands-most_arguments.false ∙ c.most_arguments.ensures) _ _ c.loop-index.invariant c.loop-index-test.true
    c.filter_both-both.ensures.shaped c.if-both-eq0.false c.filter_both-both.ensures.left c.if-left-eq0.true

pub loop-index-preserved : goal.loop-index-preserved
loop-index-preserved c =
    number-on _ c.args.self.full _ c.args.switch (c.if-operands-most_arguments.false ∙ c.most_arguments.ensures) _ _ c.loop-index.invariant
    c.loop-index-test.true c.filter_both-both.ensures.shaped c.if-both-eq0.false c.filter_both-both.ensures.left c.if-left-eq0.false

pub returns-then-switch : goal.returns-then-switch
returns-then-switch c =
    reached-concrete _ c.args.self.full _ _ (c.if-operands-most_arguments.false ∙ c.most_arguments.ensures) _ _ c.loop-index.invariant
    c.loop-index-test.false _ c.filter.ensures c.if-switch.true

pub returns : goal.returns
returns c =
    reached-end _ c.args.self.full _ _ (c.if-operands-most_arguments.false ∙ c.most_arguments.ensures) _ _ c.loop-index.invariant
    c.loop-index-test.false _ refl c.if-switch.false
