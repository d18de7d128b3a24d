-- `matches` compares the operands with the rule's arguments one by one: each step is a law of proofs/Matching.antt.
-- Assumes nothing.
use mathlib.Core.Path.{sym, ap, ◌∙◌}
use native.Mathlib.Omega.{arith}
use lib.Dec.{eqb}
use Rattle.machine.proofs.Matching.{alike_end, alike_differ, alike_next}
use Rattle.machine.proofs.stack.Stack.matches.Goals as goal

pub returns-then-not-is_exactly : goal.returns-then-not-is_exactly
returns-then-not-is_exactly c =
    let told = rw c.from-count.ensures at (c.is_exactly.ensures ∙ ap (eqb _) c.argument.ensures) in
    let differs = alike_differ c.args.self.now c.args.rule c.requires.0 c.requires.1 c.loop-i.i in
    sym (differs (omega arith) _ told c.if-not-is_exactly.true) ∙ c.loop-i.invariant

pub loop-i-preserved : goal.loop-i-preserved
loop-i-preserved c =
    let told = rw c.from-count.ensures at (c.is_exactly.ensures ∙ ap (eqb _) c.argument.ensures) in
    let alike = alike_next c.args.self.now c.args.rule c.requires.0 c.requires.1 c.loop-i.i in
    alike (omega arith) _ told c.if-not-is_exactly.false ∙ c.loop-i.invariant

pub returns : goal.returns
returns c =
    sym (alike_end c.args.self.now c.args.rule c.requires.0 c.requires.1 c.loop-i.i (omega arith)) ∙ c.loop-i.invariant
