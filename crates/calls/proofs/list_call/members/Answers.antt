-- `members` meets its contract.
-- Assumes nothing.
use borrow.Author.Tests.{eq-eqb, ne_eqb}
use Rattle.calls.specs.private.Steps.{mask_answer}
use Rattle.calls.proofs.list_call.members.Goals as goal

pub returns-then-left-eq0 : goal.returns-then-left-eq0
unfolding mask_answer
returns-then-left-eq0 c = simp (eq-eqb _ _ c.if-left-eq0.true)

pub returns : goal.returns
unfolding mask_answer
returns c = simp (ne_eqb _ _ c.if-left-eq0.false)
