-- `read_expression` answers the number of nodes of the tree that the definition reads; its faults the check finds alone.
-- Assumes nothing.
use Rattle.expressions.proofs.Steps.{expression-whole}
use Rattle.expressions.proofs.expression.read_expression.Goals as goal

pub returns : goal.returns
returns c = expression-whole _ _ _ _ c.in_ok-root.ensures c.if-root-bytes.false
