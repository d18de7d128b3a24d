-- `read_node` and `read_arguments`, which call each other, answer what the definition of the first pass does: the check finds each way
-- through either but the one into a call's arguments.
-- Assumes nothing.
use mathlib.Core.Path.{◌∙◌}
use native.Mathlib.Omega.{arith}
use Rattle.expressions.proofs.Steps.{node_moves, call-read}
use Rattle.expressions.proofs.expression.Reader.+read_arguments_read_node.Goals as goal

pub read_arguments-read_arguments-requires : goal.read_arguments-read_arguments-requires
read_arguments-read_arguments-requires t c =
    let moved = node_moves _ _ _ _ _ _ _ c.in_ok-one.ensures in
    (omega (arith, c.decreases), tt)

pub read_node-returns-else-self-count : goal.read_node-returns-else-self-count
read_node-returns-else-self-count t c =
    c.read_arguments.ensures
    ∙ rw c.from-left.ensures (call-read _ _ _ _ _ (omega arith) (omega arith) (omega arith) c.in-1.is (omega arith) (omega arith))
