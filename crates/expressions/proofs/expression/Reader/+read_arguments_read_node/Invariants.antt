-- `read_node` and `read_arguments`, which call each other, end because of the unread bytes: a call of `read_arguments` counts twice as
-- many and one more, a call of `read_node` twice as many. So arguments may hand on to the node at the same offset, while a node has
-- read three bytes when it hands on to its arguments, and each argument that was read leaves fewer unread bytes to the others.
use Rattle.std.proofs.Common.{◌+◌, ◌-◌, ◌*◌, length}
use Rattle.expressions.proofs.expression.Reader.+read_arguments_read_node.Given as goal

abbrev pub decreases-read_arguments : goal.decreases-read_arguments
decreases-read_arguments l = 2 * (length l.self.now.bytes.now - l.at) + 1

abbrev pub decreases-read_node : goal.decreases-read_node
decreases-read_node l = 2 * (length l.self.now.bytes.now - l.at)
