-- `type_node` and `type_arguments`, which call each other, end because of the bytes behind the offset: a call of `type_arguments` counts
-- twice as many and one more, a call of `type_node` twice as many, as in the first pass.
use Rattle.std.proofs.Common.{◌+◌, ◌-◌, ◌*◌, length}
use Rattle.worksheet.proofs.typer.+type_arguments_type_node.Given as goal

abbrev pub decreases-type_arguments : goal.decreases-type_arguments
decreases-type_arguments l = 2 * (length l.bytes.now - l.at) + 1

abbrev pub decreases-type_node : goal.decreases-type_node
decreases-type_node l = 2 * (length l.bytes.now - l.at)
