-- `write_node` and `write_rest`, which call each other, end because of the bytes behind the offset: a call of `write_rest` counts twice as
-- many and one more, a call of `write_node` twice as many, as in the first pass.
use Rattle.std.proofs.Common.{◌+◌, ◌-◌, ◌*◌, length}
use Rattle.text.proofs.source.Source.+write_node_write_rest.Given as goal

abbrev pub decreases-write_node : goal.decreases-write_node
decreases-write_node l = 2 * (length l.self.now.bytes.now - l.at)

abbrev pub decreases-write_rest : goal.decreases-write_rest
decreases-write_rest l = 2 * (length l.self.now.bytes.now - l.at) + 1
