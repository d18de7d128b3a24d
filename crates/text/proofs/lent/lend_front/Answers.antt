-- `lend_front` meets its contract: what `lend_bytes` promises of the front that was made. Assumes nothing.
use borrow.Author.Rules.{rules}
use lib.Seq.{length-take-le}
use Rattle.text.proofs.lent.lend_front.Goals as goal

pub slice_bounds-lend_bytes-end : goal.slice_bounds-lend_bytes-end
slice_bounds-lend_bytes-end c = search (rules, length-take-le)
