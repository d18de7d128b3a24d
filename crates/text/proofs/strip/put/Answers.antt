-- `put` meets its contract: behind the end nothing is stored. Assumes nothing.
use mathlib.Core.Path.{sym}
use lib.Seq.{set_out}
use Rattle.text.proofs.strip.put.Goals as goal

pub returns-else-at-strip : goal.returns-else-at-strip
returns-else-at-strip c = sym (set_out _ _ _ c.if-at-strip.false)
