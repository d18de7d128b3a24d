-- `key` meets its contract. The loop's invariant: from the number made so far, the bytes that are left make the whole number.
-- Assumes nothing.
use native.Mathlib.Omega.{arith}
use Rattle.names.proofs.Lookups.{key_start, key_next, key_end}
use Rattle.names.proofs.index.key.Goals as goal

pub loop-b-init : goal.loop-b-init
loop-b-init c = (omega arith, key_start _)

pub loop-b-preserved : goal.loop-b-preserved
loop-b-preserved c = (omega arith, rw c.from.ensures (key_next _ _ c.loop-b.b-index c.loop-b.invariant.1 (omega arith)))

pub returns : goal.returns
returns c = key_end _ _ c.loop-b.b-index c.loop-b.invariant.1 (omega arith)
