-- `slot` meets its contract: a key is small, so that nothing overflows. Assumes nothing.
use native.Mathlib.Omega.{arith}
use Rattle.names.proofs.Lookups.{key_below, slot_at}
use Rattle.names.proofs.index.slot.Goals as goal

pub overflow_add-k : goal.overflow_add-k
overflow_add-k c = omega (arith, c.entry-shift.ensures.1, c.key-k.ensures, key_below c.args.run.now)

pub returns : goal.returns
returns c = slot_at _ _ c.key-k.ensures c.entry-shift.ensures.0 c.entry.ensures.0
