-- `key` meets its contract. The loop's invariant: from the number made so far, the bytes that are left make the whole number.
-- Assumes nothing.
use mathlib.Core.Path.{◌≡◌}
use Prim.Native.Nat.{◌<◌}
use lib.ListN.{drop}
use Rattle.names.specs.Index.{key_count, key_from, key_of}
use Rattle.names.proofs.index.key.Given as goal

abbrev pub invariant-loop-b : goal.invariant-loop-b
invariant-loop-b l = (l.k < key_count) × (key_from l.k (drop l.b-index l.run) ≡ key_of l.run)
