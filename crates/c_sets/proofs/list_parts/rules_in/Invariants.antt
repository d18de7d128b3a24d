-- `rules_in` meets its contract. The loop's invariant: the rules so far, followed by those that are left, are all of them.
-- Assumes nothing.
use mathlib.Core.Path.{◌≡◌}
use Prim.Native.Nat.{◌≤◌}
use lib.ListN.{length, drop}
use lib.Seq.{sets}
use Rattle.c_sets.specs.Sets.{byte_rules}
use Rattle.c_sets.proofs.list_parts.rules_in.Given as goal

abbrev pub invariant-loop-k : goal.invariant-loop-k
invariant-loop-k l = (l.k ≤ 63) × (length l.out ≡ 63) × (sets l.out l.k (drop l.k (byte_rules l.bytes)) ≡ byte_rules l.bytes)
