-- `put_all`'s loop: the bytes that are left, stored from here on, make the whole. Assumes nothing.
use mathlib.Core.Path.{◌≡◌}
use Prim.Native.Nat.{◌+◌}
use lib.ListN.{drop}
use lib.Seq.{sets}
use Rattle.text.proofs.writer.put_all.Given as goal

abbrev pub invariant-loop-i : goal.invariant-loop-i
invariant-loop-i l = sets l.strip (l.at + l.i) (drop l.i l.bytes) ≡ sets l.initial.strip l.at l.bytes
