-- The loop's invariant: the bytes put there so far, followed by those of the rest, are all of them.
use mathlib.Core.Path.{◌≡◌}
use Prim.Native.Nat.{◌-◌}
use lib.ListN.{length}
use lib.Seq.{sets}
use Rattle.lending.specs.Masks.{mask_bytes}
use Rattle.lending.proofs.masks.lend_mask.Given as goal

abbrev pub invariant-loop-i : goal.invariant-loop-i
invariant-loop-i l =
    (length l.out ≡ length l.initial.out)
    × (sets l.out l.i (mask_bytes (l.needed - l.i) l.rest) ≡ sets l.initial.out 0 (mask_bytes l.needed l.mask))
