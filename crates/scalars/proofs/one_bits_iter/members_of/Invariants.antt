-- `members_of` meets its contract. The loop's invariant: the numbers found so far, followed by those of the bits that are left, are
-- the whole list. Assumes nothing.
use mathlib.Core.Path.{◌≡◌}
use Prim.Native.Nat.{◌+◌, ◌^◌, ◌<◌}
use lib.ListN.{length}
use lib.Seq.{sets}
use Rattle.scalars.specs.Mask.{bits, padded}
use Rattle.scalars.specs.Paper.{unused}
use Rattle.scalars.proofs.one_bits_iter.members_of.Given as goal

abbrev pub invariant-loop-bit : goal.invariant-loop-bit
invariant-loop-bit l = (l.bit-iterator.0 < 2 ^ 16) × (l.members.count + length (bits 16 l.bit-iterator.0) ≡ length (bits 16 l.mask)) × (length l.members.numbers ≡ 16) × (sets l.members.numbers l.members.count (bits 16 l.bit-iterator.0) ≡ padded 16 unused (bits 16 l.mask))
