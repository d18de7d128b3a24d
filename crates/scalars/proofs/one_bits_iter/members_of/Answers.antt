-- `members_of` meets its contract. The loop's invariant: the numbers found so far, followed by those of the bits that are left, are
-- the whole list. Assumes nothing.
use mathlib.Core.Path.{◌≡◌, refl, ap, ap₂, ◌∙◌}
use mathlib.Core.List.{List, [], ◌∷◌}
use Prim.Native.Nat.{ℕ, ◌<◌}
use native.Mathlib.Nat.{zero-add}
use native.Mathlib.Omega.{arith}
use lib.Dec.{lit≤}
use lib.ListN.{length, length-set}
use Rattle.scalars.specs.Mask.{bits}
use Rattle.scalars.specs.OneBits.{listed}
use Rattle.scalars.specs.Paper.{accepted, unused}
use Rattle.scalars.specs.declared.one_bits_iter.OneBitsIter.{OneBitsIter}
use Rattle.scalars.proofs.Bits.{bits-length}
use Rattle.scalars.proofs.Walks.{WalkedBits, walked-bits, ended-bits}
use Rattle.scalars.proofs.Fills.{filled, fill_step, fill_end}
use Rattle.scalars.proofs.one_bits_iter.members_of.Goals as goal
use Rattle.scalars.proofs.one_bits_iter.members_of.Goals.{After-from-in-loop-bit}

turned : (c : After-from-in-loop-bit) → WalkedBits 16 c.loop-bit.bit-iterator.0 c.number.result.0 c.in-Some.bit.0 c.next.new.self.0
turned c = walked-bits 16 _ (lit≤ tt) c.loop-bit.invariant.0 c.in-Some.ensures.steps.1 c.number.ensures

fits : (c : After-from-in-loop-bit) → c.loop-bit.members.count < 16
fits c = omega (arith, c.loop-bit.invariant.1, ap length (turned c).numbers, bits-length 16 c.args.mask)

-- at the end no bit is left, and the count is the number of members
none : (c : goal.In-None) → bits 16 c.loop-bit.bit-iterator.0 ≡ []
none c = ended-bits _ (omega arith) 16 c.in-None.ensures.steps.1

pub loop-bit-init : goal.loop-bit-init
loop-bit-init c = rw (ap (λ (w : OneBitsIter). w.0) c.into_iter-bit-iterator.ensures.into_iter_gives ∙ c.from.ensures) (omega arith, zero-add _, refl, filled 16 unused (bits 16 c.args.mask) (bits-length 16 c.args.mask))

pub bounds-members-from : goal.bounds-members-from
bounds-members-from c = omega (arith, fits c, c.from-in-loop-bit.ensures)

pub overflow_add-members : goal.overflow_add-members
overflow_add-members c = omega (arith, fits c)

pub loop-bit-preserved : goal.loop-bit-preserved
loop-bit-preserved c = rw c.from-in-loop-bit.ensures (
  (turned c).less,
  omega (arith, c.loop-bit.invariant.1, ap length (turned c).numbers),
  simp length-set c.loop-bit.invariant.2,
  fill_step c.loop-bit.members.numbers c.loop-bit.members.count (turned c).numbers c.loop-bit.invariant.3,
)

pub returns : goal.returns
unfolding listed
returns c = ap₂ (λ (n : ℕ) (ns : List ℕ). accepted (n ∷ ns)) (omega (arith, c.loop-bit.invariant.1, ap length (none c))) (fill_end _ _ (none c) c.loop-bit.invariant.3)
