-- What a walk over the set bits of a word has before it.
use Rattle.std.specs.Prelude.{◌≡◌, List, ℕ, ◌^◌, map, Option, IfNone}
use Rattle.std.specs.Iterator.{YieldsFirst}
use Rattle.scalars.specs.Mask.{bits}
use Rattle.scalars.specs.OneBits.{step_of}
use Rattle.scalars.specs.Paper.{walk_paper}
use Rattle.scalars.specs.declared.one_bits_iter.OneBit.{OneBit}
use Rattle.scalars.specs.declared.one_bits_iter.OneBitsIter.{OneBitsIter}

-- the mask of the bit with this number
abbrev pub one_bit : ℕ → OneBit
one_bit k = record { 0 = 2 ^ k }

-- the bits that are still to come, lowest first
abbrev pub one_bits : OneBitsIter → List OneBit
one_bits w = map one_bit (bits 64 w.0)

-- a call of `next` from s gave r and left t: the first of what was to come, or its end, at which the walk stays as it was
abbrev pub OneBitsGive : OneBitsIter → Option OneBit → OneBitsIter → Type 0
OneBitsGive s r t = (YieldsFirst one_bits s r t × IfNone r (t ≡ s)) × (walk_paper r t ≡ step_of (bits 64 s.0))
