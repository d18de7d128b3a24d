-- `members_within` meets its contract: no bit above the known ones is set, so the word's bits are the set's.
-- Assumes nothing.
use mathlib.Core.Path.{ap, ◌∙◌}
use Prim.Native.Nat.{◌^◌}
use native.Mathlib.Omega.{arith, by_contra}
use lib.Pow.{pow_mono}
use borrow.Author.Tests.{lt-ltb, le-ltb, lt-leb, le-leb}
use Rattle.scalars.specs.OneBits.{members_within, listed, unlisted}
use Rattle.scalars.proofs.Bits.{bits-within}
use Rattle.scalars.proofs.one_bits_iter.members_within.Goals as goal

pub returns-then-all-mask : goal.returns-then-all-mask
unfolding members_within unlisted
returns-then-all-mask c = record {
  answer = simp (lt-leb c.args.mask c.args.all c.if-all-mask.true);
  within = λ n e. simp (le-ltb c.args.mask (2 ^ n) (omega (arith, e)));
}

pub returns-else-all-mask : goal.returns-else-all-mask
unfolding members_within
returns-else-all-mask c = record {
  answer = simp (le-leb c.args.mask c.args.all c.if-all-mask.false) c.members_of.ensures;
  within = λ n e. simp (lt-ltb c.args.mask (2 ^ n) (omega (arith, e))) (c.members_of.ensures ∙ ap listed (bits-within n 16 _ (by_contra n 16 (λ q. omega (arith, e, pow_mono q))) (omega (arith, e))));
}
