-- `OneBitsIter::next` meets its contract: the lowest bit's mask, and the word without it.
-- Assumes nothing.
use mathlib.Core.Path.{◌≡◌, refl, sym, ap}
use mathlib.Core.List.{[], ◌∷◌}
use Prim.Native.Nat.{ℕ, ◌-◌, ◌*◌, ◌%◌, ◌^◌, ◌<◌, ◌≤◌}
use native.Mathlib.Nat.{le_refl}
use native.Mathlib.Omega.{arith}
use lib.Count.{count_trailing_zeros}
use lib.ListN.{length}
use Rattle.scalars.specs.Mask.{bits}
use Rattle.scalars.specs.OneBits.{step_of}
use Rattle.scalars.specs.Paper.{accepted}
use Rattle.scalars.specs.Walk.{one_bits}
use Rattle.scalars.proofs.Masks.{bit_is, trailing_lt, trailing_part}
use Rattle.scalars.proofs.Walks.{step-some, step-none, left-some, left-none}
use Rattle.scalars.proofs.one_bits_iter.OneBitsIterIterator.next.Goals as goal

-- of a word that is not 0: the lowest bit is one of the word, and the shift makes it
module _ (m : ℕ) (some : m ≡ 0 → ⊥) (h : m < 2 ^ 64) where
  within : count_trailing_zeros 64 m < 64
  within = trailing_lt 64 64 m (le_refl 64) (omega arith) h

  shifted : 1 * 2 ^ count_trailing_zeros 64 m % 18446744073709551616 ≡ 2 ^ count_trailing_zeros 64 m
  shifted = bit_is 64 _ within

  part : 1 * 2 ^ count_trailing_zeros 64 m % 18446744073709551616 ≤ m
  part = rw shifted (trailing_part 64 m (omega arith) h)

  answered : accepted (1 * 2 ^ count_trailing_zeros 64 m % 18446744073709551616 ∷ (m - 1 * 2 ^ count_trailing_zeros 64 m % 18446744073709551616) ∷ []) ≡ step_of (bits 64 m)
  answered = rw shifted (sym (step-some m (omega arith) h))

  taken : one_bits (record { 0 = m }) ≡ record { 0 = 1 * 2 ^ count_trailing_zeros 64 m % 18446744073709551616 } ∷ one_bits (record { 0 = m - 1 * 2 ^ count_trailing_zeros 64 m % 18446744073709551616 })
  taken = rw shifted (left-some m (omega arith) h)

pub returns-then-self-eq0-clause-steps : goal.returns-then-self-eq0-clause-steps
returns-then-self-eq0-clause-steps c = (((left-none _ c.if-self-eq0.true, left-none _ c.if-self-eq0.true), refl), sym (step-none _ c.if-self-eq0.true))

pub overflow_cast-mask : goal.overflow_cast-mask
overflow_cast-mask c = omega (arith, within _ c.if-self-eq0.false (omega arith))

pub overflow_shl-mask : goal.overflow_shl-mask
overflow_shl-mask c = omega (arith, within _ c.if-self-eq0.false (omega arith))

pub overflow_sub-self : goal.overflow_sub-self
overflow_sub-self c = part _ c.if-self-eq0.false (omega arith)

pub returns : goal.returns
returns c =
    let steps = taken _ c.if-self-eq0.false (omega arith) in
    record {
      steps = ((steps, tt), answered _ c.if-self-eq0.false (omega arith));
      goes = record { on = λ f. (tt, tt, omega (arith, ap length steps)); keeps = tt; rests = λ f. tt };
    }
