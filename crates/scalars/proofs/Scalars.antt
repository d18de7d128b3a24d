-- Scalar sets: the preferred scalar is the lowest bit, and what a scalar converts to as a mask. Assumes nothing.
use mathlib.Core.Path.{◌≡◌, refl}
use mathlib.Core.Bool.{Bool, true, false}
use mathlib.Core.List.{[], ◌∷◌}
use Prim.Native.Nat.{ℕ, ◌*◌, ◌%◌, ◌^◌, ◌<◌}
use native.Mathlib.Omega.{arith}
use lib.Count.{count_trailing_zeros}
use lib.Dec.{eqb, eqb→eq, leb, ltb, lit≤}
use borrow.Author.Tests.{lt-ltb, lt-leb, ltb-true}
use Rattle.scalars.specs.Mask.{either}
use Rattle.scalars.specs.Domain.{scalars, converts}
use Rattle.scalars.specs.Paper.{accepted}
use Rattle.scalars.specs.Scalar.{most_general, member, singleton_of, convertible_from}
use Rattle.scalars.proofs.Table.{at, every, same, same→eq}
use Rattle.scalars.proofs.Bits.{bits-next}

-- the preferred scalar, by counting trailing zeros
pub lowest : (m : ℕ) → 0 < m → m < 2 ^ 12 → most_general m ≡ accepted (count_trailing_zeros 16 m ∷ [])
unfolding most_general
lowest m p h = simp (lt-ltb _ _ h, bits-next 16 12 m (lit≤ tt) p h)

-- the set of one scalar, as a shift gives it
pub single : (k : ℕ) → k < 12 → (1 * 2 ^ k) % 2 ^ 16 ≡ singleton_of k
unfolding singleton_of
single k h = eqb→eq _ _ (at (λ i x. eqb ((1 * 2 ^ i) % 2 ^ 16) (singleton_of i)) scalars tt k h)

-- a scalar that is not abstract converts to itself alone
pub own : (k : ℕ) → (k ≡ 0 → ⊥) → (k ≡ 1 → ⊥) → singleton_of k ≡ convertible_from k
unfolding singleton_of convertible_from converts
own k z o = go (ltb k 12) refl
  where
    go : (b : Bool) → ltb k 12 ≡ b → singleton_of k ≡ convertible_from k
    go true e =
        eqb→eq _ _ (simp (lt-leb k 1 (omega arith)) at (at (λ i x. either (leb i 1) (eqb (singleton_of i) (convertible_from i))) scalars tt k (ltb-true _ _ e)))
    go false e = simp e

-- a member of the set that a scalar converts to, against the definition: one test at each of the 144 pairs
pub reached : (i j : ℕ) → i < 12 → j < 12 → member j (convertible_from i) ≡ converts i j
unfolding member convertible_from converts
reached i j h k = same→eq _ _ (at (λ j _. pair i j) scalars (at (λ i _. every (λ j _. pair i j) 0 scalars) scalars tt i h) j k)
  where
    pair : ℕ → ℕ → Bool
    pair i j = same (member j (convertible_from i)) (converts i j)
