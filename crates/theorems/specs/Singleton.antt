-- Document 02's request (iii): a set is asked whether it has one member by counting the ones of its mask.
--
-- Take a width w and any mask of w bits, whose bit k stands for the member k.
-- * Its count of ones is one exactly when the set has exactly one member.
-- * And exactly when it is a power of two: so naga's `ConstructorSet::is_singleton` asks.
-- * Of every mask but 0 the subtract-and-mask test says the same: m and m − 1 have no common bit.
-- * Of 0 that test says yes, whatever 0 − 1 is taken to be, and the count of ones is not one.
-- Of two functions, and any answer that their contracts permit:
-- * `ConstructorSet::is_singleton` says yes exactly when its mask of 16 bits has exactly one member.
-- * `OneBitsIter::next` leaves, behind the bit that it takes, what m and m − 1 have in common: in naga it is the walk that subtracts and
--   masks.
use Rattle.std.specs.Prelude.{◌≡◌, ◌↔◌, true, ℕ, ◌-◌, ◌^◌, ◌<◌, Some}
use Rattle.std.specs.Int.Bits.{bit_and}
use Rattle.std.specs.Int.Count.{ones}
use Rattle.scalars.specs.declared.one_bits_iter.OneBit.{OneBit}
use Rattle.scalars.specs.contracts.one_bits_iter as one_bits_iter
use Rattle.scalars.proofs.one_bits_iter as one_bits_iter_proofs
use Rattle.types.specs.contracts.constructor_set as constructor_set
use Rattle.types.proofs.constructor_set as constructor_set_proofs
use Rattle.theorems.specs.ByContract.{Promises}
use Rattle.theorems.specs.Taking.{bit}

-- k is a member of the set of at most w members
abbrev pub Member : ℕ → ℕ → ℕ → Type 0
Member w m k = (k < w) × (bit k m ≡ true)

-- there is a member, and every member is that one
pub record OneMember (w m : ℕ) : Type 0 where
  pub member : ℕ
  pub there : Member w m member
  pub alone : (k : ℕ) → Member w m k → k ≡ member

abbrev pub PowerOfTwo : ℕ → Type 0
PowerOfTwo m = (k : ℕ) × (m ≡ 2 ^ k)

abbrev pub NoCommonBit : ℕ → ℕ → Type 0
NoCommonBit m n = bit_and m n ≡ 0

pub record OfMask (w m : ℕ) : Type 0 where
  pub counted : ones m ≡ 1 ↔ OneMember w m
  pub power_of_two : ones m ≡ 1 ↔ PowerOfTwo m
  pub subtracted : 0 < m → ones m ≡ 1 ↔ NoCommonBit m (m - 1)

pub record OfNone : Type 0 where
  pub counted : ones 0 ≡ 1 → ⊥
  pub subtracted : (n : ℕ) → NoCommonBit 0 n

pub record Theorem : Type 0 where
  pub masks : (w m : ℕ) → m < 2 ^ w → OfMask w m
  pub none : OfNone
  pub asked :
      Promises constructor_set.ConstructorSet.is_singleton.ended constructor_set_proofs.ConstructorSet.is_singleton.Reads.Post
      (λ κs a r s. r ≡ true ↔ OneMember 16 a.0.0)
  pub walked :
      Promises one_bits_iter.OneBitsIterIterator.next.ended one_bits_iter_proofs.OneBitsIterIterator.next.Reads.Post
      (λ κs a r s. (b : OneBit) → a.0.now.0 < 2 ^ 64 → r ≡ Some b → s.0.now.0 ≡ bit_and a.0.now.0 (a.0.now.0 - 1))
