-- The first unknown code, by the definition and by what it says. Assumes nothing.
use mathlib.Core.Path.{◌≡◌, refl}
use mathlib.Core.Bool.{Bool, true, false}
use mathlib.Core.List.{List, [], ◌∷◌}
use Prim.Native.Nat.{ℕ, zero, suc, ◌≤◌, ◌<◌}
use native.Mathlib.Omega.{arith}
use borrow.Author.Tests.{leb-true, leb-false}
use lib.Dec.{leb}
use lib.ListN.{length, get_or}
use Rattle.scalars.specs.Mask.{choose}
use Rattle.types.specs.Domain.{first_unknown, last_code}
use Rattle.theorems.specs.Known.{AllKnown, FirstUnknown}

-- each code before the first unknown one is known
below-known : (ts : List ℕ) (k : ℕ) → k < first_unknown ts → get_or ts k 0 ≤ last_code
unfolding first_unknown
below-known [] k l = absurd (omega arith)
below-known (t ∷ ts) k l = go (below-known ts) (leb t last_code) refl k l
  where
    go : ((k : ℕ) → k < first_unknown ts → get_or ts k 0 ≤ last_code) → (b : Bool) → leb t last_code ≡ b → (k : ℕ) → k < choose b (suc (first_unknown ts)) 0
        → get_or (t ∷ ts) k 0 ≤ last_code
    go rest true e zero l = leb-true t last_code e
    go rest true e (suc k) l = rest k (omega arith)
    go rest false e k l = absurd (omega arith)

unknown-there : (ts : List ℕ) → first_unknown ts < length ts → last_code < get_or ts (first_unknown ts) 0
unfolding first_unknown
unknown-there [] l = absurd (omega arith)
unknown-there (t ∷ ts) l = go (unknown-there ts) (leb t last_code) refl l
  where
    go : (first_unknown ts < length ts → last_code < get_or ts (first_unknown ts) 0) → (b : Bool) → leb t last_code ≡ b
        → choose b (suc (first_unknown ts)) 0 < suc (length ts) → last_code < get_or (t ∷ ts) (choose b (suc (first_unknown ts)) 0) 0
    go rest true e l = rest (omega arith)
    go rest false e l = leb-false t last_code e

pub all_known : (ts : List ℕ) → length ts ≤ first_unknown ts → AllKnown ts
all_known ts h k l = below-known ts k (omega arith)

pub first_unknown_lem : (ts : List ℕ) → first_unknown ts < length ts → FirstUnknown ts (first_unknown ts)
first_unknown_lem ts l = record { there = l; unknown = unknown-there ts l; before = below-known ts }

-- there is one alone
pub unknown-one : (ts : List ℕ) (i j : ℕ) → FirstUnknown ts i → FirstUnknown ts j → i ≡ j
unknown-one ts i j a b = go (leb i j) (leb j i) refl refl
  where
    go : (x y : Bool) → leb i j ≡ x → leb j i ≡ y → i ≡ j
    go true true e f = omega (arith, leb-true i j e, leb-true j i f)
    go true false e f = let h = b.before i (omega (arith, leb-false j i f)) in absurd (omega (arith, a.unknown))
    go false y e f = let h = a.before j (omega (arith, leb-false i j e)) in absurd (omega (arith, b.unknown))

pub never-unknown : (ts : List ℕ) (i : ℕ) → AllKnown ts → FirstUnknown ts i → ⊥
never-unknown ts i h u = let l = h i u.there in omega (arith, u.unknown)
