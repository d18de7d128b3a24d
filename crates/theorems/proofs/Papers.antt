-- Answers that differ: yes and no; of papers, one that is refused and one that is accepted, and two of different numbers. Assumes nothing.
use mathlib.Core.Path.{◌≡◌}
use mathlib.Core.Bool.{Bool, true, false}
use mathlib.Core.List.{List}
use Prim.Native.Nat.{ℕ}
use native.Mathlib.Omega.{arith}
use Rattle.scalars.specs.Paper.{accepted, refusal}

pub yes_not-no : {A : Type 0} {b : Bool} → b ≡ true → b ≡ false → A
yes_not-no p q = let z : ◌≡◌ {A = ℕ} 0 1 = cc in absurd (omega arith)

pub refused-not : {A : Type 0} {n p : ℕ} {vs ws : List ℕ} → refusal n p vs ≡ accepted ws → A
refused-not e = let z : ◌≡◌ {A = ℕ} 0 1 = cc in absurd (omega arith)

pub other-number : {A : Type 0} {m n p q : ℕ} {vs ws : List ℕ} → refusal m p vs ≡ refusal n q ws → (m ≡ n → ⊥) → A
other-number {m = m} {n = n} e h = let z : m ≡ n = cc in absurd (h z)
