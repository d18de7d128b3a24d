-- Bit i of the mask of a call's survivors is set exactly when rule i passes every step. Assumes nothing.
use mathlib.Core.Path.{◌≡◌, ap, ◌∙◌}
use mathlib.Core.Bool.{Bool, true}
use mathlib.Core.List.{List, [], ◌∷◌}
use mathlib.Core.Option.{some}
use Prim.Native.Nat.{ℕ, zero, suc, ◌-◌, ◌/◌, ◌^◌}
use native.Mathlib.Omega.{arith}
use lib.Dec.{eqb}
use lib.ListN.{length, get_elem?}
use Rattle.scalars.specs.Mask.{both, odd, sift}
use Rattle.rules.specs.Signature.{Signature}
use Rattle.scalars.proofs.Meets.{ones_half, ones_odd}
use Rattle.scalars.proofs.Sifts.{high, odd_low}
use Rattle.calls.proofs.Narrowing.{passes_all}
use Rattle.calls.proofs.Surviving.{Surviving}
use Rattle.theorems.specs.Taking.{bit}

bit-sift : (p : Signature → Bool) (rs : List Signature) (i : ℕ) (r : Signature) → get_elem? rs i ≡ some r → (m : ℕ) → bit i (sift p rs m) ≡ both (bit i m) (p r)
unfolding sift
bit-sift p [] i r e m = let z : ◌≡◌ {A = ℕ} 0 1 = cc in absurd (omega arith)
bit-sift p (x ∷ rs) zero r e m =
    let f : x ≡ r = cc in
    odd_low (sift p rs (m / 2)) (both (odd m) (p x)) ∙ ap (λ (s : Signature). both (odd m) (p s)) f
bit-sift p (x ∷ rs) (suc i) r e m = ap (bit i) (high (sift p rs (m / 2)) (both (odd m) (p x))) ∙ bit-sift p rs i r e (m / 2)

bit-ones : (rs : List Signature) (i : ℕ) (r : Signature) → get_elem? rs i ≡ some r → bit i (2 ^ length rs - 1) ≡ true
bit-ones [] i r e = let z : ◌≡◌ {A = ℕ} 0 1 = cc in absurd (omega arith)
bit-ones (x ∷ rs) zero r e = ap (λ (n : ℕ). eqb n 1) (ones_odd (length rs))
bit-ones (x ∷ rs) (suc i) r e = ap (bit i) (ones_half (length rs)) ∙ bit-ones rs i r e

bit_mask : (p : Signature → Bool) (rs : List Signature) (i : ℕ) (r : Signature) → get_elem? rs i ≡ some r → bit i (sift p rs (2 ^ length rs - 1)) ≡ p r
bit_mask p rs i r e = bit-sift p rs i r e (2 ^ length rs - 1) ∙ ap (λ (b : Bool). both b (p r)) (bit-ones rs i r e)

pub survivor_bit : (switch : Bool) (rules : List Signature) (ts : List ℕ) (m : ℕ) → Surviving switch rules ts m
    → (i : ℕ) (r : Signature) → get_elem? rules i ≡ some r → bit i m ≡ passes_all switch ts r
survivor_bit switch rules ts m h i r e = ap (bit i) h.picks ∙ bit_mask (passes_all switch ts) rules i r e
