-- Both steps of an operand in one walk: each turn keeps the member's bit by the operand's shape, and what is then kept by its number. What
-- is kept so is what the two steps leave, one after the other. Assumes nothing.
use mathlib.Core.Path.{◌≡◌, refl, sym, ap, ap₂, ◌∙◌}
use mathlib.Core.Bool.{Bool, true, false}
use mathlib.Core.List as L
use Prim.Native.Nat.{ℕ, ◌+◌}
use Rattle.scalars.specs.Mask.{choose, both, sift}
use Rattle.rules.specs.Signature.{Signature, fits, takes}
use Rattle.rules.specs.declared.rule.Part.TheVariants.{Shape, Number}
use Rattle.scalars.proofs.Masks.{gain}
use Rattle.scalars.proofs.Sifts.{sift-both}
use Rattle.scalars.proofs.Walks.{Walked}
use Rattle.rules.proofs.Rules.{takes-both}

-- the two steps leave the rules that take the operand
pub both_left : (i t : ℕ) (xs : L.List Signature) (m : ℕ) → sift (takes i t) xs m ≡ sift (fits Number i t) xs (sift (fits Shape i t) xs m)
both_left i t xs m = sym (sift-both (fits Number i t) (fits Shape i t) (takes i t) (takes-both i t) xs m)

kept-one : (s : Bool) (b : ℕ) → gain s b ≡ choose s b 0
kept-one true b = refl
kept-one false b = refl

kept-both : (s n : Bool) (b : ℕ) → gain (both s n) b ≡ choose n (choose s b 0) 0
kept-both true true b = refl
kept-both true false b = refl
kept-both false true b = refl
kept-both false false b = refl

-- a turn of a walk: the member's bit is kept where its rule passes a test
pub kept-turn : (p : Signature → Bool) {x : Signature} {xs : L.List Signature} {m k b r kept : ℕ} {s : Bool} → Walked x xs m k b r → s ≡ p x → kept ≡ choose s b 0
    → sift p xs m ≡ kept + sift p xs r
kept-turn p {xs = xs} {b = b} {r = r} {s = s} turn s-is kept-is =
    turn.step p ∙ ap (λ (v : ℕ). v + sift p xs r) (ap (λ (c : Bool). gain c b) (sym s-is) ∙ kept-one s b ∙ sym kept-is)

-- and where it passes the operand's two tests, one after the other
pub both-turn : (i t : ℕ) {x : Signature} {xs : L.List Signature} {m k b r shape number : ℕ} {s n : Bool} → Walked x xs m k b r → s ≡ fits Shape i t x → shape ≡ choose s b 0
    → n ≡ fits Number i t x → number ≡ choose n shape 0 → sift (takes i t) xs m ≡ number + sift (takes i t) xs r
both-turn i t {x} {xs} {b = b} {r = r} {shape = shape} {s = s} {n = n} turn s-is shape-is n-is number-is =
    turn.step (takes i t)
    ∙ ap (λ (v : ℕ). v + sift (takes i t) xs r)
    (ap (λ (c : Bool). gain c b) (takes-both i t x ∙ ap₂ both (sym s-is) (sym n-is)) ∙ kept-both s n b
    ∙ ap (λ (v : ℕ). choose n v 0) (sym shape-is) ∙ sym number-is)
