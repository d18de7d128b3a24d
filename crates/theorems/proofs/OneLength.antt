-- A test that shows, by computing, that the rules of a listing have one length; those of a Regular set have its arity. Assumes nothing.
use mathlib.Core.Path.{◌≡◌, refl, sym, ap, ◌∙◌}
use mathlib.Core.Bool.{Bool, true}
use mathlib.Core.List.{List, [], ◌∷◌, map}
use mathlib.Core.Option.{some}
use Prim.Native.Nat.{ℕ, zero, suc, max}
use native.Mathlib.Omega.{arith}
use lib.Dec.{eqb}
use lib.ListN.{length, get_elem?, length-replicate}
use borrow.Author.Tests.{eqb-true, eq-eqb}
use Rattle.scalars.specs.Mask.{every}
use Rattle.rules.specs.Signature.{Signature}
use Rattle.rules.specs.Verdict.{longest}
use Rattle.regular.specs.Regular.{codes_of, signature_for, regular_rules}
use Rattle.regular.specs.declared.regular.Regular.{Regular}
use Rattle.scalars.proofs.Filters.{both_left, both_right, both_true}
use Rattle.theorems.specs.Taking.{OneLength}

abbrev pub long? : ℕ → Signature → Bool
long? n r = eqb (length r.arguments) n

rule-long : (n : ℕ) (rules : List Signature) → every (long? n) rules ≡ true → (i : ℕ) (r : Signature) → get_elem? rules i ≡ some r
    → (length r.arguments ≡ n) × (longest rules ≡ n)
rule-long n [] e i r h = let z : ◌≡◌ {A = ℕ} 0 1 = cc in absurd (omega arith)
rule-long n (x ∷ rules) e i r h = (at i h, all (rules-long rules (both_right (long? n x) _ e)))
  where
    here : length x.arguments ≡ n
    here = eqb-true _ _ (both_left (long? n x) _ e)

    rules-long : (rs : List Signature) → every (long? n) rs ≡ true → max n (longest rs) ≡ n
    rules-long [] f = omega arith
    rules-long (y ∷ rs) f =
        let a : length y.arguments ≡ n = eqb-true _ _ (both_left (long? n y) _ f) in
        let b : max n (longest rs) ≡ n = rules-long rs (both_right (long? n y) _ f) in
        omega arith

    all : max n (longest rules) ≡ n → max (length x.arguments) (longest rules) ≡ n
    all f = omega (arith, here)

    later : (rs : List Signature) → every (long? n) rs ≡ true → (i : ℕ) → get_elem? rs i ≡ some r → length r.arguments ≡ n
    later [] f i g = let z : ◌≡◌ {A = ℕ} 0 1 = cc in absurd (omega arith)
    later (y ∷ rs) f zero g =
        let z : y ≡ r = cc in
        ap (λ (s : Signature). length s.arguments) (sym z) ∙ eqb-true _ _ (both_left (long? n y) _ f)
    later (y ∷ rs) f (suc i) g = later rs (both_right (long? n y) _ f) i g

    at : (i : ℕ) → get_elem? (x ∷ rules) i ≡ some r → length r.arguments ≡ n
    at i g = later (x ∷ rules) e i g

pub one-length : (n : ℕ) (rules : List Signature) → every (long? n) rules ≡ true → OneLength rules
unfolding OneLength
one-length n rules e i r h = let f = rule-long n rules e i r h in f.0 ∙ sym f.1

pub regular-one : (set : Regular) → OneLength (regular_rules set)
unfolding regular_rules
regular-one set = one-length set.arity (map (signature_for set) (codes_of set)) (go (codes_of set))
  where
    go : (ts : List ℕ) → every (long? set.arity) (map (signature_for set) ts) ≡ true
    go [] = refl
    go (t ∷ ts) = both_true (eq-eqb _ _ (length-replicate set.arity t)) (go ts)
