-- The rules of a Regular set are rules that a List takes: no more arguments than four, arguments that are value types, and, where
-- each has its conclusion, a result that is a type. Assumes nothing.
use mathlib.Core.Path.{◌≡◌, refl, ap, ◌∙◌}
use mathlib.Core.Bool.{Bool, true, false, not}
use mathlib.Core.List.{List, [], ◌∷◌, map}
use Prim.Native.Nat.{ℕ, zero, suc, ◌+◌, ◌*◌, ◌≤◌, ◌<◌}
use native.Mathlib.Omega.{arith}
use lib.Dec.{T, leb, ltb}
use lib.ListN.{replicate, length-replicate}
use borrow.Author.Tests.{lt-ltb, le-leb, ltb-true}
use Rattle.scalars.specs.Mask.{either, every, bits, up_to}
use Rattle.scalars.specs.Domain.{scalars, scalar_count}
use Rattle.types.specs.Domain.{constructors, value?, known?, constructor_count, other_type}
use Rattle.types.specs.TypeCode.{predeclared_code}
use Rattle.rules.proofs.Records.{short?, typed?}
use Rattle.scalars.specs.Paper.{value}
use Rattle.regular.specs.Regular.{pairs, codes_of, signature_for, regular_rules, concluded_of, concluded?, all_conclude}
use Rattle.regular.specs.private.Tested.{Known}
use Rattle.regular.specs.declared.regular.ConclusionRule.{ConclusionRule}
use Rattle.regular.specs.declared.regular.ConclusionRule.TheVariants.{ArgumentType, Scalar, Frexp, Modf, U32, I32, Vec2F, Vec4F, Vec4I, Vec4U}
use Rattle.regular.specs.declared.regular.Regular.{Regular}
use Rattle.scalars.proofs.Table as table
use Rattle.scalars.proofs.Filters.{both_left, both_right, both_true, every_append}
use Rattle.regular.proofs.RegularCodes.{every-select}

-- the rule of an argument type has a conclusion
abbrev pub concludes : Regular → ℕ → Bool
concludes r t = concluded? (concluded_of r.conclude t)

-- ---- every argument type is a value type

row-values : (k : ℕ) → k < constructor_count → (ss : List ℕ) → every (λ s. ltb s scalar_count) ss ≡ true → every value? (map (λ s. k * scalar_count + s) ss) ≡ true
row-values k h [] e = refl
row-values k h (s ∷ ss) e =
    let l : s < scalar_count = ltb-true _ _ (both_left (ltb s scalar_count) _ e) in
    both_true (lt-ltb (k * scalar_count + s) other_type (omega arith)) (row-values k h ss (both_right (ltb s scalar_count) _ e))

pairs-values : (ks ss : List ℕ) → every (λ k. ltb k constructor_count) ks ≡ true → every (λ s. ltb s scalar_count) ss ≡ true → every value? (pairs ks ss) ≡ true
pairs-values [] ss e f = refl
pairs-values (k ∷ ks) ss e f =
    every_append value? (map (λ s. k * scalar_count + s) ss) (pairs ks ss)
    (row-values k (ltb-true _ _ (both_left (ltb k constructor_count) _ e)) ss f) (pairs-values ks ss (both_right (ltb k constructor_count) _ e) f)

pub codes-values : (r : Regular) → every value? (codes_of r) ≡ true
unfolding codes_of bits
codes-values r =
    pairs-values (bits constructor_count r.constructors.0) (bits scalar_count r.scalars.0)
    (every-select (λ k. ltb k constructor_count) constructors r.constructors.0 refl) (every-select (λ s. ltb s scalar_count) scalars r.scalars.0 refl)

-- ---- a conclusion is a type

-- tested at each of the 156 value types
abbrev known_or_none : ConclusionRule → ℕ → Bool
known_or_none c t = either (not (concluded? (concluded_of c t))) (known? (value 0 (concluded_of c t)))

each-known : (c : ConclusionRule) → T (table.every (λ t x. known_or_none c t) 0 (up_to other_type))
unfolding concluded_of predeclared_code
each-known ArgumentType = tt
each-known Scalar = tt
each-known Frexp = tt
each-known Modf = tt
each-known U32 = tt
each-known I32 = tt
each-known Vec2F = tt
each-known Vec4F = tt
each-known Vec4I = tt
each-known Vec4U = tt

pub conclusion_known : (c : ConclusionRule) (t : ℕ) → value? t ≡ true → concluded? (concluded_of c t) ≡ true → known? (value 0 (concluded_of c t)) ≡ true
conclusion_known c t v e =
    go (known? (value 0 (concluded_of c t))) (simp e at (table.at (λ t x. known_or_none c t) (up_to other_type) (each-known c) t (ltb-true _ _ v)))
  where
    go : (b : Bool) → T b → b ≡ true
    go true h = refl
    go false h = absurd h

-- ---- the rules

pub every-replicate : (p : ℕ → Bool) (n t : ℕ) → p t ≡ true → every p (replicate n t) ≡ true
every-replicate p zero t e = refl
every-replicate p (suc n) t e = both_true e (every-replicate p n t e)

module _ (r : Regular) where
  shorts : r.arity ≤ 4 → (ts : List ℕ) → every short? (map (signature_for r) ts) ≡ true
  shorts h [] = refl
  shorts h (t ∷ ts) = both_true (ap (λ (n : ℕ). leb n 4) (length-replicate r.arity t) ∙ le-leb _ _ h) (shorts h ts)

  pub rules-short : Known r → every short? (regular_rules r) ≡ true
  unfolding regular_rules
  rules-short known = shorts known.arity (codes_of r)

  types : (ts : List ℕ) → every value? ts ≡ true → every (λ t. concluded? (concluded_of r.conclude t)) ts ≡ true
      → every typed? (map (signature_for r) ts) ≡ true
  types [] v e = refl
  types (t ∷ ts) v e =
      let w : value? t ≡ true = both_left (value? t) _ v in
      both_true
      (both_true (every-replicate value? r.arity t w) (conclusion_known r.conclude t w (both_left (concluded? (concluded_of r.conclude t)) _ e)))
      (types ts (both_right (value? t) _ v) (both_right (concluded? (concluded_of r.conclude t)) _ e))

  pub rules-typed : all_conclude r ≡ true → every typed? (regular_rules r) ≡ true
  unfolding regular_rules all_conclude
  rules-typed e = types (codes_of r) (codes-values r) e
