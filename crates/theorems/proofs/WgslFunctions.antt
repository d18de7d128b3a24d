-- The rules that the 79 functions' calls choose are WGSL's, as specs/WgslCalls.antt states it over the listings: one test of each function's
-- set, computed. A Regular set is fair, a List is in order. Which rules tie is a second test, of all pairs of rules. Assumes nothing.
use mathlib.Core.Path.{◌≡◌, refl, sym, ap, ap₂, ◌∙◌, subst}
use mathlib.Core.Bool.{Bool, true, false, true≢false}
use mathlib.Core.List.{List, [], ◌∷◌}
use mathlib.Core.Option.{some}
use mathlib.Core.Logic.{inl, inr, ⊎_elim}
use Prim.Native.Nat.{ℕ, zero, suc, ◌<◌}
use native.Mathlib.Omega.{arith}
use lib.Dec.{eqb, ltb}
use lib.ListN.{get_elem?}
use borrow.Author.Tests.{eqb-true, eq-eqb, ltb-true, ltb-false}
use Rattle.scalars.specs.Mask.{both, either, every, up_to, bits}
use Rattle.scalars.specs.Domain.{converts}
use Rattle.types.specs.Domain.{is_abstract}
use Rattle.types.specs.TypeCode.{predeclared_code}
use Rattle.types.proofs.Conversions.{yes_either}
use Rattle.rules.specs.Signature.{Signature}
use Rattle.regular.specs.Regular.{codes_of, concluded_of, regular_rules}
use Rattle.functions.specs.Sequences.{float_scalars, concrete_float_scalars, concrete_int_scalars, vector_sizes, vector, matrix, scalar_or_vecn}
use Rattle.functions.specs.ListedRules.{listed_rules}
use Rattle.functions.specs.Functions.{function_count, function_sets, function_set_of, rules_in, listing_of}
use Rattle.functions.specs.declared.mathfunction.FunctionSet.{FunctionSet}
use Rattle.functions.specs.declared.mathfunction.FunctionSet.TheVariants as set
use Rattle.functions.proofs.Database.{each_number, unknown-none, every_element, same_codes}
use Rattle.scalars.proofs.Filters.{both_left, both_right, both_true}
use Rattle.scalars.proofs.Table.{at, same→eq}
use Rattle.theorems.specs.Wgsl.{conversions, scalar_rank, Ranked}
use Rattle.theorems.specs.WgslLists.{implies, ordered?}
use Rattle.theorems.specs.WgslRegulars.{fair?}
use Rattle.theorems.specs.WgslCalls.{Theorem, Ties, MixTwice, mix}
use Rattle.theorems.proofs.WgslArguments.{then}
use Rattle.theorems.proofs.WgslLists.{ordered_ranked}
use Rattle.theorems.proofs.WgslRegulars.{fair_ranked}

-- ---- each set passes its test

abbrev wgsl_set? : FunctionSet → Bool
wgsl_set? (set.Regular r) = fair? r
wgsl_set? (set.List l) = ordered? (listed_rules l)

set_ranked : (s : FunctionSet) → wgsl_set? s ≡ true → Ranked (rules_in s)
set_ranked (set.Regular r) e = fair_ranked r e
set_ranked (set.List l) e = ordered_ranked (listed_rules l) e

-- That ExtractBits and InsertBits are in order rests on `concrete_int_scalars`, whose order is read from the crate's listing: I32 stands before U32
-- there, and each before the scalars that WGSL lacks. specs/WgslHandMade.antt has what the other order would do.
every_set : (f : ℕ) → wgsl_set? (function_set_of f) ≡ true
unfolding fair? ordered? scalar_rank conversions converts is_abstract function_sets bits listed_rules float_scalars concrete_float_scalars concrete_int_scalars vector_sizes vector matrix scalar_or_vecn
every_set f = each_number wgsl_set? refl refl f

pub preferred-is_wgsl : Theorem
unfolding listing_of
preferred-is_wgsl f = set_ranked (function_set_of f) (every_set f)

-- ---- ties

codes_same : (xs : List ℕ) → same_codes xs xs ≡ true
codes_same [] = refl
codes_same (x ∷ xs) = both_true (eq-eqb x x refl) (codes_same xs)

-- two rules of equal arguments have one result; and there are no two such rules
abbrev one_result : Signature → Signature → Bool
one_result p q = implies (same_codes p.arguments q.arguments) (eqb p.result q.result)

abbrev unlike : Signature → Signature → Bool
unlike p q = implies (same_codes p.arguments q.arguments) false

-- a test of each rule with each that stands behind it
abbrev pairwise : (Signature → Signature → Bool) → List Signature → Bool
pairwise t [] = true
pairwise t (p ∷ rs) = both (every (t p) rs) (pairwise t rs)

pair-there : (t : Signature → Signature → Bool) (rs : List Signature) → pairwise t rs ≡ true
    → (i j : ℕ) (p q : Signature) → get_elem? rs i ≡ some p → get_elem? rs j ≡ some q → i < j → t p q ≡ true
pair-there t [] e i j p q h k l = let z : ◌≡◌ {A = ℕ} 0 1 = cc in absurd (omega arith)
pair-there t (x ∷ rs) e i zero p q h k l = absurd (omega arith)
pair-there t (x ∷ rs) e zero (suc j) p q h k l =
    let g : x ≡ p = cc in subst (λ (s : Signature). t s q ≡ true) g (every_element (t x) rs (both_left (every (t x) rs) _ e) j q k)
pair-there t (x ∷ rs) e (suc i) (suc j) p q h k l = pair-there t rs (both_right (every (t x) rs) _ e) i j p q h k (omega arith)

-- computed over all 79 listings: the same arguments have one result, and stand once but in Mix
abbrev tied? : ℕ → Bool
tied? f = both (pairwise one_result (listing_of f)) (either (eqb f mix) (pairwise unlike (listing_of f)))

tests : (f : ℕ) → f < function_count → tied? f ≡ true
unfolding listing_of function_set_of function_sets bits regular_rules codes_of concluded_of predeclared_code listed_rules float_scalars concrete_float_scalars concrete_int_scalars vector_sizes vector matrix scalar_or_vecn
tests f h = sym (same→eq true _ (at (λ f x. tied? f) (up_to function_count) tt f h))

-- two rules of one listing with equal arguments
module _ (f i j : ℕ) (p q : Signature) (h : get_elem? (listing_of f) i ≡ some p) (k : get_elem? (listing_of f) j ≡ some q)
    (e : p.arguments ≡ q.arguments) where
  -- an unknown function has no rules
  known : f < function_count
  known = go (ltb f function_count) refl
    where
      go : (b : Bool) → ltb f function_count ≡ b → f < function_count
      go true g = ltb-true f function_count g
      go false g =
          let n : get_elem? {A = Signature} [] i ≡ some p = subst (λ rs. get_elem? rs i ≡ some p) (unknown-none f (ltb-false f function_count g)) h in
          let z : ◌≡◌ {A = ℕ} 0 1 = cc in absurd (omega arith)

  forth : same_codes p.arguments q.arguments ≡ true
  forth = subst (λ (az : List ℕ). same_codes p.arguments az ≡ true) e (codes_same p.arguments)

  back : same_codes q.arguments p.arguments ≡ true
  back = subst (λ (az : List ℕ). same_codes az p.arguments ≡ true) e (codes_same p.arguments)

  by_place : {A : Type 0} → (i < j → A) → (j < i → A) → (i ≡ j → A) → A
  by_place {A} x y z = go (ltb i j) (ltb j i) refl refl
    where
      go : (b c : Bool) → ltb i j ≡ b → ltb j i ≡ c → A
      go true c u v = x (ltb-true i j u)
      go false true u v = y (ltb-true j i v)
      go false false u v = z (omega (arith, ltb-false i j u, ltb-false j i v))

  same-result : p.result ≡ q.result
  same-result =
      let t = both_left (pairwise one_result (listing_of f)) _ (tests f known) in
      by_place (λ l. eqb-true _ _ (then (pair-there one_result (listing_of f) t i j p q h k l) forth))
      (λ l. sym (eqb-true _ _ (then (pair-there one_result (listing_of f) t j i q p k h l) back)))
      (λ l. let g : some p ≡ some q = sym h ∙ ap (get_elem? (listing_of f)) l ∙ k in let g' : p ≡ q = cc in ap (λ (s : Signature). s.result) g')

  same_rule : p ≡ q
  same_rule = ap₂ (λ (az : List ℕ) (n : ℕ). record { arguments = az; result = n }) e same-result

  same_place : (f ≡ mix → ⊥) → i ≡ j
  same_place n =
      ⊎_elim (λ m. absurd (n (eqb-true f mix m)))
      (λ t.
      by_place (λ l. absurd (true≢false (sym (then (pair-there unlike (listing_of f) t i j p q h k l) forth))))
      (λ l. absurd (true≢false (sym (then (pair-there unlike (listing_of f) t j i q p k h l) back))))
      (λ l. l))
      (yes_either (eqb f mix) (pairwise unlike (listing_of f)) (both_right (pairwise one_result (listing_of f)) _ (tests f known)))

pub ties : Ties
unfolding Ranked
ties f switch ts w i p b =
    let r = preferred-is_wgsl f switch ts w i p b in
    record {
      same = λ q v. ⊎_elim (λ e. inl (same_rule f i q.index p q.rule b.there q.there e)) inr (r.best q v);
      once = λ n q v. ⊎_elim (λ e. inl (same_place f i q.index p q.rule b.there q.there e n)) inr (r.best q v);
    }

pub mix-twice : MixTwice
unfolding listing_of function_set_of function_sets listed_rules float_scalars vector scalar_or_vecn
mix-twice = refl
