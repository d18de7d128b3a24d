-- The database of functions: each fact below is computed over all 79 by one test. Every rule has at most four arguments, and as many as
-- the other rules of its function; a listing has at least one rule and at most 63;
-- no rule of a Regular set lacks a conclusion. Assumes nothing.
use mathlib.Core.Path.{◌≡◌, refl, sym, ap, ◌∙◌, subst}
use mathlib.Core.Bool.{Bool, true, false, not}
use mathlib.Core.List.{List, [], ◌∷◌}
use mathlib.Core.Option.{some}
use Prim.Native.Nat.{ℕ, zero, suc, ◌+◌, ◌^◌, ◌≤◌, ◌<◌}
use native.Mathlib.Omega.{arith}
use lib.Dec.{eqb, leb, ltb}
use lib.ListN.{length, take, drop, get_or, get_elem?, replicate, get_or-eq_default}
use lib.Seq.{take_all}
use borrow.Author.Tests.{leb-true, ltb-true, ltb-false, eqb-true, lt-ltb}
use Rattle.scalars.specs.Mask.{both, every, digit, bits}
use Rattle.rules.specs.Signature.{Signature}
use Rattle.rules.specs.Verdict.{longest}
use Rattle.types.specs.TypeCode.{predeclared_code}
use Rattle.regular.specs.Regular.{empty_regular, regular_rules, codes_of, concluded_of, all_conclude}
use Rattle.functions.specs.Sequences.{float_scalars, concrete_float_scalars, concrete_int_scalars, vector_sizes, vector, matrix, scalar_or_vecn}
use Rattle.rules.specs.Rule.{most_arguments}
use Rattle.rules.proofs.Records.{short?}
use Rattle.functions.specs.ListedRules.{listed_rules}
use Rattle.functions.specs.FunctionPaper.{function_paper}
use Rattle.functions.specs.Functions.{function_count, function_sets, function_set_of, set_of_function, rules_in, listing_of, rule_in, rule_at}
use Rattle.functions.specs.private.Built.{Built}
use Rattle.functions.specs.declared.mathfunction.FunctionSet.{FunctionSet}
use Rattle.functions.specs.declared.mathfunction.FunctionSet.TheVariants as set
use Rattle.regular.specs.declared.regular.Regular.{Regular}
use Rattle.scalars.proofs.Prefixes.{every-at, both_true}
use Rattle.functions.proofs.Runs.{run_at}

-- ---- a set by its function's number

-- the set of no function
abbrev none : FunctionSet
none = set.Regular empty_regular

-- the set of one function
pub set_at : (k : ℕ) {f : ℕ} → f ≡ k → function_paper (get_or function_sets k none) ≡ set_of_function f
unfolding function_set_of
set_at k h = sym (ap (λ (i : ℕ). function_paper (get_or function_sets i none)) h)

-- n functions in turn have one set
pub sets-from : (k n : ℕ) {f : ℕ} → take n (drop k function_sets) ≡ replicate n (get_or function_sets k none) → k ≤ f → f < k + n
    → function_paper (get_or function_sets k none) ≡ set_of_function f
unfolding function_set_of
sets-from k n e l h = ap function_paper (sym (run_at none function_sets k n e l h))

pub no-function : {f : ℕ} → function_count ≤ f → function_set_of f ≡ none
unfolding function_set_of function_sets
no-function h = get_or-eq_default function_sets none h

counted : length function_sets ≡ function_count
unfolding function_sets
counted = refl

-- what each set of the list passes, each function's set does
pub each-function : (p : FunctionSet → Bool) → every p function_sets ≡ true → (f : ℕ) → f < function_count → p (function_set_of f) ≡ true
unfolding function_set_of
each-function p e f h =
    every-at none p function_sets function_count f (omega (arith, counted)) h
    (ap (every p) (take_all function_count function_sets (omega (arith, counted))) ∙ e)

-- and what also the empty set passes, the set of every number does
pub each_number : (p : FunctionSet → Bool) → every p function_sets ≡ true → p none ≡ true → (f : ℕ) → p (function_set_of f) ≡ true
each_number p e u f = go (ltb f function_count) refl
  where
    go : (b : Bool) → ltb f function_count ≡ b → p (function_set_of f) ≡ true
    go true h = each-function p e f (ltb-true f function_count h)
    go false h = ap p (no-function (ltb-false f function_count h)) ∙ u

-- ---- facts about listings

-- an unknown function has no rules
pub unknown-none : (f : ℕ) → function_count ≤ f → listing_of f ≡ []
unfolding listing_of regular_rules codes_of bits
unknown-none f h = ap rules_in (no-function h)

pub each-listing : (p : List Signature → Bool) → every (λ s. p (rules_in s)) function_sets ≡ true → p [] ≡ true → (f : ℕ) → p (listing_of f) ≡ true
unfolding listing_of regular_rules codes_of bits
each-listing p e u f = each_number (λ s. p (rules_in s)) e u f

-- at most four arguments, as a rule's record has fields for
pub short-rules : (f : ℕ) → every short? (listing_of f) ≡ true
unfolding function_sets bits regular_rules codes_of listed_rules float_scalars concrete_float_scalars concrete_int_scalars vector_sizes scalar_or_vecn
short-rules f = each-listing (every short?) refl refl f

-- an element of a list that passes a test throughout
pub every_element : (p : Signature → Bool) (rs : List Signature) → every p rs ≡ true → (i : ℕ) (r : Signature) → get_elem? rs i ≡ some r → p r ≡ true
every_element p [] e i r h = let z : ◌≡◌ {A = ℕ} 0 1 = cc in absurd (omega arith)
every_element p (x ∷ rs) e zero r h = let g : x ≡ r = cc in subst (λ (s : Signature). p s ≡ true) g (both_true (p x) (every p rs) e).0
every_element p (x ∷ rs) e (suc i) r h = every_element p rs (both_true (p x) (every p rs) e).1 i r h

pub four-arguments : (f i : ℕ) (r : Signature) → get_elem? (listing_of f) i ≡ some r → length r.arguments ≤ most_arguments
four-arguments f i r e = leb-true _ _ (every_element short? (listing_of f) (short-rules f) i r e)

-- as many arguments as the longest rule has
abbrev long : ℕ → Signature → Bool
long n r = eqb (length r.arguments) n

abbrev alike : List Signature → Bool
alike rs = every (long (longest rs)) rs

alike-rules : (f : ℕ) → alike (listing_of f) ≡ true
unfolding function_sets bits regular_rules codes_of listed_rules float_scalars concrete_float_scalars concrete_int_scalars vector_sizes scalar_or_vecn
alike-rules f = each-listing alike refl refl f

pub one-length : (f i : ℕ) (r : Signature) → get_elem? (listing_of f) i ≡ some r → length r.arguments ≡ longest (listing_of f)
one-length f i r h = eqb-true _ _ (every_element (long (longest (listing_of f))) (listing_of f) (alike-rules f) i r h)

-- at most 63 rules, and at least one
pub few-rules : (f : ℕ) → length (listing_of f) ≤ 63
unfolding function_sets bits regular_rules codes_of listed_rules float_scalars concrete_float_scalars concrete_int_scalars vector_sizes scalar_or_vecn
few-rules f = leb-true _ _ (each-listing (λ rs. leb (length rs) 63) refl refl f)

pub some-rules : (f : ℕ) → f < function_count → 0 < length (listing_of f)
unfolding listing_of function_sets bits regular_rules codes_of listed_rules float_scalars concrete_float_scalars concrete_int_scalars vector_sizes scalar_or_vecn
some-rules f h = ltb-true _ _ (each-function (λ s. ltb 0 (length (rules_in s))) refl f h)

-- ---- facts about Regular sets

abbrev built : FunctionSet → Bool
built (set.Regular r) =
    both (both (ltb r.constructors.0 (2 ^ 13)) (both (ltb r.scalars.0 (2 ^ 12)) (leb r.arity 4)))
    (both (ltb 0 r.scalars.0) (all_conclude r))
built (set.List l) = true

each-built : (f : ℕ) → f < function_count → built (function_set_of f) ≡ true
unfolding function_sets all_conclude bits codes_of concluded_of predeclared_code
each-built f h = each-function built refl f h

-- no rule of a function's Regular set lacks a conclusion
pub regular-built : (f : ℕ) → f < function_count → {r : Regular} → function_set_of f ≡ set.Regular r → Built r
regular-built f h {r} e =
    let b : built (set.Regular r) ≡ true = sym (ap built e) ∙ each-built f h in
    let a = both_true _ _ b in
    let k = both_true _ _ a.0 in
    let s = both_true _ _ k.1 in
    let l = both_true _ _ a.1 in
    record {
      known = record { constructors = ltb-true _ _ k.0; scalars = ltb-true _ _ s.0; arity = leb-true _ _ s.1 };
      some = ltb-true _ _ l.0;
      concludes = l.1;
    }

-- ---- the rule at an index

pub rule_of-set : (f i : ℕ) → f < function_count → {s : FunctionSet} → function_set_of f ≡ s → rule_at f i ≡ rule_in (rules_in s) i
unfolding rule_at listing_of
rule_of-set f i h e = simp (lt-ltb f function_count h, e)

-- ---- sizes: Min has 44 rules, Mix 32 of which 28 are distinct, Transpose 36

abbrev pub same_codes : List ℕ → List ℕ → Bool
same_codes [] [] = true
same_codes [] (y ∷ ys) = false
same_codes (x ∷ xs) [] = false
same_codes (x ∷ xs) (y ∷ ys) = both (eqb x y) (same_codes xs ys)

abbrev same_rule : Signature → Signature → Bool
same_rule r s = both (same_codes r.arguments s.arguments) (eqb r.result s.result)

abbrev differs : Signature → Signature → Bool
differs r s = not (same_rule r s)

-- how many rules there are, equal ones counted once
abbrev pub distinct : List Signature → ℕ
distinct [] = 0
distinct (r ∷ rs) = digit (every (differs r) rs) + distinct rs

pub sizes : (length (listing_of 2) ≡ 44) × (length (listing_of 72) ≡ 32) × (distinct (listing_of 72) ≡ 28) × (length (listing_of 74) ≡ 36)
unfolding listing_of function_set_of function_sets bits regular_rules codes_of listed_rules float_scalars vector_sizes vector matrix scalar_or_vecn
sizes = (refl, refl, refl, refl)
