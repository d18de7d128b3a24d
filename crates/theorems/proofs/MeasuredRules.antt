-- What a rule makes of operands is not measured and abstract, whether a call or a conversion makes it; and the rules of the 79 functions,
-- where none of their arguments is abstract, have no abstract result, which is computed over all of them.
-- Assumes nothing.
use mathlib.Core.Path.{◌≡◌, refl, sym, ap, ◌∙◌}
use mathlib.Core.Bool.{Bool, true, false, not}
use mathlib.Core.List.{List}
use Prim.Native.Nat.{ℕ, ◌<◌}
use native.Mathlib.Omega.{arith}
use lib.Dec.{ltb}
use lib.ListN.{length}
use borrow.Author.Tests.{eqb-true, leb-false, ne_eqb, lt-ltb, not-true}
use Rattle.scalars.specs.Mask.{both, either, every, bits}
use Rattle.scalars.specs.Domain.{abstract_int, abstract_float, abstract?, converts}
use Rattle.types.specs.Domain.{value?, scalar_part, is_abstract}
use Rattle.types.specs.TypeCode.{predeclared_code}
use Rattle.types.specs.Operand.{measured_abstract, any_measured}
use Rattle.types.specs.declared.operand.Operand.{Operand}
use Rattle.rules.specs.Signature.{Signature, same_shape, same_number, reaches, concrete}
use Rattle.regular.specs.Regular.{regular_rules, codes_of, concluded_of}
use Rattle.functions.specs.Sequences.{float_scalars, concrete_float_scalars, concrete_int_scalars, vector_sizes, vector, matrix, scalar_or_vecn}
use Rattle.functions.specs.ListedRules.{listed_rules}
use Rattle.functions.specs.Functions.{function_sets, listing_of}
use Rattle.machine.specs.Machine.{retyped, concluded, agrees}
use Rattle.theorems.specs.Measured.{ConcreteResult, ConcreteResults, OfFunctions}
use Rattle.scalars.proofs.Filters.{both_comm, both_left, both_right}
use Rattle.functions.proofs.Database.{each-listing, every_element}

-- ---- conversions

-- a scalar that is not abstract converts to itself alone
converts-itself : (k l : ℕ) → converts k l ≡ true → abstract? k ≡ false → k ≡ l
unfolding converts
converts-itself k l e h =
    let large = leb-false k abstract_float h in
    eqb-true k l (rw (ne_eqb k abstract_int (λ z. omega arith), ne_eqb k abstract_float (λ z. omega arith)) at e)

-- so a type that is not abstract reaches no abstract one
reaches-concrete : (t a : ℕ) → reaches t a ≡ true → is_abstract t ≡ false → is_abstract a ≡ false
unfolding reaches is_abstract
reaches-concrete t a e h =
    let n = both_right (same_shape t a) (same_number t a) e in
    let values = both_left (both (value? t) (value? a)) (converts (scalar_part t) (scalar_part a)) n in
    let reached = both_right (both (value? t) (value? a)) (converts (scalar_part t) (scalar_part a)) n in
    let concrete : abstract? (scalar_part t) ≡ false =
    sym (ap (λ (b : Bool). both b (abstract? (scalar_part t))) (both_left (value? t) (value? a) values)) ∙ h in
    both_comm (value? a) (abstract? (scalar_part a))
    ∙ ap (λ (b : Bool). both b (value? a)) (ap abstract? (sym (converts-itself (scalar_part t) (scalar_part a) reached concrete)) ∙ concrete)

pub converted-concrete : (o : Operand) (a : ℕ) → reaches o.code a ≡ true → measured_abstract o ≡ false
    → measured_abstract (retyped o a) ≡ false
converted-concrete o a e h = go o.measured h
  where
    go : (b : Bool) → both b (is_abstract o.code) ≡ false → both b (is_abstract a) ≡ false
    go true h = reaches-concrete o.code a e h
    go false h = refl

-- ---- calls

-- of operands whose marks go with the rule; where one is measured, the rule has arguments
pub concluded-concrete : (r : Signature) (os : List Operand) → ConcreteResult r → agrees r os ≡ true
    → (any_measured os ≡ true → 0 < length r.arguments) → measured_abstract (concluded r os) ≡ false
concluded-concrete r os rule e h = go (any_measured os) e h
  where
    go : (b : Bool) → either (not b) (concrete r) ≡ true → (b ≡ true → 0 < length r.arguments) → both b (is_abstract r.result) ≡ false
    go true e h = rule (h refl) e
    go false e h = refl

-- ---- the 79 functions

-- the test of a rule
abbrev concrete_result? : Signature → Bool
concrete_result? r = either (not (both (ltb 0 (length r.arguments)) (concrete r))) (not (is_abstract r.result))

tested : (r : Signature) → concrete_result? r ≡ true → ConcreteResult r
tested r e l h = not-true _ (rw (lt-ltb 0 (length r.arguments) l, h) at e)

listings_tested : (f : ℕ) → every concrete_result? (listing_of f) ≡ true
unfolding function_sets bits regular_rules codes_of concluded_of predeclared_code is_abstract listed_rules float_scalars concrete_float_scalars concrete_int_scalars vector_sizes vector matrix scalar_or_vecn
listings_tested f = each-listing (every concrete_result?) refl refl f

pub of_functions : OfFunctions
unfolding ConcreteResults
of_functions f i r e = tested r (every_element concrete_result? (listing_of f) (listings_tested f) i r e)
