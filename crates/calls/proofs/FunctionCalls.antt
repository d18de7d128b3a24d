-- The sets of the 79 functions are ones that a call can be asked of, and their rules are the functions' listings.
-- Assumes nothing.
use mathlib.Core.Path.{◌≡◌, refl, sym, ap, ◌∙◌, subst}
use mathlib.Core.Bool.{Bool, true}
use mathlib.Core.List.{List}
use Prim.Native.Nat.{ℕ, ◌≤◌, ◌<◌}
use native.Mathlib.Omega.{arith}
use lib.ListN.{length}
use borrow.Author.Tests.{le-leb}
use Rattle.scalars.specs.Mask.{every, bits}
use Rattle.rules.specs.Signature.{Signature}
use Rattle.rules.proofs.Records.{short?}
use Rattle.lists.specs.List.{most_rules, signatures}
use Rattle.lists.specs.private.Tested.{Valid}
use Rattle.regular.specs.Regular.{regular_rules, codes_of, all_conclude, concluded_of, empty_set?}
use Rattle.types.specs.TypeCode.{predeclared_code}
use Rattle.functions.specs.Sequences.{float_scalars, concrete_float_scalars, concrete_int_scalars, vector_sizes, vector, matrix, scalar_or_vecn}
use Rattle.functions.specs.ListedRules.{listed_rules}
use Rattle.functions.specs.Functions.{function_sets, function_set_of, rules_in, listing_of}
use Rattle.lists.specs.Expansion.{list_of, expanded}
use Rattle.lists.specs.ChosenPaper.{list_paper}
use Rattle.std.specs.Prelude.{Result, Ok}
use Rattle.scalars.specs.declared.refusal.Refusal.{Refusal}
use Rattle.calls.specs.private.CallSets.{Callable, Full}
use Rattle.lists.specs.declared.list.List as lists
use Rattle.functions.specs.declared.mathfunction.FunctionSet.{FunctionSet}
use Rattle.functions.specs.declared.mathfunction.FunctionSet.TheVariants as set
use Rattle.functions.specs.declared.listed_rules.ListFunction.{ListFunction}
use Rattle.functions.specs.declared.listed_rules.ListFunction.TheVariants.{Ldexp, Outer, Refract, Mix, Transpose, ExtractBits, InsertBits}
use Rattle.regular.specs.declared.regular.Regular.{Regular}
use Rattle.calls.proofs.Callables.{callable?, callable_of}
use Rattle.functions.proofs.Places.{few-listed}
use Rattle.functions.proofs.Database.{each_number, few-rules, short-rules}
use Rattle.regular.proofs.Regulars.{known-accepted}
use Rattle.calls.proofs.ListCalls.{held-list}
use Rattle.lists.proofs.Expansions.{signatures_of, valid_of}

-- ---- Regular sets

abbrev sound : FunctionSet → Bool
sound (set.Regular r) = callable? r
sound (set.List l) = true

pub callable : (f : ℕ) (r : Regular) → function_set_of f ≡ set.Regular r → Callable r
unfolding function_sets bits codes_of all_conclude concluded_of predeclared_code empty_set?
callable f r e = callable_of r (sym (ap sound e) ∙ each_number sound refl refl f)

pub regular_listing : (f : ℕ) (r : Regular) → function_set_of f ≡ set.Regular r → listing_of f ≡ regular_rules r
unfolding listing_of
regular_listing f r e = ap rules_in e

-- the List that it expands to
pub regular-list : (f : ℕ) (r : Regular) → function_set_of f ≡ set.Regular r → (l : Result lists.List Refusal) → list_paper l ≡ expanded r → l ≡ Ok (list_of (listing_of f))
unfolding expanded
regular-list f r e l p =
    let able = callable f r e in
    let few : length (regular_rules r) ≤ most_rules = subst (λ (rs : List Signature). length rs ≤ most_rules) (regular_listing f r e) (few-rules f) in
    held-list l (list_of (regular_rules r)) (p ∙ simp (known-accepted r able.known, le-leb _ _ few, able.concludes))
    ∙ ap (λ (rs : List Signature). Ok (list_of rs)) (sym (regular_listing f r e))

-- ---- Lists: each is a List that was tested, and its rules, all of them members, are those of its function

pub short-listed : (l : ListFunction) → every short? (listed_rules l) ≡ true
unfolding listed_rules float_scalars concrete_float_scalars concrete_int_scalars vector_sizes scalar_or_vecn
short-listed Ldexp = refl
short-listed Outer = refl
short-listed Refract = refl
short-listed Mix = refl
short-listed Transpose = refl
short-listed ExtractBits = refl
short-listed InsertBits = refl

pub listed-valid : (l : ListFunction) → Valid (list_of (listed_rules l))
listed-valid l = valid_of (listed_rules l) (short-listed l) (few-listed l)

pub listed-signatures : (l : ListFunction) → signatures (list_of (listed_rules l)) ≡ listed_rules l
listed-signatures l = signatures_of (listed_rules l) (short-listed l)

pub some-listed : (l : ListFunction) → 0 < length (listed_rules l)
unfolding listed_rules float_scalars concrete_float_scalars concrete_int_scalars vector_sizes vector matrix scalar_or_vecn
some-listed Ldexp = omega arith
some-listed Outer = omega arith
some-listed Refract = omega arith
some-listed Mix = omega arith
some-listed Transpose = omega arith
some-listed ExtractBits = omega arith
some-listed InsertBits = omega arith

whole : (l : ListFunction) → Full (list_of (listed_rules l))
unfolding list_of
whole l = record { valid = listed-valid l; all = refl }

pub full : (l : ListFunction) (list : lists.List) → list ≡ list_of (listed_rules l) → Full list
full l list e = subst (λ (x : lists.List). Full x) (sym e) (whole l)

pub listed-listing : (f : ℕ) (l : ListFunction) → function_set_of f ≡ set.List l → listing_of f ≡ listed_rules l
unfolding listing_of
listed-listing f l e = ap rules_in e

pub list_listing : (f : ℕ) (l : ListFunction) (list : lists.List) → function_set_of f ≡ set.List l → list ≡ list_of (listed_rules l) → signatures list ≡ listing_of f
list_listing f l list e q = ap signatures q ∙ listed-signatures l ∙ sym (listed-listing f l e)

-- ---- the List of any function's rules

-- it holds them, all of them members
pub listed_of : (f : ℕ) → signatures (list_of (listing_of f)) ≡ listing_of f
listed_of f = signatures_of (listing_of f) (short-rules f)

pub full_of : (f : ℕ) → Full (list_of (listing_of f))
unfolding list_of
full_of f = record { valid = valid_of (listing_of f) (short-rules f) (few-rules f); all = refl }
