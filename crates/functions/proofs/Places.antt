-- The rules of the seven Lists by their places: division and remainder of a rule's place give the places of its parts, as the nested
-- sequences list them. Each law is computed over the whole List. Assumes nothing.
use mathlib.Core.Path.{◌≡◌, refl, sym, ap, ◌∙◌, subst}
use mathlib.Core.Bool.{Bool, true, false}
use mathlib.Core.List.{map}
use Prim.Native.Nat.{ℕ, ◌/◌, ◌%◌, ◌≤◌, ◌<◌}
use lib.Dec.{eqb, lit≤}
use lib.ListN.{length, get_or, length-map, get_or-eq_default}
use borrow.Author.Tests.{eq-eqb, ne_eqb}
use Rattle.scalars.specs.Mask.{choose, up_to}
use Rattle.rules.specs.Rule.{blank_rule, rule_of}
use Rattle.functions.specs.Sequences.{float_scalars, concrete_float_scalars, concrete_int_scalars, vector_sizes, vector, matrix, scalar_or_vecn}
use Rattle.functions.specs.ListedRules.{listed_rules}
use Rattle.functions.specs.declared.listed_rules.ListFunction.{ListFunction}
use Rattle.functions.specs.declared.listed_rules.ListFunction.TheVariants.{Ldexp, Outer, Refract, Mix, Transpose, ExtractBits, InsertBits}
use Rattle.rules.specs.declared.rule.Rule.{Rule}
use Rattle.functions.proofs.Runs.{numbered}

-- ---- how many rules there are

-- a place in a List, once it is known which List it is
pub within : {l m : ListFunction} {n k : ℕ} → n ≡ length (listed_rules l) → l ≡ m → k < n → k < length (listed_rules m)
within {k = k} c e h = subst (λ (n : ℕ). k < n) (c ∙ ap (λ (f : ListFunction). length (listed_rules f)) e) h

-- behind the last rule there is no rule
pub behind : (l : ListFunction) {n k : ℕ} → n ≡ length (listed_rules l) → n ≤ k → blank_rule ≡ get_or (map rule_of (listed_rules l)) k blank_rule
behind l {n} {k} c h =
    sym (get_or-eq_default (map rule_of (listed_rules l)) blank_rule {n = k} (subst (λ (m : ℕ). m ≤ k) (c ∙ sym (length-map (listed_rules l) rule_of)) h))

pub few-listed : (l : ListFunction) → length (listed_rules l) ≤ 63
unfolding listed_rules float_scalars concrete_float_scalars concrete_int_scalars vector_sizes scalar_or_vecn
few-listed Ldexp = lit≤ tt
few-listed Outer = lit≤ tt
few-listed Refract = lit≤ tt
few-listed Mix = lit≤ tt
few-listed Transpose = lit≤ tt
few-listed ExtractBits = lit≤ tt
few-listed InsertBits = lit≤ tt

-- ---- each rule by its place

-- the rule at a place of a List
abbrev pub placed : ListFunction → ℕ → Rule
placed l k = get_or (map rule_of (listed_rules l)) k blank_rule

-- a List whose rules are what a function gives of their places
at_place : (l : ListFunction) (g : ℕ → Rule) → map rule_of (listed_rules l) ≡ map g (up_to (length (listed_rules l)))
    → (k : ℕ) → k < length (listed_rules l) → g k ≡ placed l k
at_place l g e k h = sym (numbered blank_rule (map rule_of (listed_rules l)) g (length (listed_rules l)) k e h)

-- the members of the sequences, the last one from there on
abbrev float : ℕ → ℕ
float i = get_or float_scalars i 10

abbrev concrete_float : ℕ → ℕ
concrete_float i = get_or concrete_float_scalars i 10

abbrev concrete_int : ℕ → ℕ
concrete_int i = get_or concrete_int_scalars i 7

abbrev size : ℕ → ℕ
size i = get_or vector_sizes i 4

abbrev shaped : ℕ → ℕ → ℕ
shaped s i = get_or (scalar_or_vecn s) i (vector 4 s)

abbrev unary : ℕ → ℕ → Rule
unary a r = record { a0 = a; a1 = 255; a2 = 255; a3 = 255; count = 1; result = r }

abbrev binary : ℕ → ℕ → ℕ → Rule
binary a b r = record { a0 = a; a1 = b; a2 = 255; a3 = 255; count = 2; result = r }

abbrev ternary : ℕ → ℕ → ℕ → ℕ → Rule
ternary a b c r = record { a0 = a; a1 = b; a2 = c; a3 = 255; count = 3; result = r }

abbrev ldexp_place : ℕ → Rule
ldexp_place k = binary (shaped (concrete_float (k / 4)) (k % 4)) (shaped 2 (k % 4)) (shaped (concrete_float (k / 4)) (k % 4))

pub ldexp_at : (k : ℕ) → k < length (listed_rules Ldexp) → ldexp_place k ≡ placed Ldexp k
unfolding rule_of listed_rules concrete_float_scalars scalar_or_vecn vector
ldexp_at = at_place Ldexp ldexp_place refl

abbrev outer_place : ℕ → Rule
outer_place k =
    binary (vector (size (k / 3 / 3)) (concrete_float (k % 3))) (vector (size (k / 3 % 3)) (concrete_float (k % 3)))
    (matrix (size (k / 3 / 3)) (size (k / 3 % 3)) (concrete_float (k % 3)))

pub outer_at : (k : ℕ) → k < length (listed_rules Outer) → outer_place k ≡ placed Outer k
unfolding rule_of listed_rules concrete_float_scalars vector_sizes vector matrix
outer_at = at_place Outer outer_place refl

abbrev refract_place : ℕ → Rule
refract_place k =
    ternary (vector (size (k / 3)) (concrete_float (k % 3))) (vector (size (k / 3)) (concrete_float (k % 3))) (concrete_float (k % 3))
    (vector (size (k / 3)) (concrete_float (k % 3)))

pub refract_at : (k : ℕ) → k < length (listed_rules Refract) → refract_place k ≡ placed Refract k
unfolding rule_of listed_rules concrete_float_scalars vector_sizes vector
refract_at = at_place Refract refract_place refl

-- even places have the ratio of the operands' type, odd ones that of their scalar
abbrev mixed : Bool → ℕ → Rule
mixed b k =
    let input = shaped (float (k / 2 / 4)) (k / 2 % 4) in
    ternary input input (choose b input (float (k / 2 / 4))) input

abbrev mix_place : ℕ → Rule
mix_place k = mixed (eqb (k % 2) 0) k

mix-at : (k : ℕ) → k < length (listed_rules Mix) → mix_place k ≡ placed Mix k
unfolding rule_of listed_rules float_scalars scalar_or_vecn vector
mix-at = at_place Mix mix_place refl

pub mix_even : (k : ℕ) → k < length (listed_rules Mix) → k % 2 ≡ 0 → mixed true k ≡ placed Mix k
mix_even k h e = ap (λ (b : Bool). mixed b k) (sym (eq-eqb (k % 2) 0 e)) ∙ mix-at k h

pub mix_odd : (k : ℕ) → k < length (listed_rules Mix) → (k % 2 ≡ 0 → ⊥) → mixed false k ≡ placed Mix k
mix_odd k h e = ap (λ (b : Bool). mixed b k) (sym (ne_eqb (k % 2) 0 e)) ∙ mix-at k h

abbrev transpose_place : ℕ → Rule
transpose_place k =
    unary (matrix (size (k / 4 / 3)) (size (k / 4 % 3)) (float (k % 4))) (matrix (size (k / 4 % 3)) (size (k / 4 / 3)) (float (k % 4)))

pub transpose_at : (k : ℕ) → k < length (listed_rules Transpose) → transpose_place k ≡ placed Transpose k
unfolding rule_of listed_rules float_scalars vector_sizes matrix
transpose_at = at_place Transpose transpose_place refl

abbrev extract_place : ℕ → Rule
extract_place k = let input = shaped (concrete_int (k / 4)) (k % 4) in ternary input 5 5 input

pub extract_at : (k : ℕ) → k < length (listed_rules ExtractBits) → extract_place k ≡ placed ExtractBits k
unfolding rule_of listed_rules concrete_int_scalars scalar_or_vecn vector
extract_at = at_place ExtractBits extract_place refl

abbrev insert_place : ℕ → Rule
insert_place k =
    let input = shaped (concrete_int (k / 4)) (k % 4) in
    record { a0 = input; a1 = input; a2 = 5; a3 = 5; count = 4; result = input }

pub insert_at : (k : ℕ) → k < length (listed_rules InsertBits) → insert_place k ≡ placed InsertBits k
unfolding rule_of listed_rules concrete_int_scalars scalar_or_vecn vector
insert_at = at_place InsertBits insert_place refl
