-- A rule's record and what it says: the record of what a rule says, says the same. Assumes nothing.
use mathlib.Core.Path.{◌≡◌, refl, ap, ap₂}
use mathlib.Core.Bool.{Bool, not}
use mathlib.Core.List.{List, [], ◌∷◌, map}
use Prim.Native.Nat.{ℕ, zero, suc, ◌≤◌, min}
use native.Mathlib.Omega.{arith}
use lib.Dec.{leb, ltb}
use lib.ListN.{length, take, get_or, replicate, length-take}
use Rattle.scalars.specs.Paper.{unused}
use Rattle.scalars.specs.Mask.{both, every}
use Rattle.types.specs.Domain.{value?, known?, is_abstract}
use Rattle.rules.specs.Signature.{Signature}
use Rattle.rules.specs.Rule.{most_arguments, arguments_of, signature_of, rule_of}
use Rattle.rules.specs.declared.rule.Rule.{Rule}

-- a rule has that argument
abbrev pub has_at : ℕ → Signature → Bool
has_at i r = ltb i (length r.arguments)

-- no type is abstract
abbrev pub all_concrete : List ℕ → Bool
all_concrete az = every (λ a. not (is_abstract a)) az

-- what a rule says is short enough for a record, and its codes are known
abbrev pub short? : Signature → Bool
short? s = leb (length s.arguments) most_arguments

abbrev pub typed? : Signature → Bool
typed? s = both (every value? s.arguments) (known? s.result)

-- the record that is read past an array's end
abbrev pub zero_rule : Rule
zero_rule = record { a0 = 0; a1 = 0; a2 = 0; a3 = 0; count = 0; result = 0 }

four : (ts : List ℕ) → length ts ≤ 4 → take (length ts) (get_or ts 0 unused ∷ get_or ts 1 unused ∷ get_or ts 2 unused ∷ get_or ts 3 unused ∷ []) ≡ ts
four [] h = refl
four (a ∷ []) h = refl
four (a ∷ b ∷ []) h = refl
four (a ∷ b ∷ c ∷ []) h = refl
four (a ∷ b ∷ c ∷ d ∷ []) h = refl
four (a ∷ b ∷ c ∷ d ∷ e ∷ ts) h = absurd (omega arith)

-- a rule of at most four arguments is had back from its record
pub record_says : (s : Signature) → length s.arguments ≤ 4 → signature_of (rule_of s) ≡ s
unfolding arguments_of rule_of
record_says s h = ap (λ (ts : List ℕ). record { arguments = ts; result = s.result }) (four s.arguments h)

-- a record of one type in every field has that type for each argument
pub uniform : (n t result : ℕ) → n ≤ 4 → arguments_of (record { a0 = t; a1 = t; a2 = t; a3 = t; count = n; result = result }) ≡ replicate n t
unfolding arguments_of
uniform zero t result h = refl
uniform (suc zero) t result h = refl
uniform (suc (suc zero)) t result h = refl
uniform (suc (suc (suc zero))) t result h = refl
uniform (suc (suc (suc (suc zero)))) t result h = refl
uniform (suc (suc (suc (suc (suc n))))) t result h = absurd (omega arith)

-- a record holds as many arguments as its count says, but at most four
pub arguments-many : (r : Rule) → length (arguments_of r) ≡ min r.count 4
unfolding arguments_of
arguments-many r = length-take r.count (r.a0 ∷ r.a1 ∷ r.a2 ∷ r.a3 ∷ [])

pub arguments-few : (r : Rule) → length (arguments_of r) ≤ 4
arguments-few r = omega (arith, arguments-many r)

pub says-again : (r : Rule) → signature_of (rule_of (signature_of r)) ≡ signature_of r
says-again r = record_says (signature_of r) (arguments-few r)

pub records_say : (rs : List Rule) → map signature_of (map rule_of (map signature_of rs)) ≡ map signature_of rs
records_say [] = refl
records_say (r ∷ rs) = ap₂ (λ (s : Signature) (ss : List Signature). s ∷ ss) (says-again r) (records_say rs)

-- the count of a record with 255 in the fields not in use
pub clean-count : {r : Rule} → rule_of (signature_of r) ≡ r → length (arguments_of r) ≡ r.count
unfolding rule_of
clean-count e = ap (λ (x : Rule). x.count) e
