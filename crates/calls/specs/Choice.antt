-- 'A single call': the rule that a call means, chosen from its function's listing by the steps of document 01, of which document 02's (iv)
-- makes an operand's two; or what is wrong.
use Rattle.std.specs.Prelude.{Bool, true, false, List, [], ◌∷◌, ℕ, suc, ltb, length}
use Rattle.scalars.specs.Mask.{choose, either}
use Rattle.types.specs.Operand.{codes, any_measured, concrete_only}
use Rattle.types.specs.declared.operand.Operand.{Operand}
use Rattle.rules.specs.Signature.{Signature, fits, concrete}
use Rattle.rules.specs.declared.rule.Part.{Part}
use Rattle.rules.specs.declared.rule.Part.TheVariants.{Shape, Number}
use Rattle.rules.specs.Verdict.{longest}
use Rattle.lists.specs.Entry.{Entry, number, keep}

-- both counts, least and most, are the longest rule's
abbrev pub least_count : List Signature → ℕ
least_count rs = longest rs

abbrev pub most_count : List Signature → ℕ
most_count rs = longest rs

-- a number of operands below the least or above the most, or what follows
abbrev pub if_counted {ℓ} : {A : Type ℓ} → List Signature → List ℕ → A → A → A
if_counted rules ts wrong answer = choose (either (ltb (length ts) (least_count rules)) (ltb (most_count rules) (length ts))) wrong answer

-- what is left after each operand in turn, or the part and the operand that emptied the set
pub data Narrowed : Type 0 where
  left : List Entry → Narrowed
  emptied : Part → ℕ → Narrowed

abbrev pub unless_empty : Narrowed → (List Entry → Narrowed) → List Entry → Narrowed
unless_empty stop next [] = stop
unless_empty stop next (x ∷ xs) = next (x ∷ xs)

-- a step by one part of the operand k, of the type t, and what follows it
abbrev pub part_step : Part → ℕ → ℕ → (List Entry → Narrowed) → List Entry → Narrowed
part_step part k t next s = unless_empty (emptied part k) next (keep (fits part k t) s)

-- each operand by its shape, then by its number, before the next operand
unfoldable pub narrow : List ℕ → ℕ → List Entry → Narrowed
narrow [] k s = left s
narrow (t ∷ ts) k s = part_step Shape k t (part_step Number k t (λ (s' : List Entry). narrow ts (suc k) s')) s

-- the refusal's number where a step by this part empties the set
abbrev pub none_left : Part → ℕ
none_left Shape = 6
none_left Number = 16

-- the rule and its index; a wrong count (5); no rule left after an operand's shape (6) or number (16); none left by the concrete-only
-- step (1)
pub data Choice : Type 0 where
  chosen : ℕ → Signature → Choice
  wrong_count : Choice
  none_after : Part → ℕ → Choice
  none_concrete : Choice

abbrev pub first : List Entry → Choice
first [] = none_concrete
first (x ∷ xs) = chosen x.index x.rule

-- the switch: rules with an abstract argument are dropped
abbrev pub concrete_step : Bool → List Entry → List Entry
concrete_step false s = s
concrete_step true s = keep concrete s

abbrev pub after_operands : Bool → Narrowed → Choice
after_operands switch (emptied part k) = none_after part k
after_operands switch (left s) = first (concrete_step switch s)

unfoldable pub resolve : Bool → List Signature → List ℕ → Choice
resolve switch rules ts = if_counted rules ts wrong_count (after_operands switch (narrow ts 0 (number 0 rules)))

-- document 02, (v): a call is measured if any operand is, and then, as with the switch on, a rule with an abstract argument is dropped
abbrev pub resolve_of : Bool → List Signature → List Operand → Choice
resolve_of switch rules os = resolve (concrete_only switch (any_measured os)) rules (codes os)
