-- 'A single call': tests the function (7, place 0), that there is a mark for each type (8), each operand in turn (7 for its type or its
-- mark, then 17 if it is measured and abstract, place 1 + index), the count (5, place 0), each argument in turn (6 by its shape, then 16 by
-- its number, place 1 + index), then, if the switch or a measured operand asks it, drops rules with an abstract argument, then asks the
-- preferred rule (1 where none is left). Said over any number of functions and any listing of each.
use Rattle.std.specs.Prelude.{Bool, [], ◌∷◌, ◌++◌, map, ℕ, suc, ◌+◌, min, ltb, eqb, length}
use mathlib.Core.List as L
use Rattle.scalars.specs.Mask.{choose, mask_of}
use Rattle.scalars.specs.Paper.{Paper, accepted, refusal}
use Rattle.types.specs.Domain.{known?}
use Rattle.types.specs.Operand.{mark_of, mark?, operand_of, measured_abstract, operands_of, codes, any_measured, concrete_only}
use Rattle.rules.specs.Signature.{Signature}
use Rattle.rules.specs.Rule.{rule_of}
use Rattle.rules.specs.RulePaper.{rule_values}
use Rattle.lists.specs.Entry.{Entry, number}
use Rattle.lists.specs.ChosenPaper.{no_choice}
use Rattle.calls.specs.Choice.{if_counted, Narrowed, left, emptied, narrow, none_left, Choice, chosen, wrong_count, none_after, none_concrete, concrete_step, resolve_of}

-- ---- a call

-- the chosen rule with its index in the full listing, or the refusal
abbrev pub answered : Choice → Paper
answered (chosen i r) = accepted (i ∷ rule_values (rule_of r))
answered wrong_count = refusal 5 0 no_choice
answered (none_after part k) = refusal (none_left part) (1 + k) no_choice
answered none_concrete = refusal 1 0 no_choice

-- what is wrong with an operand of this type and mark, by its number: an unknown type or mark, then a measured abstract one; 0 for nothing
abbrev pub operand_fault : ℕ → ℕ → ℕ
operand_fault t m =
    choose (known? t) (choose (mark? m) (choose (measured_abstract (operand_of t m)) 17 0) 7) 7

-- the first operand with a fault, counted from k, is refused at 1 + its index; otherwise the answer
abbrev pub if_operands : ℕ → L.List ℕ → L.List ℕ → L.List ℕ → Paper → Paper
if_operands k [] ms vs answer = answer
if_operands k (t ∷ ts) [] vs answer = answer
if_operands k (t ∷ ts) (m ∷ ms) vs answer =
    choose (eqb (operand_fault t m) 0) (if_operands (suc k) ts ms vs answer) (refusal (operand_fault t m) (1 + k) vs)

-- an unknown function is refusal 7 at 0; then as many marks as types, otherwise 8 at the shorter length; then each operand, with these
-- values; then the answer
abbrev pub if_call_known : ℕ → ℕ → L.List ℕ → L.List ℕ → L.List ℕ → Paper → Paper
if_call_known functions f ts ms vs answer =
    choose (ltb f functions)
    (choose (eqb (length ts) (length ms)) (if_operands 0 ts ms vs answer) (refusal 8 (min (length ts) (length ms)) vs))
    (refusal 7 0 vs)

-- behind a chosen rule the result's mark: measured if any operand is
abbrev pub with_mark : Bool → Paper → Paper
with_mark measured (accepted vs) = accepted (vs ++ (mark_of measured ∷ []))
with_mark measured (refusal n p vs) = refusal n p vs

-- by the operands' types and, beside them, their marks
unfoldable pub call_of : ℕ → (ℕ → L.List Signature) → Bool → ℕ → L.List ℕ → L.List ℕ → Paper
call_of functions listing_of switch f ts ms =
    if_call_known functions f ts ms no_choice
    (with_mark (any_measured (operands_of ts ms)) (answered (resolve_of switch (listing_of f) (operands_of ts ms))))

-- ---- the rules that survive the steps of a call

-- the mask of their indices in the full listing; where none is left, refusal 1
abbrev pub members_of : L.List Entry → Paper
members_of [] = refusal 1 0 (0 ∷ [])
members_of (x ∷ xs) = accepted (mask_of (map (λ (y : Entry). y.index) (x ∷ xs)) ∷ [])

abbrev pub survivors_after : Bool → Narrowed → Paper
survivors_after switch (emptied part k) = refusal (none_left part) (1 + k) (0 ∷ [])
survivors_after switch (left s) = members_of (concrete_step switch s)

unfoldable pub survivors_of : Bool → L.List Signature → L.List ℕ → Paper
survivors_of switch rules ts = if_counted rules ts (refusal 5 0 (0 ∷ [])) (survivors_after switch (narrow ts 0 (number 0 rules)))

unfoldable pub survivors_of_call : ℕ → (ℕ → L.List Signature) → Bool → ℕ → L.List ℕ → L.List ℕ → Paper
survivors_of_call functions listing_of switch f ts ms =
    if_call_known functions f ts ms (0 ∷ [])
    (survivors_of (concrete_only switch (any_measured (operands_of ts ms))) (listing_of f) (codes (operands_of ts ms)))
