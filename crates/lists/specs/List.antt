-- 'List': rules in order of preference and a mask of those that are left, and what each operation answers of them.
use mathlib.Core.List as L
use Rattle.std.specs.Prelude.{[], ◌∷◌, map, ℕ, ◌-◌, ◌^◌, leb, ltb, length, take}
use Rattle.scalars.specs.Mask.{choose, both, every, select, sift, padded}
use Rattle.types.specs.Domain.{known?}
use Rattle.rules.specs.Signature.{Signature, type_at}
use Rattle.lists.specs.Entry.{Entry, number}
use Rattle.rules.specs.Verdict.{on_verdict, empty_of, count_of}
use Rattle.rules.specs.Rule.{blank_rule, signature_of, rule_of, known_rule, short_rule, passes}
use Rattle.rules.specs.Listing.{accepted_listing, no_listing, accepted_types, no_types}
use Rattle.scalars.specs.Paper.{unused, Paper, accepted, refusal}
use Rattle.rules.specs.RulePaper.{rule_values}
use Rattle.lists.specs.ChosenPaper.{list_values, no_choice}
pub use Rattle.lists.specs.ChosenPaper.{most_rules, no_list_values}
use Rattle.lists.specs.declared.list.List.{List}
use Rattle.rules.specs.declared.rule.Rule.{Rule}
use Rattle.rules.specs.declared.rule.Part.{Part}
use Rattle.rules.specs.declared.rule.Keep.{Keep}
use Rattle.rules.specs.declared.rule.Keep.TheVariants.{Argument}

-- its rules, what they say, and the members in order of preference
abbrev pub held : List → L.List Rule
held l = take l.len l.rules

unfoldable pub signatures : List → L.List Signature
signatures l = map signature_of (held l)

unfoldable pub listing : List → L.List Signature
listing l = select (signatures l) l.members

-- the same, each with its index
unfoldable pub entries : List → L.List Entry
entries l = select (number 0 (signatures l)) l.members

unfoldable pub accepted_list : List → Paper
accepted_list l = accepted (list_values l)

-- 255 in what is not in use
unfoldable pub clean_list : List → List
clean_list l = record { rules = padded most_rules blank_rule (map rule_of (signatures l)); len = l.len; members = l.members }

-- an unknown code, or a member outside the length, is refusal 7; then more than 63 rules, or a rule of more than four arguments, is 3
unfoldable pub verdict_of : List → Paper
verdict_of l =
    choose (both (every known_rule (held l)) (ltb l.members (2 ^ l.len)))
    (choose (both (leb l.len most_rules) (every short_rule (held l))) (accepted []) (refusal 3 0 []))
    (refusal 7 0 [])

unfoldable pub checked_list : List → Paper
checked_list l = on_verdict (verdict_of l) (accepted_list (clean_list l)) no_list_values

-- the first n rules, all of them members
unfoldable pub from_rules : L.List Rule → ℕ → Paper
from_rules rules n = checked_list (record { rules = rules; len = n; members = choose (leb n most_rules) (2 ^ n - 1) 0 })

-- a step leaves the members that pass
unfoldable pub kept : Keep → List → List
kept k l = record { rules = l.rules; len = l.len; members = sift (passes k) (signatures l) l.members }

unfoldable pub list_step : Keep → List → Paper
list_step k l = on_verdict (verdict_of l) (accepted_list (kept k (clean_list l))) no_list_values

-- an operand's type above 180 is refusal 7
unfoldable pub list_arg : Part → ℕ → ℕ → List → Paper
list_arg part i t l = choose (known? t) (list_step (Argument part i t) l) (refusal 7 0 no_list_values)

unfoldable pub list_empty : List → Paper
list_empty l = on_verdict (verdict_of l) (empty_of (listing l)) (unused ∷ [])

unfoldable pub list_count : List → Paper
list_count l = on_verdict (verdict_of l) (count_of (listing l)) (unused ∷ [])

-- the first member, with its index; of no rules, refusal 1
abbrev pub preferred_of : L.List Entry → Paper
preferred_of [] = refusal 1 0 no_choice
preferred_of (x ∷ xs) = accepted (x.index ∷ rule_values (rule_of x.rule))

unfoldable pub list_preferred : List → Paper
list_preferred l = on_verdict (verdict_of l) (preferred_of (entries l)) no_choice

unfoldable pub list_listing : List → Paper
list_listing l = on_verdict (verdict_of l) (accepted_listing (listing l)) no_listing

-- the types at an argument; where some member lacks it, refusal 4
unfoldable pub allowed_of : ℕ → L.List Signature → Paper
allowed_of i rs = choose (every (λ (r : Signature). ltb i (length r.arguments)) rs) (accepted_types (map (type_at i) rs)) (refusal 4 i no_types)

unfoldable pub list_allowed : ℕ → List → Paper
list_allowed i l = on_verdict (verdict_of l) (allowed_of i (listing l)) no_types
