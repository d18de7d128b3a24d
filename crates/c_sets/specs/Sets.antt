-- What is asked of a set made by hand, from the numbers and bytes that a caller hands in; or why they are no set.
use mathlib.Core.List as L
use Rattle.std.specs.Prelude.{map, ℕ, ◌+◌, ◌*◌, ◌/◌, ◌%◌, eqb, leb, ltb, length, get_or, drop}
use Rattle.scalars.specs.Mask.{choose, up_to}
use Rattle.scalars.specs.Paper.{Paper, refusal, when_accepted}
use Rattle.rules.specs.Rule.{blank_rule}
use Rattle.rules.specs.RulePaper.{no_rule}
use Rattle.rules.specs.Verdict.{on_verdict}
use Rattle.rules.specs.declared.rule.Rule.{Rule}
use Rattle.regular.specs.Regular.{regular_of, regular_verdict, regular_rules, all_conclude}
use Rattle.regular.specs.SetPaper.{conclusion_of}
use Rattle.regular.specs.declared.regular.Regular.{Regular}
use Rattle.functions.specs.Functions.{rule_in}
use Rattle.lists.specs.List.{most_rules}
use Rattle.lists.specs.declared.list.List.{List}
use Rattle.lending.specs.Masks.{mask_read}

-- ---- a Regular set: arity, the two masks, the conclusion's number

-- what is asked of the set; there are ten conclusions, and an unknown one is refusal 7
unfoldable pub of_regular : ℕ → ℕ → ℕ → ℕ → (Regular → Paper) → L.List ℕ → Paper
of_regular arity constructors scalars conclusion ask none =
    choose (ltb conclusion 10) (ask (regular_of arity constructors scalars (conclusion_of conclusion))) (refusal 7 0 none)

-- the rule at an index of the listing; where some rule has no conclusion, refusal 13, then 7 at 1 for an unknown index
unfoldable pub regular_rule_at : ℕ → Regular → Paper
regular_rule_at i r =
    on_verdict (regular_verdict r) (choose (all_conclude r) (rule_in (regular_rules r) i) (refusal 13 0 no_rule)) no_rule

-- ---- a List: six bytes a rule, and the mask of the members as bytes

-- the rule that six numbers are: four arguments, their count, the result
abbrev pub rule_named : L.List ℕ → Rule
rule_named vs =
    record { a0 = get_or vs 0 0; a1 = get_or vs 1 0; a2 = get_or vs 2 0; a3 = get_or vs 3 0; count = get_or vs 4 0; result = get_or vs 5 0 }

-- the k-th rule; behind the last whole one, the blank rule
unfoldable pub byte_rule : L.List ℕ → ℕ → Rule
byte_rule s k = choose (leb (6 * k + 6) (length s)) (rule_named (drop (6 * k) s)) blank_rule

-- the rules, as far as the array of a List holds them
unfoldable pub byte_rules : L.List ℕ → L.List Rule
byte_rules s = map (byte_rule s) (up_to most_rules)

-- how many rules there are
abbrev pub rules_handed : L.List ℕ → ℕ
rules_handed s = length s / 6

-- what is asked of the List; a rule cut short is refusal 8 where it begins, then the mask has its own refusals
unfoldable pub of_list : L.List ℕ → L.List ℕ → (List → Paper) → L.List ℕ → Paper
of_list s ms ask none =
    choose (eqb (length s % 6) 0)
    (when_accepted (mask_read (rules_handed s) ms) (λ vs. ask (record { rules = byte_rules s; len = rules_handed s; members = get_or vs 0 0 })) none)
    (refusal 8 (rules_handed s * 6) none)
