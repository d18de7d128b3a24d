-- The paper's number, place and values where a rule is chosen: its index, and the rule; and where a List is answered: its length, its
-- members, and the 63 rules. A refusal has the values of the List of no rules.
use mathlib.Core.List as L
use Rattle.std.specs.Prelude.{Result, ◌∷◌, ℕ, replicate}
use Rattle.scalars.specs.Paper.{unused, Paper, answer_paper}
use Rattle.scalars.specs.declared.refusal.Refusal.{Refusal}
use Rattle.rules.specs.Rule.{blank_rule}
use Rattle.rules.specs.RulePaper.{rule_values, no_rule, rules_values}
use Rattle.lists.specs.declared.list.List.{List}
use Rattle.lists.specs.declared.list.Chosen.{Chosen}

abbrev pub no_choice : L.List ℕ
no_choice = unused ∷ no_rule

abbrev pub chosen_values : Chosen → L.List ℕ
chosen_values c = c.index ∷ rule_values c.rule

abbrev pub chosen_paper : Result Chosen Refusal → Paper
chosen_paper a = answer_paper chosen_values no_choice a

abbrev pub list_values : List → L.List ℕ
list_values l = l.len ∷ l.members ∷ rules_values l.rules

-- a List takes 63 rules
abbrev pub most_rules : ℕ
most_rules = 63

-- the List of no rules
unfoldable pub no_list_values : L.List ℕ
no_list_values = list_values (record { rules = replicate most_rules blank_rule; len = 0; members = 0 })

abbrev pub list_paper : Result List Refusal → Paper
list_paper a = answer_paper list_values no_list_values a
