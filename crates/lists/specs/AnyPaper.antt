-- The paper's number, place and values where a set of either kind is answered.
use mathlib.Core.List as L
use Rattle.std.specs.Prelude.{Result, ◌∷◌, ◌++◌, ℕ, replicate}
use Rattle.scalars.specs.Paper.{Paper, answer_paper}
use Rattle.scalars.specs.declared.refusal.Refusal.{Refusal}
use Rattle.rules.specs.Rule.{blank_rule}
use Rattle.rules.specs.RulePaper.{rules_values}
use Rattle.regular.specs.SetPaper.{regular_values, no_set}
use Rattle.lists.specs.ChosenPaper.{most_rules, list_values, no_list_values}
use Rattle.lists.specs.declared.any_overload_set.AnyOverloadSet.{AnyOverloadSet}
use Rattle.lists.specs.declared.any_overload_set.AnyOverloadSet.TheVariants.{Regular, List}

-- 63 rules, none of them in use
unfoldable pub no_rules : L.List ℕ
no_rules = rules_values (replicate most_rules blank_rule)

-- 0, a Regular set's parts and no rules, or 1 and a List's values
abbrev pub any_values : AnyOverloadSet → L.List ℕ
any_values (Regular r) = 0 ∷ (regular_values r ++ no_rules)
any_values (List l) = 1 ∷ list_values l

-- the empty set of each kind: Regular's EMPTY, and the List of no rules
abbrev pub no_regular : L.List ℕ
no_regular = 0 ∷ (no_set ++ no_rules)

abbrev pub no_list : L.List ℕ
no_list = 1 ∷ no_list_values

-- the empty set of the kind that a set is of
abbrev pub none_like : AnyOverloadSet → L.List ℕ
none_like (Regular r) = no_regular
none_like (List l) = no_list

-- a set, or a refusal, which carries no set: it has the values of the empty set of the kind that was asked
abbrev pub any_paper : L.List ℕ → Result AnyOverloadSet Refusal → Paper
any_paper none a = answer_paper any_values none a
