-- The paper's number, place and values for what a single call comes to, as a call by itself answers it (`answered`).
use mathlib.Core.List as L
use Rattle.std.specs.Prelude.{[], ◌∷◌, ℕ, ◌+◌, ◌%◌, ◌^◌, Result, Ok, Err}
use Rattle.scalars.specs.Paper.{Paper, accepted, refusal}
use Rattle.rules.specs.RulePaper.{rule_values}
use Rattle.lists.specs.ChosenPaper.{no_choice}
use Rattle.lists.specs.declared.list.Chosen.{Chosen}
use Rattle.calls.specs.Choice.{none_left}
use Rattle.calls.specs.declared.outcome.NoRule.{NoRule}
use Rattle.calls.specs.declared.outcome.NoRule.TheVariants.{WrongCount, NoneAfter, NoneConcrete}

-- the refusal with these values, by why no rule is chosen
abbrev pub refused_by : NoRule → L.List ℕ → Paper
refused_by WrongCount vs = refusal 5 0 vs
refused_by (NoneAfter part k) vs = refusal (none_left part) (1 + k) vs
refused_by NoneConcrete vs = refusal 1 0 vs

abbrev pub outcome_paper : Result Chosen NoRule → Paper
outcome_paper (Ok c) = accepted (c.index ∷ rule_values c.rule)
outcome_paper (Err why) = refused_by why no_choice

-- how a call by itself is refused, by why no rule is chosen: at the place behind the operand, in a machine word
abbrev pub refusal_for : NoRule → Paper
refusal_for WrongCount = refusal 5 0 []
refusal_for (NoneAfter part k) = refusal (none_left part) ((k + 1) % 2 ^ 64) []
refusal_for NoneConcrete = refusal 1 0 []
