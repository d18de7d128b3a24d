-- The paper's number, place and values for a call by itself: the chosen rule's index, its four arguments, their count, its result, and the
-- result's mark.
use mathlib.Core.List as L
use Rattle.std.specs.Prelude.{[], ◌∷◌, ◌++◌, ℕ, Result}
use Rattle.scalars.specs.Paper.{Paper, answer_paper}
use Rattle.scalars.specs.declared.refusal.Refusal.{Refusal}
use Rattle.types.specs.Operand.{mark_of}
use Rattle.rules.specs.RulePaper.{rule_values}
use Rattle.lists.specs.ChosenPaper.{no_choice}
use Rattle.calls.specs.declared.outcome.Called.{Called}

abbrev pub called_values : Called → L.List ℕ
called_values c = (c.chosen.index ∷ rule_values c.chosen.rule) ++ (mark_of c.measured ∷ [])

abbrev pub call_paper : Result Called Refusal → Paper
call_paper r = answer_paper called_values no_choice r
