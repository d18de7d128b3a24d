-- The paper's numbers determine the answer to a call by itself: two answers with the same number, place and values are equal.
-- Assumes nothing.
use mathlib.Core.Path.{◌≡◌, refl, ap}
use mathlib.Core.Bool.{Bool, true, false}
use mathlib.Core.List as L
use Prim.Native.Nat.{ℕ}
use lib.Dec.{eqb}
use lib.ListN.{get_or, drop}
use Rattle.std.specs.Prelude.{Result}
use Rattle.scalars.specs.declared.refusal.Refusal.{Refusal}
use Rattle.scalars.proofs.Papers.{answer-one}
use Rattle.types.specs.Operand.{measured_mark, mark_of}
use Rattle.rules.proofs.RulePapers.{rule_named}
use Rattle.lists.specs.ChosenPaper.{no_choice}
use Rattle.calls.specs.CallPaper.{called_values, call_paper}
use Rattle.calls.specs.declared.outcome.Called.{Called}

mark_back : (b : Bool) → eqb (mark_of b) measured_mark ≡ b
mark_back true = refl
mark_back false = refl

abbrev call_in : L.List ℕ → Called
call_in vs = record { chosen = record { index = get_or vs 0 0; rule = rule_named (drop 1 vs) }; measured = eqb (get_or vs 7 0) measured_mark }

call_back : (c : Called) → call_in (called_values c) ≡ c
call_back c = ap (λ (b : Bool). record { chosen = c.chosen; measured = b }) (mark_back c.measured)

pub call-one : (a b : Result Called Refusal) → call_paper a ≡ call_paper b → a ≡ b
call-one = answer-one called_values no_choice call_in call_back
