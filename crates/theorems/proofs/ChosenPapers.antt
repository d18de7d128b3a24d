-- The paper's numbers determine which rule is chosen, and a List: two answers with the same number, place and values are equal. Assumes nothing.
use mathlib.Core.Path.{◌≡◌, refl}
use mathlib.Core.List as L
use Prim.Native.Nat.{ℕ}
use lib.ListN.{get_or}
use Rattle.std.specs.Prelude.{Result}
use Rattle.scalars.specs.declared.refusal.Refusal.{Refusal}
use Rattle.lists.specs.ChosenPaper.{chosen_values, chosen_paper, no_choice, list_values, no_list_values, list_paper}
use Rattle.lists.specs.declared.list.List.{List}
use Rattle.lists.specs.declared.list.Chosen.{Chosen}
use Rattle.scalars.proofs.Papers.{answer-one}
use Rattle.lists.proofs.ChosenPapers.{list_named, list_back}

abbrev chosen_named : L.List ℕ → Chosen
chosen_named vs = record {
  index = get_or vs 0 0;
  rule = record { a0 = get_or vs 1 0; a1 = get_or vs 2 0; a2 = get_or vs 3 0; a3 = get_or vs 4 0; count = get_or vs 5 0; result = get_or vs 6 0 };
}

pub chosen-one : (a b : Result Chosen Refusal) → chosen_paper a ≡ chosen_paper b → a ≡ b
chosen-one = answer-one chosen_values no_choice chosen_named (λ c. refl)

pub list-one : (a b : Result List Refusal) → list_paper a ≡ list_paper b → a ≡ b
list-one = answer-one list_values no_list_values list_named list_back
