-- The paper of a List with what the tests say of it: that of the List.
use Rattle.std.specs.Prelude.{Result}
use Rattle.scalars.specs.Paper.{Paper, answer_paper}
use Rattle.scalars.specs.declared.refusal.Refusal.{Refusal}
use Rattle.lists.specs.ChosenPaper.{list_values, no_list_values}
use Rattle.lists.specs.declared.tested.TestedList.{TestedList}

abbrev pub tested_paper : Result TestedList Refusal → Paper
tested_paper = answer_paper (λ t. list_values t.list) no_list_values
