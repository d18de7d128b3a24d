-- The paper's number, place and value for the survivors of a call: the mask of their indices.
use Rattle.std.specs.Prelude.{[], ◌∷◌, Result}
use Rattle.scalars.specs.Paper.{Paper, answer_paper}
use Rattle.scalars.specs.declared.refusal.Refusal.{Refusal}
use Rattle.lists.specs.declared.walks.RuleSet.{RuleSet}

abbrev pub survivors_paper : Result RuleSet Refusal → Paper
survivors_paper r = answer_paper (λ (m : RuleSet). m.0 ∷ []) (0 ∷ []) r
