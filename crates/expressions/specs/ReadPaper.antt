-- The paper's number, place and value for what the first pass answers: how many nodes there are, 255 where the expression is refused.
use Rattle.std.specs.Prelude.{ℕ, [], ◌∷◌}
use Rattle.std.specs.declared.result.Result.{Result}
use Rattle.scalars.specs.Paper.{Paper, answer_paper, unused}
use Rattle.scalars.specs.declared.refusal.Refusal.{Refusal}

abbrev pub read_paper : Result ℕ Refusal → Paper
read_paper = answer_paper (λ n. n ∷ []) (unused ∷ [])
