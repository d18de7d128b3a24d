-- What the private functions of src/expression.rt answer. They build no tree: each answers what the definition of the first pass reads,
-- with the tree left out.
use Rattle.std.specs.declared.result.Result.{Result}
use Rattle.std.specs.Prelude.{[], ◌∷◌, ℕ, suc, ◌-◌}
use Rattle.scalars.specs.Paper as paper
use Rattle.scalars.specs.Paper.{Paper, answer_paper}
use Rattle.scalars.specs.declared.refusal.Refusal.{Refusal}
use Rattle.expressions.specs.declared.expression.Past.{Past}
use Rattle.expressions.specs.Tree.{deepest}
use Rattle.expressions.specs.Reading.{Reading, done, refused}

-- the offset behind what was read and the number of nodes, or the fault
abbrev pub step_paper : Result Past Refusal → Paper
step_paper = answer_paper (λ (past : Past). past.at ∷ past.nodes ∷ []) []

-- the same of a reading
abbrev pub step_of : {A : Type 0} → Reading A → Paper
step_of (done x at nodes) = paper.accepted (at ∷ nodes ∷ [])
step_of (refused number place) = paper.refusal number place []

-- the levels that a node at this depth may have, its own included; the root's depth is 1
abbrev pub levels_left : ℕ → ℕ
levels_left depth = suc deepest - depth
