-- What the tests before a call find: the refusal, or whether an operand is measured.
use Rattle.std.specs.Prelude.{Bool, List, [], ◌∷◌, ℕ, Result}
use Rattle.scalars.specs.Paper.{Paper, accepted, answer_paper}
use Rattle.scalars.specs.declared.refusal.Refusal.{Refusal}
use Rattle.types.specs.Operand.{mark_of, any_mark}

abbrev pub found_paper : Result Bool Refusal → Paper
found_paper r = answer_paper (λ (measured : Bool). mark_of measured ∷ []) [] r

-- where all is in order
abbrev pub in_order : List ℕ → Paper
in_order ms = accepted (mark_of (any_mark ms) ∷ [])
