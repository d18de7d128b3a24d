-- The paper's number, place and value for reading or writing a text: how many bytes were put into the lent buffer, 255 where it is refused.
use Rattle.std.specs.Prelude.{ℕ, [], ◌∷◌, Result}
use Rattle.scalars.specs.Paper.{Paper, answer_paper, unused}
use Rattle.scalars.specs.declared.refusal.Refusal.{Refusal}

abbrev pub text_paper : Result ℕ Refusal → Paper
text_paper = answer_paper (λ n. n ∷ []) (unused ∷ [])
