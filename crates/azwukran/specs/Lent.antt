-- An answer whose value is a mask over n rules, where the mask goes into lent bytes.
use Rattle.std.specs.Prelude.{List, [], ◌∷◌, ℕ, get_or, Result}
use Rattle.scalars.specs.Paper.{Paper, accepted, refusal, when_accepted, answer_paper}
use Rattle.scalars.specs.declared.refusal.Refusal.{Refusal}
use Rattle.lending.specs.Masks.{room_for, lent_after}

-- its own refusal, then 10 with the bytes needed where there are fewer
unfoldable pub in_room : ℕ → List ℕ → Paper → Paper
in_room n out p = when_accepted p (λ vs. room_for n out) []

-- what the lent bytes then hold: the mask in front, where it is accepted and has room; otherwise what stood there
unfoldable pub lent_by : ℕ → Paper → List ℕ → List ℕ
lent_by n (accepted vs) out = lent_after n (get_or vs 0 0) out
lent_by n (refusal k p vs) out = out

-- the mask of the members, of a List that is answered
abbrev pub members_left : Paper → Paper
members_left p = when_accepted p (λ vs. accepted (get_or vs 1 0 ∷ [])) (0 ∷ [])

-- a mask that is answered; a refusal's is empty
abbrev pub mask_left : Result ℕ Refusal → Paper
mask_left = answer_paper (λ m. m ∷ []) (0 ∷ [])
