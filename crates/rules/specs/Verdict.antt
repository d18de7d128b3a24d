-- What an operation answers of a set: the set's refusal, or, where it is accepted, what follows from its rules in order.
use Rattle.std.specs.Prelude.{List, [], ◌∷◌, ℕ, max, length}
use Rattle.rules.specs.Signature.{Signature}
use Rattle.scalars.specs.Paper.{Paper, accepted, refusal, when_accepted, unused}

-- what is answered of a set that is accepted, or its refusal with these values
abbrev pub on_verdict : Paper → Paper → List ℕ → Paper
on_verdict p x ws = when_accepted p (λ vs. x) ws

-- whether no rule is left: yes is 1, no is 0
abbrev pub empty_of : List Signature → Paper
empty_of [] = accepted (1 ∷ [])
empty_of (r ∷ rs) = accepted (0 ∷ [])

-- the longest rule's number of arguments
abbrev pub longest : List Signature → ℕ
longest [] = 0
longest (r ∷ rs) = max (length r.arguments) (longest rs)

-- both counts are the longest member's; of no rules, refusal 1
abbrev pub count_of : List Signature → Paper
count_of [] = refusal 1 0 (unused ∷ [])
count_of (r ∷ rs) = accepted (longest (r ∷ rs) ∷ [])
