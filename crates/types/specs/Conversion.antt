-- 'Consensus', and the combination of two scalars, each with its refusals; and request (ii), who gave the scalar.
use Rattle.std.specs.Prelude.{List, [], ◌∷◌, ℕ, suc, ◌+◌, eqb, ltb, length, get_or, Option, Some, None}
use Rattle.scalars.specs.Mask.{choose, both, digit}
use Rattle.scalars.specs.Domain.{converts, scalar_count}
use Rattle.types.specs.Domain.{value?, scalar_part, first_unknown}
use Rattle.scalars.specs.Paper.{Paper, accepted, refusal, when_accepted, unused}
use Rattle.types.specs.TypeCode.{if_both}
use Rattle.types.specs.TypePaper.{left, right, by_base, by_component, no_consensus}
use Rattle.scalars.specs.declared.scalar_set.Scalar.{Scalar}

-- whether a scalar converts to another
unfoldable pub converts_to : ℕ → ℕ → Paper
converts_to a b = if_both (ltb a scalar_count) (ltb b scalar_count) (unused ∷ []) (accepted (digit (converts a b) ∷ []))

-- ---- two scalars

-- no scalar
abbrev pub none : ℕ
none = 255

-- the one that the other converts to, or none
unfoldable pub combination : ℕ → ℕ → ℕ
combination a b = choose (converts a b) b (choose (converts b a) a none)

-- which side gave it: the left, if the right converts to it, so also if both are equal; otherwise the right
unfoldable pub side : ℕ → ℕ → ℕ
side a b = choose (converts b a) left right

-- the scalar, then the side; none is an answer without a value
unfoldable pub combined : ℕ → ℕ → Paper
combined a b = choose (eqb (combination a b) none) (accepted []) (accepted (combination a b ∷ side a b ∷ []))

-- two known scalars are combined; an unknown one is refusal 7 there
unfoldable pub combine_of : ℕ → ℕ → Paper
combine_of a b = if_both (ltb a scalar_count) (ltb b scalar_count) (unused ∷ unused ∷ []) (combined a b)

-- ---- the scalar of a consensus

-- each component in turn combined with the best so far; a component with no scalar, or none in common, is refusal 12 there
unfoldable pub agree : ℕ → ℕ → List ℕ → Paper
agree best i [] = accepted (best ∷ [])
agree best i (t ∷ ts) =
    choose (value? t)
    (choose (eqb (combination best (scalar_part t)) none) (refusal 12 i (unused ∷ []))
    (agree (combination best (scalar_part t)) (suc i) ts))
    (refusal 12 i (unused ∷ []))

-- an unknown type is refusal 7 at 1 + its index, with these values
abbrev pub if_known_all : List ℕ → List ℕ → Paper → Paper
if_known_all ts vs result = choose (ltb (first_unknown ts) (length ts)) (refusal 7 (1 + first_unknown ts) vs) result

-- with no base the first component is the base, and the next is still component 1; over nothing, refusal 11
abbrev pub agree_with_first : List ℕ → Paper
agree_with_first [] = refusal 11 0 (unused ∷ [])
agree_with_first (t ∷ ts) = choose (value? t) (agree (scalar_part t) 1 ts) (refusal 12 0 (unused ∷ []))

-- the scalar of a base, or none, and components; a base with no components answers the base
unfoldable pub agreed : Option Scalar → List ℕ → Paper
agreed (Some s) ts = choose (ltb s.0 scalar_count) (if_known_all ts (unused ∷ []) (agree s.0 0 ts)) (refusal 7 0 (unused ∷ []))
agreed None ts = if_known_all ts (unused ∷ []) (agree_with_first ts)

-- ---- who gave it

-- the number of the first component whose scalar this is
unfoldable pub first_of : ℕ → List ℕ → ℕ
first_of s [] = 0
first_of s (t ∷ ts) = choose (both (value? t) (eqb (scalar_part t) s)) 0 (suc (first_of s ts))

-- the base, if the scalar already was the base's; otherwise the first component whose scalar it is
unfoldable pub giver_of : Option Scalar → List ℕ → ℕ → List ℕ
giver_of (Some b) ts s = choose (eqb b.0 s) by_base (by_component (first_of s ts))
giver_of None ts s = by_component (first_of s ts)

-- an answer's scalar, and behind it who gave it
abbrev pub with_giver : (ℕ → List ℕ) → Paper → Paper
with_giver who p = when_accepted p (λ vs. accepted (get_or vs 0 unused ∷ who (get_or vs 0 unused))) no_consensus

-- the scalar on which base and components agree, and who gave it
unfoldable pub consensus_of : Option Scalar → List ℕ → Paper
consensus_of b ts = with_giver (giver_of b ts) (agreed b ts)
