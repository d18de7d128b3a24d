-- 'What each answer must determine': the number, the place and the values that the paper gives to each case of an answer. Accepted is
-- number 0 at place 0; a value that a refusal leaves out is `unused`, and a set is the empty one.
use Rattle.std.specs.Prelude.{Bool, List, [], ◌∷◌, ℕ, get_or, replicate, Option, Some, None, Result, Ok, Err}
use Rattle.scalars.specs.Mask.{digit}
use Rattle.scalars.specs.Refusal.{numbered}
use Rattle.scalars.specs.declared.refusal.Refusal.{Refusal}
use Rattle.scalars.specs.declared.scalar_set.Scalar.{Scalar}
use Rattle.scalars.specs.declared.one_bits_iter.OneBit.{OneBit}
use Rattle.scalars.specs.declared.one_bits_iter.OneBitsIter.{OneBitsIter}
use Rattle.scalars.specs.declared.one_bits_iter.Members.{Members}

-- the values of an answer that is accepted; the number, the place and the values of one that is refused
pub data Paper : Type 0 where
  accepted : List ℕ → Paper
  refusal : ℕ → ℕ → List ℕ → Paper

-- what a value, a field or an entry not in use holds
abbrev pub unused : ℕ
unused = 255

abbrev pub number : Paper → ℕ
number (accepted vs) = 0
number (refusal n p vs) = n

abbrev pub place : Paper → ℕ
place (accepted vs) = 0
place (refusal n p vs) = p

abbrev pub values : Paper → List ℕ
values (accepted vs) = vs
values (refusal n p vs) = vs

abbrev pub refused : Refusal → List ℕ → Paper
refused why vs = refusal (numbered why).0 (numbered why).1 vs

-- a refusal by itself has no values
abbrev pub refusal_paper : Refusal → Paper
refusal_paper why = refused why []

-- a value, counted from 0
abbrev pub value : ℕ → Paper → ℕ
value k p = get_or (values p) k unused

-- what follows from an answer that is accepted, or its refusal with these values
abbrev pub when_accepted : Paper → (List ℕ → Paper) → List ℕ → Paper
when_accepted (accepted vs) next ws = next vs
when_accepted (refusal n p vs) next ws = refusal n p ws

-- an answer's values, or its refusal with these values
abbrev pub answer_paper : {A : Type 0} → (A → List ℕ) → List ℕ → Result A Refusal → Paper
answer_paper vs ws (Ok x) = accepted (vs x)
answer_paper vs ws (Err why) = refused why ws

-- ---- no value, or one: a yes (1) or a no (0), a count, a scalar

abbrev pub verdict_paper : Result Unit Refusal → Paper
verdict_paper = answer_paper (λ u. []) []

abbrev pub test_paper : Result Bool Refusal → Paper
test_paper = answer_paper (λ b. digit b ∷ []) (unused ∷ [])

abbrev pub count_paper : Result ℕ Refusal → Paper
count_paper = answer_paper (λ n. n ∷ []) (unused ∷ [])

abbrev pub scalar_paper : Result Scalar Refusal → Paper
scalar_paper = answer_paper (λ s. s.0 ∷ []) (unused ∷ [])

-- ---- a step of a walk: the bit's mask and the bits after it, or nothing

abbrev pub walk_paper : Option OneBit → OneBitsIter → Paper
walk_paper (Some bit) rest = accepted (bit.0 ∷ rest.0 ∷ [])
walk_paper None rest = accepted []

-- ---- the members of a set: how many, and the 16 entries

abbrev pub members_paper : Result Members Refusal → Paper
members_paper = answer_paper (λ m. m.count ∷ m.numbers) (replicate 17 unused)
