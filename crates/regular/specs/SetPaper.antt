-- The paper's number, place and values for an answer about a Regular set; the set in a refusal is the empty one.
use Rattle.std.specs.Prelude.{List, [], ◌∷◌, ℕ, ltb, get_or, Result, Ok, Err}
use Rattle.scalars.specs.Mask.{choose}
use Rattle.scalars.specs.Paper.{Paper, accepted, answer_paper}
use Rattle.scalars.specs.declared.refusal.Refusal.{Refusal}
use Rattle.scalars.specs.declared.refusal.Refusal.TheVariants.{Unknown}
use Rattle.regular.specs.declared.regular.ConclusionRule.{ConclusionRule}
use Rattle.regular.specs.declared.regular.ConclusionRule.TheVariants.{ArgumentType, Scalar, Frexp, Modf, U32, I32, Vec2F, Vec4F, Vec4I, Vec4U}
use Rattle.regular.specs.declared.regular.Regular.{Regular}

-- a Regular set: arity, the two masks, the conclusion's number in the order of the Rust's enum

abbrev pub conclusion_number : ConclusionRule → ℕ
conclusion_number ArgumentType = 0
conclusion_number Scalar = 1
conclusion_number Frexp = 2
conclusion_number Modf = 3
conclusion_number U32 = 4
conclusion_number I32 = 5
conclusion_number Vec2F = 6
conclusion_number Vec4F = 7
conclusion_number Vec4I = 8
conclusion_number Vec4U = 9

-- and the conclusion of a number; from 9 on, the last
unfoldable pub conclusion_of : ℕ → ConclusionRule
conclusion_of n = get_or (ArgumentType ∷ Scalar ∷ Frexp ∷ Modf ∷ U32 ∷ I32 ∷ Vec2F ∷ Vec4F ∷ Vec4I ∷ []) n Vec4U

-- there are ten; another number is refused 7 at 0
abbrev pub conclusion_count : ℕ
conclusion_count = 10

unfoldable pub conclusion_from : ℕ → Result ConclusionRule Refusal
conclusion_from n = choose (ltb n conclusion_count) (Ok (conclusion_of n)) (Err (Unknown 0))

abbrev pub regular_values : Regular → List ℕ
regular_values r = r.arity ∷ r.constructors.0 ∷ r.scalars.0 ∷ conclusion_number r.conclude ∷ []

-- the set of no rules
abbrev pub no_set : List ℕ
no_set = 0 ∷ 0 ∷ 0 ∷ 0 ∷ []

abbrev pub set_paper : Regular → Paper
set_paper r = accepted (regular_values r)

abbrev pub regular_paper : Result Regular Refusal → Paper
regular_paper = answer_paper regular_values no_set
