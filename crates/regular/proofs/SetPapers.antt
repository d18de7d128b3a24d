-- The paper's numbers determine each answer about a Regular set: two answers with the same number, place and values are equal.
-- Assumes nothing.
use mathlib.Core.Path.{◌≡◌, refl, sym, ap, ◌∙◌}
use mathlib.Core.List.{List}
use Prim.Native.Nat.{ℕ}
use lib.ListN.{get_or}
use Rattle.std.specs.Prelude.{Result}
use Rattle.scalars.specs.Paper.{Paper, values}
use Rattle.scalars.specs.declared.refusal.Refusal.{Refusal}
use Rattle.regular.specs.SetPaper.{set_paper, regular_paper, regular_values, no_set, conclusion_number, conclusion_of}
use Rattle.scalars.proofs.Papers.{answer-one}
use Rattle.regular.specs.declared.regular.ConclusionRule.{ConclusionRule}
use Rattle.regular.specs.declared.regular.ConclusionRule.TheVariants as conclusion
use Rattle.regular.specs.declared.regular.Regular.{Regular}

-- the set that these values name
abbrev pub set_named : List ℕ → Regular
set_named vs = record {
  arity = get_or vs 0 0;
  constructors = record { 0 = get_or vs 1 0 };
  scalars = record { 0 = get_or vs 2 0 };
  conclude = conclusion_of (get_or vs 3 0);
}

pub conclusion_back : (c : ConclusionRule) → conclusion_of (conclusion_number c) ≡ c
unfolding conclusion_of
conclusion_back conclusion.ArgumentType = refl
conclusion_back conclusion.Scalar = refl
conclusion_back conclusion.Frexp = refl
conclusion_back conclusion.Modf = refl
conclusion_back conclusion.U32 = refl
conclusion_back conclusion.I32 = refl
conclusion_back conclusion.Vec2F = refl
conclusion_back conclusion.Vec4F = refl
conclusion_back conclusion.Vec4I = refl
conclusion_back conclusion.Vec4U = refl

pub set_back : (r : Regular) → set_named (regular_values r) ≡ r
set_back r =
    ap (λ (c : ConclusionRule). record { arity = r.arity; constructors = r.constructors; scalars = r.scalars; conclude = c }) (conclusion_back r.conclude)

pub set-one : (a b : Regular) → set_paper a ≡ set_paper b → a ≡ b
set-one a b e = sym (set_back a) ∙ ap (λ (p : Paper). set_named (values p)) e ∙ set_back b

pub regular-one : (a b : Result Regular Refusal) → regular_paper a ≡ regular_paper b → a ≡ b
regular-one = answer-one regular_values no_set set_named set_back
