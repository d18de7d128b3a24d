-- The paper's numbers determine the set of a function: two answers with the same number, place and values are equal. Shown by reading
-- the answer back. Assumes nothing.
use mathlib.Core.Path.{◌≡◌, refl, sym, ap, ◌∙◌}
use mathlib.Core.List as L
use Prim.Native.Nat.{ℕ}
use lib.Dec.{eqb}
use lib.ListN.{get_or}
use Rattle.scalars.specs.Mask.{choose}
use Rattle.scalars.specs.declared.refusal.Refusal.{Refusal}
use Rattle.scalars.proofs.Papers.{read, one-to-one}
use Rattle.regular.specs.declared.regular.ConclusionRule.{ConclusionRule}
use Rattle.regular.specs.SetPaper.{conclusion_of}
use Rattle.regular.specs.Regular.{empty_regular}
use Rattle.regular.proofs.SetPapers.{conclusion_back}
use Rattle.functions.specs.declared.mathfunction.FunctionSet.{FunctionSet}
use Rattle.functions.specs.declared.mathfunction.FunctionSet.TheVariants.{Regular, List}
use Rattle.functions.specs.declared.listed_rules.ListFunction.{ListFunction}
use Rattle.functions.specs.declared.listed_rules.ListFunction.TheVariants.{Ldexp, Outer, Refract, Mix, Transpose, ExtractBits, InsertBits}
use Rattle.functions.specs.FunctionPaper.{listed_number, function_paper}
use Rattle.functions.specs.Functions.{function_set_of, set_of_function}

abbrev listed_of : ℕ → ListFunction
listed_of n =
    choose (eqb n 0) Ldexp
    (choose (eqb n 1) Outer
    (choose (eqb n 2) Refract
    (choose (eqb n 3) Mix
    (choose (eqb n 4) Transpose
    (choose (eqb n 5) ExtractBits
    InsertBits)))))

listed_back : (l : ListFunction) → listed_of (listed_number l) ≡ l
listed_back Ldexp = refl
listed_back Outer = refl
listed_back Refract = refl
listed_back Mix = refl
listed_back Transpose = refl
listed_back ExtractBits = refl
listed_back InsertBits = refl

abbrev regular_in : ℕ → ℕ → ℕ → ConclusionRule → FunctionSet
regular_in arity constructors scalars conclude = Regular (record {
  arity = arity;
  constructors = record { 0 = constructors };
  scalars = record { 0 = scalars };
  conclude = conclude;
})

abbrev set_in : L.List ℕ → FunctionSet
set_in vs =
    choose (eqb (get_or vs 0 0) 0) (regular_in (get_or vs 1 0) (get_or vs 2 0) (get_or vs 3 0) (conclusion_of (get_or vs 4 0)))
    (List (listed_of (get_or vs 1 0)))

-- no set is refused
abbrev none : Refusal → FunctionSet
none why = Regular empty_regular

function-back : (a : FunctionSet) → read set_in none (function_paper a) ≡ a
unfolding read
function-back (Regular r) =
    ap (λ (k : ConclusionRule). regular_in r.arity r.constructors.0 r.scalars.0 k) (conclusion_back r.conclude)
function-back (List l) = ap List (listed_back l)

pub function-one : (a b : FunctionSet) → function_paper a ≡ function_paper b → a ≡ b
function-one = one-to-one function_paper (read set_in none) function-back

-- what `function_set` answers is the set of the function
pub set_told : (f : ℕ) (a : FunctionSet) {s : FunctionSet} → function_paper a ≡ set_of_function f → a ≡ s → function_set_of f ≡ s
set_told f a e h = sym (function-one a (function_set_of f) e) ∙ h
