-- The paper's values for the set of a function: 0 and a Regular set's parts, or 1 and which of the Lists it is.
use Rattle.std.specs.Prelude.{[], ◌∷◌, ℕ}
use Rattle.scalars.specs.Paper.{Paper, accepted, unused}
use Rattle.regular.specs.SetPaper.{regular_values}
use Rattle.functions.specs.declared.mathfunction.FunctionSet.{FunctionSet}
use Rattle.functions.specs.declared.mathfunction.FunctionSet.TheVariants.{Regular, List}
use Rattle.functions.specs.declared.listed_rules.ListFunction.{ListFunction}
use Rattle.functions.specs.declared.listed_rules.ListFunction.TheVariants.{Ldexp, Outer, Refract, Mix, Transpose, ExtractBits, InsertBits}

-- the functions that have a List, in the order of their numbers
abbrev pub listed_number : ListFunction → ℕ
listed_number Ldexp = 0
listed_number Outer = 1
listed_number Refract = 2
listed_number Mix = 3
listed_number Transpose = 4
listed_number ExtractBits = 5
listed_number InsertBits = 6

abbrev pub function_paper : FunctionSet → Paper
function_paper (Regular r) = accepted (0 ∷ regular_values r)
function_paper (List l) = accepted (1 ∷ listed_number l ∷ unused ∷ unused ∷ unused ∷ [])
