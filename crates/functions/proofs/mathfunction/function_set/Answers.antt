-- `function_set` meets its contract: each arm's set is that of its functions. First come the arms of single numbers, then those of ranges,
-- then all other numbers. Assumes nothing.
use mathlib.Core.Path.{refl, sym, ap, ◌∙◌}
use mathlib.Core.Logic.{⊎_elim}
use native.Mathlib.Omega.{arith}
use Rattle.functions.specs.FunctionPaper.{function_paper}
use Rattle.functions.specs.Functions.{function_sets}
use Rattle.functions.proofs.Database.{set_at, sets-from, no-function}
use Rattle.functions.proofs.mathfunction.function_set.Goals as goal

pub returns-in-4 : goal.returns-in-4
unfolding function_sets
returns-in-4 c = c.regular.ensures ∙ set_at 4 c.in-4.is

pub returns-in-47 : goal.returns-in-47
unfolding function_sets
returns-in-47 c = c.regular-in-47.ensures ∙ ⊎_elim (set_at 47) (set_at 49) c.in-47.is

pub returns-in-48 : goal.returns-in-48
unfolding function_sets
returns-in-48 c = c.regular-in-48.ensures ∙ ⊎_elim (set_at 48) (set_at 50) c.in-48.is

pub returns-in-56 : goal.returns-in-56
unfolding function_sets
returns-in-56 c = c.regular-in-56.ensures ∙ set_at 56 c.in-56.is

pub returns-in-57 : goal.returns-in-57
unfolding function_sets
returns-in-57 c = c.regular-in-57.ensures ∙ set_at 57 c.in-57.is

pub returns-in-58 : goal.returns-in-58
unfolding function_sets
returns-in-58 c = c.regular-in-58.ensures ∙ set_at 58 c.in-58.is

pub returns-in-59 : goal.returns-in-59
unfolding function_sets
returns-in-59 c = c.regular-in-59.ensures ∙ set_at 59 c.in-59.is

pub returns-in-60 : goal.returns-in-60
unfolding function_sets
returns-in-60 c = c.regular-in-60.ensures ∙ set_at 60 c.in-60.is

pub returns-in-61 : goal.returns-in-61
unfolding function_sets
returns-in-61 c = c.regular-in-61.ensures ∙ set_at 61 c.in-61.is

pub returns-in-62 : goal.returns-in-62
unfolding function_sets
returns-in-62 c = c.regular-in-62.ensures ∙ set_at 62 c.in-62.is

pub returns-in-63 : goal.returns-in-63
unfolding function_sets
returns-in-63 c = set_at 63 c.in-63.is

pub returns-in-64 : goal.returns-in-64
unfolding function_sets
returns-in-64 c = set_at 64 c.in-64.is

pub returns-in-65 : goal.returns-in-65
unfolding function_sets
returns-in-65 c = c.regular-in-65.ensures ∙ set_at 65 c.in-65.is

pub returns-in-66 : goal.returns-in-66
unfolding function_sets
returns-in-66 c = c.regular-in-66.ensures ∙ set_at 66 c.in-66.is

pub returns-in-67 : goal.returns-in-67
unfolding function_sets
returns-in-67 c = c.regular-in-67.ensures ∙ set_at 67 c.in-67.is

pub returns-in-68 : goal.returns-in-68
unfolding function_sets
returns-in-68 c = c.regular-in-68.ensures ∙ set_at 68 c.in-68.is

pub returns-in-69 : goal.returns-in-69
unfolding function_sets
returns-in-69 c = c.regular-in-69.ensures ∙ set_at 69 c.in-69.is

pub returns-in-70 : goal.returns-in-70
unfolding function_sets
returns-in-70 c = c.regular-in-70.ensures ∙ set_at 70 c.in-70.is

pub returns-in-71 : goal.returns-in-71
unfolding function_sets
returns-in-71 c = set_at 71 c.in-71.is

pub returns-in-72 : goal.returns-in-72
unfolding function_sets
returns-in-72 c = set_at 72 c.in-72.is

pub returns-in-73 : goal.returns-in-73
unfolding function_sets
returns-in-73 c = c.regular-in-73.ensures ∙ set_at 73 c.in-73.is

pub returns-in-74 : goal.returns-in-74
unfolding function_sets
returns-in-74 c = set_at 74 c.in-74.is

pub returns-in-75 : goal.returns-in-75
unfolding function_sets
returns-in-75 c = c.regular-in-75.ensures ∙ set_at 75 c.in-75.is

pub returns-in-76 : goal.returns-in-76
unfolding function_sets
returns-in-76 c = c.regular-in-76.ensures ∙ set_at 76 c.in-76.is

pub returns-in-77 : goal.returns-in-77
unfolding function_sets
returns-in-77 c = set_at 77 c.in-77.is

pub returns-in-78 : goal.returns-in-78
unfolding function_sets
returns-in-78 c = set_at 78 c.in-78.is

pub returns-in-0-to-1 : goal.returns-in-0-to-1
unfolding function_sets
returns-in-0-to-1 c = c.regular-in-0-to-1.ensures ∙ sets-from 0 2 refl (omega arith) (omega arith)

pub returns-in-2-to-3 : goal.returns-in-2-to-3
unfolding function_sets
returns-in-2-to-3 c = c.regular-in-2-to-3.ensures ∙ sets-from 2 2 refl (omega arith) (omega arith)

pub returns-in-5-to-30 : goal.returns-in-5-to-30
unfolding function_sets
returns-in-5-to-30 c = c.regular-in-5-to-30.ensures ∙ sets-from 5 26 refl (omega arith) (omega arith)

pub returns-in-31-to-33 : goal.returns-in-31-to-33
unfolding function_sets
returns-in-31-to-33 c = c.regular-in-31-to-33.ensures ∙ sets-from 31 3 refl (omega arith) (omega arith)

pub returns-in-34-to-35 : goal.returns-in-34-to-35
unfolding function_sets
returns-in-34-to-35 c = c.regular-in-34-to-35.ensures ∙ sets-from 34 2 refl (omega arith) (omega arith)

pub returns-in-36-to-41 : goal.returns-in-36-to-41
unfolding function_sets
returns-in-36-to-41 c = c.regular-in-36-to-41.ensures ∙ sets-from 36 6 refl (omega arith) (omega arith)

pub returns-in-42-to-43 : goal.returns-in-42-to-43
unfolding function_sets
returns-in-42-to-43 c = c.regular-in-42-to-43.ensures ∙ sets-from 42 2 refl (omega arith) (omega arith)

pub returns-in-44-to-46 : goal.returns-in-44-to-46
unfolding function_sets
returns-in-44-to-46 c = c.regular-in-44-to-46.ensures ∙ sets-from 44 3 refl (omega arith) (omega arith)

pub returns-in-51-to-52 : goal.returns-in-51-to-52
unfolding function_sets
returns-in-51-to-52 c = c.regular-in-51-to-52.ensures ∙ sets-from 51 2 refl (grind arith) (omega arith)

pub returns-in-53-to-55 : goal.returns-in-53-to-55
unfolding function_sets
returns-in-53-to-55 c = c.regular-in-53-to-55.ensures ∙ sets-from 53 3 refl (omega arith) (omega arith)

pub returns-in_default : goal.returns-in_default
returns-in_default c = ap function_paper (sym (no-function (omega arith)))
