-- The paper's numbers determine a set of either kind: two answers with the same number, place and values are equal. Shown by reading the
-- set back. Assumes nothing.
use mathlib.Core.Path.{◌≡◌, ap}
use mathlib.Core.List as L
use Prim.Native.Nat.{ℕ}
use lib.Dec.{eqb}
use lib.ListN.{get_or, drop}
use Rattle.std.specs.Prelude.{Result}
use Rattle.scalars.specs.Mask.{choose}
use Rattle.scalars.specs.declared.refusal.Refusal.{Refusal}
use Rattle.lists.specs.declared.any_overload_set.AnyOverloadSet.{AnyOverloadSet}
use Rattle.lists.specs.declared.any_overload_set.AnyOverloadSet.TheVariants.{Regular, List}
use Rattle.lists.specs.AnyPaper.{any_values, any_paper}
use Rattle.scalars.proofs.Papers.{answer-one}
use Rattle.regular.proofs.SetPapers.{set_named, set_back}
use Rattle.lists.proofs.ChosenPapers.{list_named, list_back}

abbrev any_named : L.List ℕ → AnyOverloadSet
any_named vs = choose (eqb (get_or vs 0 0) 0) (Regular (set_named (drop 1 vs))) (List (list_named (drop 1 vs)))

any_back : (s : AnyOverloadSet) → any_named (any_values s) ≡ s
any_back (Regular r) = ap Regular (set_back r)
any_back (List l) = ap List (list_back l)

pub any-one : (none : L.List ℕ) (a b : Result AnyOverloadSet Refusal) → any_paper none a ≡ any_paper none b → a ≡ b
any-one none = answer-one any_values none any_named any_back
