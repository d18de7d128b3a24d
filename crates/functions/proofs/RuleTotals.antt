-- The number of rules of a function, by the kind of its set. Assumes nothing.
use mathlib.Core.Path.{◌≡◌, sym, ◌∙◌}
use mathlib.Core.List.{[], ◌∷◌}
use Prim.Native.Nat.{ℕ, ◌*◌, ◌≤◌, ◌<◌}
use native.Mathlib.Omega.{arith}
use borrow.Author.Tests.{lt-ltb}
use lib.Count.{ones}
use lib.ListN.{length}
use Rattle.scalars.specs.Paper.{accepted}
use Rattle.regular.specs.Regular.{regular_rules}
use Rattle.regular.specs.declared.regular.Regular.{Regular}
use Rattle.regular.proofs.Regulars.{codes-count}
use Rattle.regular.proofs.Listings.{codes-few, rules-count}
use Rattle.functions.specs.Functions.{function_count, function_set_of, rules_in, listing_of}
use Rattle.functions.specs.RuleTotal.{rule_total}
use Rattle.functions.specs.declared.mathfunction.FunctionSet.{FunctionSet}
use Rattle.functions.specs.declared.mathfunction.FunctionSet.TheVariants as set
use Rattle.functions.proofs.Database.{regular-built}

pub total_of_set : (f : ℕ) → f < function_count → {s : FunctionSet} → function_set_of f ≡ s → rule_total f ≡ accepted (length (rules_in s) ∷ [])
unfolding rule_total listing_of
total_of_set f h e = simp (lt-ltb f function_count h, e)

module _ (f : ℕ) (h : f < function_count) {r : Regular} (e : function_set_of f ≡ set.Regular r) where
  -- a rule for each constructor and each scalar
  pub product : ones r.constructors.0 * ones r.scalars.0 ≡ length (regular_rules r)
  product = sym (rules-count r ∙ codes-count r (regular-built f h e).known)

  pub few_in_all : ones r.constructors.0 * ones r.scalars.0 ≤ 156
  few_in_all = omega (arith, product, rules-count r, codes-few r)
