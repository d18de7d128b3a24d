-- An operand that is no value of a scalar, a vector or a matrix, as a predeclared result (157 to 180) is none, matches no rule.
-- Whatever an operand reaches is a value type.
-- Assumes nothing.
use mathlib.Core.Path.{◌≡◌, sym, ◌∙◌}
use mathlib.Core.Bool.{Bool, false, true≢false}
use mathlib.Core.List.{List}
use Prim.Native.Nat.{ℕ, ◌≤◌, ◌<◌}
use lib.ListN.{length, get_or}
use borrow.Author.Tests.{le-ltb}
use Rattle.types.specs.Domain.{other_type}
use Rattle.rules.specs.Signature.{Signature, reaches}
use Rattle.theorems.specs.Taking.{NoRule}

reaches-nothing : (t a : ℕ) → other_type ≤ t → reaches t a ≡ false
unfolding reaches
reaches-nothing t a h = rw (le-ltb t other_type h)

pub matches_no_rule : (switch : Bool) (rules : List Signature) (ts : List ℕ) (k : ℕ) → k < length ts → other_type ≤ get_or ts k 0
    → NoRule switch rules ts
unfolding NoRule
matches_no_rule switch rules ts k lt h i r e t =
    true≢false (sym (t.reached k lt) ∙ reaches-nothing (get_or ts k 0) (get_or r.arguments k 0) h)
