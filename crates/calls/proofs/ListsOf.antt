-- The List of given rules from the parts that a loop leaves: the array that holds them, their number and a full mask.
-- Assumes nothing.
use mathlib.Core.Path.{◌≡◌, ap, ap₂, ◌∙◌}
use mathlib.Core.List as L
use mathlib.Core.List.{map}
use Prim.Native.Nat.{ℕ, ◌-◌, ◌^◌}
use lib.ListN.{length}
use Rattle.scalars.specs.Mask.{padded}
use Rattle.rules.specs.Signature.{Signature}
use Rattle.rules.specs.Rule.{blank_rule, rule_of}
use Rattle.lists.specs.Expansion.{list_of}
use Rattle.lists.specs.declared.list.List.{List}
use Rattle.rules.specs.declared.rule.Rule.{Rule}

-- an array that holds the rules, their number and a full mask are their List
pub list-built : (rs : L.List Signature) {rules : L.List Rule} {n m : ℕ} → rules ≡ padded 63 blank_rule (map rule_of rs) → n ≡ length rs → m ≡ 2 ^ n - 1
    → ◌≡◌ {A = List} (record { rules = rules; len = n; members = m }) (list_of rs)
unfolding list_of
list-built rs {rules} {n} {m} a e f =
    ap (λ (x : L.List Rule). record { rules = x; len = n; members = m }) a
    ∙ ap₂ (λ (k q : ℕ). record { rules = padded 63 blank_rule (map rule_of rs); len = k; members = q }) e (f ∙ ap (λ (k : ℕ). 2 ^ k - 1) e)
