-- `full_list` meets its contract. The loop's invariant: the records so far, followed by those of the rules that are left, are the whole
-- array. Assumes nothing.
use mathlib.Core.Path.{◌≡◌}
use mathlib.Core.List.{map}
use Prim.Native.Nat.{◌≤◌}
use lib.ListN.{length, drop}
use lib.Seq.{sets}
use Rattle.scalars.specs.Mask.{padded}
use Rattle.rules.specs.Rule.{blank_rule, rule_of}
use Rattle.functions.specs.ListedRules.{listed_rules}
use Rattle.calls.proofs.function_list.full_list.Given as goal

abbrev pub invariant-loop-k : goal.invariant-loop-k
invariant-loop-k l = (l.k ≤ l.n) × (length l.rules ≡ 63) × (sets l.rules l.k (drop l.k (map rule_of (listed_rules l.listed))) ≡ padded 63 blank_rule (map rule_of (listed_rules l.listed)))
