-- 'Agreement', first half: a Regular set of at most 63 members, without refusal 13, expands to a List.
use mathlib.Core.List as L
use Rattle.std.specs.Prelude.{map, ◌-◌, ◌^◌, leb, length}
use Rattle.scalars.specs.Mask.{choose, padded}
use Rattle.rules.specs.Signature.{Signature}
use Rattle.rules.specs.Rule.{blank_rule, rule_of}
use Rattle.scalars.specs.Paper.{Paper, refusal}
use Rattle.lists.specs.List.{most_rules, accepted_list, no_list_values}
use Rattle.rules.specs.Verdict.{on_verdict}
use Rattle.regular.specs.Regular.{regular_verdict, regular_rules, all_conclude}
use Rattle.lists.specs.declared.list.List.{List}
use Rattle.regular.specs.declared.regular.Regular.{Regular}

-- the List of these rules, in this order, all of them members
unfoldable pub list_of : L.List Signature → List
list_of rs = record { rules = padded most_rules blank_rule (map rule_of rs); len = length rs; members = 2 ^ length rs - 1 }

-- a set's own refusal, then 3 for more than 63 members, then 13 where a rule has no conclusion
unfoldable pub expanded : Regular → Paper
expanded r =
    on_verdict (regular_verdict r)
    (choose (leb (length (regular_rules r)) most_rules)
    (choose (all_conclude r) (accepted_list (list_of (regular_rules r))) (refusal 13 0 no_list_values))
    (refusal 3 0 no_list_values))
    no_list_values
