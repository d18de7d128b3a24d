-- `cleaned` meets its contract. The loop's invariant: the records so far, followed by those of the rules that are left, are the whole
-- array. Assumes nothing.
use mathlib.Core.Path.{◌≡◌}
use mathlib.Core.List.{List, map}
use lib.ListN.{length, drop}
use lib.Seq.{sets}
use Rattle.lists.specs.List.{most_rules}
use Rattle.scalars.specs.Mask.{padded}
use Rattle.rules.specs.Rule.{blank_rule, signature_of, rule_of}
use Rattle.rules.specs.declared.rule.Rule.{Rule}
use Rattle.lists.proofs.list.cleaned.Given as goal

abbrev pub records : List Rule → List Rule
records rs = map rule_of (map signature_of rs)

abbrev pub invariant-loop-i : goal.invariant-loop-i
invariant-loop-i l = record {
  long : length l.out ≡ most_rules;
  filled : sets l.out l.i (records (drop l.i l.rules)) ≡ padded most_rules blank_rule (records l.rules);
}
