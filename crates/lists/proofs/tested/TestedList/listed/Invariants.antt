-- `TestedList::listed` meets its contract. The loop's invariant: the records so far, followed by those of the members that are left, are the whole
-- listing. Assumes nothing.
use mathlib.Core.Path.{◌≡◌}
use mathlib.Core.List.{map}
use Prim.Native.Nat.{◌+◌, ◌^◌, ◌<◌}
use lib.ListN.{length}
use lib.Seq.{sets}
use Rattle.scalars.specs.Mask.{select, padded}
use Rattle.rules.specs.Rule.{blank_rule, rule_of}
use Rattle.rules.specs.Listing.{most_listed}
use Rattle.lists.specs.List.{signatures, listing}
use Rattle.lists.proofs.tested.TestedList.listed.Given as goal

abbrev pub invariant-loop-bit : goal.invariant-loop-bit
invariant-loop-bit l = record {
  within : l.bit-iterator.0 < 2 ^ length (signatures l.self.list);
  counted : l.count + length (select (signatures l.self.list) l.bit-iterator.0) ≡ length (listing l.self.list);
  long : length l.rules ≡ most_listed;
  filled : sets l.rules l.count (map rule_of (select (signatures l.self.list) l.bit-iterator.0)) ≡ padded most_listed blank_rule (map rule_of (listing l.self.list));
}
