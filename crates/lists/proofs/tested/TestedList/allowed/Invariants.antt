-- `TestedList::allowed` meets its contract. The loop's invariant: the types so far, followed by those of the members that are left, are the whole
-- listing of types, and the rest have the argument if and only if all have it. Assumes nothing.
use mathlib.Core.Path.{◌≡◌}
use mathlib.Core.List.{map}
use Prim.Native.Nat.{◌+◌, ◌^◌, ◌<◌}
use lib.ListN.{length}
use lib.Seq.{sets}
use Rattle.scalars.specs.Mask.{select, padded, every}
use Rattle.scalars.specs.Paper.{unused}
use Rattle.rules.specs.Listing.{most_listed}
use Rattle.rules.specs.Signature.{type_at}
use Rattle.lists.specs.List.{signatures, listing}
use Rattle.rules.proofs.Records.{has_at}
use Rattle.lists.proofs.tested.TestedList.allowed.Given as goal

abbrev pub invariant-loop-bit : goal.invariant-loop-bit
invariant-loop-bit l = record {
  within : l.bit-iterator.0 < 2 ^ length (signatures l.self.list);
  counted : l.count + length (select (signatures l.self.list) l.bit-iterator.0) ≡ length (listing l.self.list);
  long : length l.codes ≡ most_listed;
  filled : sets l.codes l.count (map (type_at l.i) (select (signatures l.self.list) l.bit-iterator.0)) ≡ padded most_listed unused (map (type_at l.i) (listing l.self.list));
  have : every (has_at l.i) (select (signatures l.self.list) l.bit-iterator.0) ≡ every (has_at l.i) (listing l.self.list);
}
