-- `put_row` meets its contract. The loop's invariant: the types put so far, followed by those of the scalars that are left, are the
-- whole row. Assumes nothing.
use Rattle.std.proofs.Common.{◌≡◌, ◌+◌, ◌^◌, ◌<◌, length, map}
use lib.Seq.{sets}
use Rattle.scalars.specs.Mask.{bits}
use Rattle.scalars.specs.Domain.{scalar_count}
use Rattle.types.specs.TypeCode.{type_code}
use Rattle.rules.specs.RulePaper.{most_listed}
use Rattle.regular.proofs.regular.put_row.Given as goal

abbrev pub invariant-loop-bit : goal.invariant-loop-bit
invariant-loop-bit l = record {
  masked : l.bit-iterator.0 < 2 ^ scalar_count;
  counted : l.found.count + length (bits scalar_count l.bit-iterator.0) ≡ l.fn.found.count + length (bits scalar_count l.fn.scalars.0);
  long : length l.found.codes ≡ most_listed;
  whole : sets l.found.codes l.found.count (map (type_code l.constructor.0) (bits scalar_count l.bit-iterator.0)) ≡ sets l.fn.found.codes l.fn.found.count (map (type_code l.constructor.0) (bits scalar_count l.fn.scalars.0));
}
