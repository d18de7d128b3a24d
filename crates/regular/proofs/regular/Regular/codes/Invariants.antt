-- `Regular::codes` meets its contract. The loop's invariant: the types found so far, followed by those of the constructors that are
-- left, are all of them. Assumes nothing.
use Rattle.std.proofs.Common.{◌^◌, ◌<◌}
use Rattle.scalars.specs.Mask.{bits}
use Rattle.scalars.specs.Domain.{scalar_count}
use Rattle.types.specs.Domain.{constructor_count}
use Rattle.regular.proofs.Puts.{Rows}
use Rattle.regular.proofs.regular.Regular.codes.Given as goal

abbrev pub invariant-loop-bit : goal.invariant-loop-bit
invariant-loop-bit l = record {
  masked : l.bit-iterator.0 < 2 ^ constructor_count;
  rows : Rows (bits scalar_count l.fn.self.scalars.0) (bits constructor_count l.fn.self.constructors.0) l.found (bits constructor_count l.bit-iterator.0);
}
