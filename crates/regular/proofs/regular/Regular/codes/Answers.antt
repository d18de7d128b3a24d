-- `Regular::codes` meets its contract. The loop's invariant: the types found so far, followed by those of the constructors that are
-- left, are all of them. Assumes nothing.
use Rattle.std.proofs.Common.{arith, ap, ◌∙◌}
use lib.Dec.{lit≤}
use Rattle.scalars.specs.declared.one_bits_iter.OneBitsIter.{OneBitsIter}
use Rattle.types.specs.Domain.{constructor_count}
use Rattle.regular.specs.Regular.{codes_of}
use Rattle.scalars.proofs.Walks.{walked-bits, ended-bits}
use Rattle.regular.proofs.Regulars.{pairs-most}
use Rattle.regular.proofs.Puts.{rows_start, rows-room, rows_next, rows_end}
use Rattle.regular.proofs.regular.Regular.codes.Goals as goal

pub loop-bit-init : goal.loop-bit-init
loop-bit-init c =
    rw (ap (λ (w : OneBitsIter). w.0) c.into_iter-bit-iterator.ensures.into_iter_gives ∙ c.from.ensures) record {
      masked = c.requires.constructors;
      rows = rows_start _ _ (pairs-most c.args.self.constructors.0 c.args.self.scalars.0) c.no_codes.ensures;
    }

pub put_row-requires : goal.put_row-requires
put_row-requires c =
    let turned = walked-bits constructor_count c.loop-bit.bit-iterator.0 (lit≤ tt) c.loop-bit.invariant.masked c.in-Some.ensures.steps.1 c.number.ensures in
    record {
      known = turned.below;
      masked = c.requires.scalars;
      room = rows-room c.loop-bit.invariant.rows turned.numbers;
      long = c.loop-bit.invariant.rows.long;
    }

pub loop-bit-preserved : goal.loop-bit-preserved
loop-bit-preserved c =
    let turned = walked-bits constructor_count c.loop-bit.bit-iterator.0 (lit≤ tt) c.loop-bit.invariant.masked c.in-Some.ensures.steps.1 c.number.ensures in
    record {
      masked = turned.less;
      rows = rows_next c.loop-bit.invariant.rows turned.numbers c.put_row.ensures;
    }

pub returns : goal.returns
unfolding codes_of
returns c = rows_end c.loop-bit.invariant.rows (ended-bits _ (omega arith) constructor_count c.in-None.ensures.steps.1)
