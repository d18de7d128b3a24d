-- `put_row` meets its contract. The loop's invariant: the types put so far, followed by those of the scalars that are left, are the
-- whole row. Assumes nothing.
use Rattle.std.proofs.Common.{◌≡◌, ℕ, List, [], map, length, refl, ap, ap₂, ◌∙◌, arith, length-set}
use lib.Dec.{lit≤}
use lib.ListN.{length-map}
use Rattle.scalars.specs.Mask.{bits}
use Rattle.scalars.specs.Domain.{scalar_count}
use Rattle.scalars.specs.declared.one_bits_iter.OneBitsIter.{OneBitsIter}
use Rattle.types.specs.TypeCode.{type_code}
use Rattle.regular.specs.private.Tested.{put}
use Rattle.scalars.proofs.Walks.{walked-bits, ended-bits}
use Rattle.scalars.proofs.Fills.{fill_step, fill_end}
use Rattle.regular.proofs.regular.put_row.Goals as goal

none : (c : goal.In-None) → bits scalar_count c.loop-bit.bit-iterator.0 ≡ []
none c = ended-bits _ (omega arith) scalar_count c.in-None.ensures.steps.1

pub loop-bit-init : goal.loop-bit-init
loop-bit-init c =
    rw (ap (λ (w : OneBitsIter). w.0) c.into_iter-bit-iterator.ensures.into_iter_gives ∙ c.from.ensures)
    record { masked = c.requires.masked; counted = refl; long = c.requires.long; whole = refl }

pub overflow_add-found : goal.overflow_add-found
overflow_add-found c =
    let turned = walked-bits scalar_count c.loop-bit.bit-iterator.0 (lit≤ tt) c.loop-bit.invariant.masked c.in-Some.ensures.steps.1 c.number.ensures in
    omega (arith, turned.below, c.requires.known)

pub bounds-found-from : goal.bounds-found-from
bounds-found-from c =
    let turned = walked-bits scalar_count c.loop-bit.bit-iterator.0 (lit≤ tt) c.loop-bit.invariant.masked c.in-Some.ensures.steps.1 c.number.ensures in
    omega (arith, c.loop-bit.invariant.counted, ap length turned.numbers, c.requires.room, c.from-in-loop-bit.ensures)

pub overflow_add-found-in-loop-bit : goal.overflow_add-found-in-loop-bit
overflow_add-found-in-loop-bit c =
    let turned = walked-bits scalar_count c.loop-bit.bit-iterator.0 (lit≤ tt) c.loop-bit.invariant.masked c.in-Some.ensures.steps.1 c.number.ensures in
    omega (arith, c.loop-bit.invariant.counted, ap length turned.numbers, c.requires.room)

pub loop-bit-preserved : goal.loop-bit-preserved
loop-bit-preserved c =
    let turned = walked-bits scalar_count c.loop-bit.bit-iterator.0 (lit≤ tt) c.loop-bit.invariant.masked c.in-Some.ensures.steps.1 c.number.ensures in
    rw c.from-in-loop-bit.ensures record {
      masked = turned.less;
      counted = omega (arith, c.loop-bit.invariant.counted, ap length turned.numbers);
      long = simp length-set c.loop-bit.invariant.long;
      whole = fill_step c.loop-bit.found.codes c.loop-bit.found.count (ap (map (type_code c.args.constructor.0)) turned.numbers) c.loop-bit.invariant.whole;
    }

pub returns : goal.returns
unfolding put
returns c =
    ap₂ (λ (a : List ℕ) (n : ℕ). record { codes = a; count = n })
    (fill_end _ _ (ap (map (type_code c.args.constructor.0)) (none c)) c.loop-bit.invariant.whole)
    (omega (arith, ap length (none c), c.loop-bit.invariant.counted, length-map (bits scalar_count c.args.scalars.0) (type_code c.args.constructor.0)))
