-- `write_leaf` meets its contract: `measured`, a space and the name, or the name alone. Assumes nothing.
use native.Mathlib.Omega.{arith}
use Rattle.text.proofs.Turns.{word_room, word-written, name_alone, name_written}
use Rattle.text.proofs.writer.write_leaf.Goals as goal

pub put_all-full-requires : goal.put_all-full-requires
put_all-full-requires c =
    let room = word_room c.args.name.now c.args.at c.if-measured.true _ c.measured_name.ensures c.requires in
    omega arith

pub bounds-strip-full : goal.bounds-strip-full
bounds-strip-full c =
    let room = word_room c.args.name.now c.args.at c.if-measured.true _ c.measured_name.ensures c.requires in
    omega (arith, c.put_all-full.ensures.offset)

pub put_all-requires : goal.put_all-requires
put_all-requires c =
    let room = word_room c.args.name.now c.args.at c.if-measured.true _ c.measured_name.ensures c.requires in
    omega (arith, c.put_all-full.ensures.offset)

pub returns-then-measured : goal.returns-then-measured
returns-then-measured c =
    let both = word-written _ _ c.if-measured.true _ c.measured_name.ensures _ _ _ _ _ c.put_all-full.ensures.offset
    c.put_all-full.ensures.written c.put_all.ensures.offset c.put_all.ensures.written in
    record { offset = both.0; written = both.1 }

pub put_all-requires-2 : goal.put_all-requires-2
put_all-requires-2 c = name_alone _ _ c.if-measured.false c.requires

pub returns : goal.returns
returns c =
    let both = name_written _ _ c.if-measured.false _ _ _ c.put_all-2.ensures.offset c.put_all-2.ensures.written in
    record { offset = both.0; written = both.1 }
