-- `write_node` and `write_rest`, which call each other, write what the definition does: each way through either is a law of
-- proofs/Turns.antt.
-- Assumes nothing.
use mathlib.Core.Path.{refl, ap}
use native.Mathlib.Omega.{arith}
use lib.ListN.{set}
use Rattle.text.specs.Tokens.{open_byte}
use Rattle.text.proofs.Turns
use Rattle.text.proofs.source.Source.+write_node_write_rest.Goals as goal

-- ---- a node

pub write_node-bounds-self-at : goal.write_node-bounds-self-at
write_node-bounds-self-at t c = let two = Turns.two_bytes _ _ _ _ _ c.requires in omega arith

pub write_node-overflow_add-code : goal.write_node-overflow_add-code
write_node-overflow_add-code t c = let two = Turns.two_bytes _ _ _ _ _ c.requires in omega arith

pub write_node-bounds-self-at-2 : goal.write_node-bounds-self-at-2
write_node-bounds-self-at-2 t c = Turns.two_bytes _ _ _ _ _ c.requires

pub write_node-write_leaf-full-requires : goal.write_node-write_leaf-full-requires
write_node-write_leaf-full-requires t c = Turns.leaf_room _ _ _ _ _ c.if-tag-ne-CALL.true _ c.spelling.ensures c.requires

pub write_node-overflow_add-result : goal.write_node-overflow_add-result
write_node-overflow_add-result t c = let two = Turns.two_bytes _ _ _ _ _ c.requires in omega arith

pub write_node-returns-then-tag-ne-CALL : goal.write_node-returns-then-tag-ne-CALL
write_node-returns-then-tag-ne-CALL t c =
    Turns.leaf-written _ _ _ _ _ c.if-tag-ne-CALL.true _ c.spelling.ensures _ _ _
    c.write_leaf-full.ensures.offset c.write_leaf-full.ensures.written

pub write_node-bounds-self-at-3 : goal.write_node-bounds-self-at-3
write_node-bounds-self-at-3 t c = Turns.three_bytes _ _ _ _ _ c.if-tag-ne-CALL.false c.requires

pub write_node-put_all-named-requires : goal.write_node-put_all-named-requires
write_node-put_all-named-requires t c =
    let room = Turns.name_room _ _ _ _ _ c.if-tag-ne-CALL.false _ c.spelling-2.ensures c.requires in
    omega arith

pub write_node-bounds-strip-named : goal.write_node-bounds-strip-named
write_node-bounds-strip-named t c =
    let room = Turns.name_room _ _ _ _ _ c.if-tag-ne-CALL.false _ c.spelling-2.ensures c.requires in
    omega (arith, c.put_all-named.ensures.offset)

pub write_node-bounds-strip-named-then-count-eq0 : goal.write_node-bounds-strip-named-then-count-eq0
write_node-bounds-strip-named-then-count-eq0 t c =
    let room = Turns.name_room _ _ _ _ _ c.if-tag-ne-CALL.false _ c.spelling-2.ensures c.requires in
    omega (arith, c.put_all-named.ensures.offset)

pub write_node-returns-then-count-eq0 : goal.write_node-returns-then-count-eq0
write_node-returns-then-count-eq0 t c =
    Turns.call-written _ _ _ _ _ c.if-tag-ne-CALL.false _ c.spelling-2.ensures _ c.put_all-named.ensures.offset _ _ _ _
    (ap (λ l. set l c.put_all-named.result open_byte) c.put_all-named.ensures.written)
    (Turns.args_none _ _ _ _ _ _ _ _ _ c.if-count-eq0.true refl refl (omega arith))

pub write_node-write_node-one-requires : goal.write_node-write_node-one-requires
write_node-write_node-one-requires t c =
    let three = Turns.three_bytes _ _ _ _ _ c.if-tag-ne-CALL.false c.requires in
    let there = Turns.args-there _ _ _ _ _ c.if-tag-ne-CALL.false _ c.spelling-2.ensures _ c.put_all-named.ensures.offset c.requires in
    (omega (arith, c.decreases), Turns.first-there _ _ _ _ _ _ c.if-count-eq0.false there)

pub write_node-write_rest-requires : goal.write_node-write_rest-requires
write_node-write_rest-requires t c =
    let three = Turns.three_bytes _ _ _ _ _ c.if-tag-ne-CALL.false c.requires in
    let there = Turns.args-there _ _ _ _ _ c.if-tag-ne-CALL.false _ c.spelling-2.ensures _ c.put_all-named.ensures.offset c.requires in
    let next = Turns.others-there _ _ _ _ _ _ c.if-count-eq0.false _ _ _ c.write_node-one.ensures there in
    (omega (arith, c.decreases, next.1), next.0)

pub write_node-returns : goal.write_node-returns
write_node-returns t c =
    Turns.call-written _ _ _ _ _ c.if-tag-ne-CALL.false _ c.spelling-2.ensures _ c.put_all-named.ensures.offset _ _ _ _
    (ap (λ l. set l c.put_all-named.result open_byte) c.put_all-named.ensures.written)
    (Turns.args-written _ _ _ _ _ _ c.if-count-eq0.false _ _ _ c.write_node-one.ensures _ _ c.write_rest.ensures)

-- ---- further arguments

pub write_rest-bounds-strip-made : goal.write_rest-bounds-strip-made
write_rest-bounds-strip-made t c = let room = Turns.close_room _ _ _ _ _ _ c.requires in omega arith

pub write_rest-returns-then-left-eq0 : goal.write_rest-returns-then-left-eq0
write_rest-returns-then-left-eq0 t c = Turns.rest-none _ _ _ _ _ _ _ _ c.if-left-eq0.true refl

pub write_rest-bounds-strip-made-2 : goal.write_rest-bounds-strip-made-2
write_rest-bounds-strip-made-2 t c = let room = Turns.close_room _ _ _ _ _ _ c.requires in omega arith

pub write_rest-bounds-strip-made-3 : goal.write_rest-bounds-strip-made-3
write_rest-bounds-strip-made-3 t c = let room = Turns.comma_room _ _ _ _ _ _ c.if-left-eq0.false c.requires in omega arith

pub write_rest-write_node-one-requires : goal.write_rest-write_node-one-requires
write_rest-write_node-one-requires t c =
    let there = Turns.behind_comma _ _ _ _ _ _ c.if-left-eq0.false c.requires in
    (omega (arith, c.decreases), Turns.first-there _ _ _ _ _ _ c.if-left-eq0.false there)

pub write_rest-write_rest-requires : goal.write_rest-write_rest-requires
write_rest-write_rest-requires t c =
    let there = Turns.behind_comma _ _ _ _ _ _ c.if-left-eq0.false c.requires in
    let two = Turns.two_bytes _ _ _ _ _ (Turns.first-there _ _ _ _ _ _ c.if-left-eq0.false there) in
    let next = Turns.others-there _ _ _ _ _ _ c.if-left-eq0.false _ _ _ c.write_node-one.ensures there in
    (omega (arith, c.decreases, next.1), next.0)

pub write_rest-returns : goal.write_rest-returns
write_rest-returns t c =
    Turns.rest-written _ _ _ _ _ _ c.if-left-eq0.false _ _ _ _ refl
    (Turns.args-written _ _ _ _ _ _ c.if-left-eq0.false _ _ _ c.write_node-one.ensures _ _ c.write_rest.ensures)
