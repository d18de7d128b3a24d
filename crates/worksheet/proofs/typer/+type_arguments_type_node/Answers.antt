-- `type_node` and `type_arguments`, which call each other, answer what the definition of the second pass does: each way through either
-- is a law of proofs/Passes.antt.
-- Assumes nothing.
use native.Mathlib.Omega.{arith}
use Rattle.scalars.proofs.HandedOn.{handed_on}
use Rattle.worksheet.proofs.Passes
use Rattle.worksheet.proofs.typer.+type_arguments_type_node.Goals as goal

pub type_arguments-returns-then-left-eq0 : goal.type_arguments-returns-then-left-eq0
type_arguments-returns-then-left-eq0 t c = Passes.args_none _ _ _ _ _ _ c.if-left-eq0.true

pub type_arguments-type_node-requires : goal.type_arguments-type_node-requires
type_arguments-type_node-requires t c =
    (omega (arith, c.decreases), Passes.node_there _ _ _ c.args.switch _ _ c.if-left-eq0.false c.requires)

pub type_arguments-type_arguments-requires : goal.type_arguments-type_arguments-requires
type_arguments-type_arguments-requires t c =
    let next = Passes.next-there _ _ _ _ _ _ c.if-left-eq0.false _ _ _ c.in_ok-next.ensures c.requires in
    (omega (arith, c.decreases), next.0)

pub type_arguments-returns-in_err-next : goal.type_arguments-returns-in_err-next
type_arguments-returns-in_err-next t c =
    rw (handed_on c.from_residual.ensures.1) (Passes.args-wrong _ _ _ _ _ _ c.if-left-eq0.false _ _ _ c.in_err-next.ensures)

pub type_arguments-returns : goal.type_arguments-returns
type_arguments-returns t c =
    Passes.args-typed _ _ _ _ _ _ c.if-left-eq0.false _ _ _ c.in_ok-next.ensures _ _ _ c.type_arguments.ensures

pub type_node-bounds-bytes-at : goal.type_node-bounds-bytes-at
type_node-bounds-bytes-at t c = let two = Passes.two_bytes _ _ _ _ c.requires in omega arith

pub type_node-overflow_add-code : goal.type_node-overflow_add-code
type_node-overflow_add-code t c = let two = Passes.two_bytes _ _ _ _ c.requires in omega arith

pub type_node-bounds-bytes-at-2 : goal.type_node-bounds-bytes-at-2
type_node-bounds-bytes-at-2 t c = Passes.two_bytes _ _ _ _ c.requires

pub type_node-push-requires : goal.type_node-push-requires
type_node-push-requires t c = (Passes.room _ _ _ _ c.requires).0

pub type_node-line-requires : goal.type_node-line-requires
type_node-line-requires t c = (Passes.room _ _ _ _ c.requires).1

pub type_node-overflow_add-result : goal.type_node-overflow_add-result
type_node-overflow_add-result t c = let two = Passes.two_bytes _ _ _ _ c.requires in omega arith

pub type_node-returns-then-tag-ne-CALL : goal.type_node-returns-then-tag-ne-CALL
type_node-returns-then-tag-ne-CALL t c =
    Passes.leaf-typed _ _ _ _ _ _ _ c.if-tag-ne-CALL.true c.push.ensures (rw c.mark.ensures at c.line.ensures)

pub type_node-overflow_add-count : goal.type_node-overflow_add-count
type_node-overflow_add-count t c = let two = Passes.two_bytes _ _ _ _ c.requires in omega arith

pub type_node-bounds-bytes-at-3 : goal.type_node-bounds-bytes-at-3
type_node-bounds-bytes-at-3 t c = Passes.three-bytes _ _ _ _ c.if-tag-ne-CALL.false c.requires

pub type_node-overflow_add-at : goal.type_node-overflow_add-at
type_node-overflow_add-at t c = let three = Passes.three-bytes _ _ _ _ c.if-tag-ne-CALL.false c.requires in omega arith

pub type_node-type_arguments-requires : goal.type_node-type_arguments-requires
type_node-type_arguments-requires t c =
    let three = Passes.three-bytes _ _ _ _ c.if-tag-ne-CALL.false c.requires in
    (omega (arith, c.decreases), rw c.from.ensures (Passes.args-there _ _ _ _ c.if-tag-ne-CALL.false c.requires))

pub type_node-returns-in_err-past : goal.type_node-returns-in_err-past
type_node-returns-in_err-past t c =
    rw (handed_on c.from_residual.ensures.1) (Passes.call-wrong _ _ _ _ c.if-tag-ne-CALL.false _ _ _ _ (rw c.from.ensures at c.in_err-past.ensures))

pub type_node-type_call-requires : goal.type_node-type_call-requires
type_node-type_call-requires t c =
    Passes.call-room _ _ _ _ c.if-tag-ne-CALL.false c.args.switch _ _ _ (rw c.from.ensures at c.in_ok-past.ensures) c.requires

pub type_node-returns-in_err-type_call : goal.type_node-returns-in_err-type_call
type_node-returns-in_err-type_call t c =
    rw (handed_on c.from_residual-in_err-type_call.ensures.1) (Passes.call-typed _ _ _ _ c.if-tag-ne-CALL.false _ _ _ _ (rw c.from.ensures at c.in_ok-past.ensures) _ _ _ c.in_err-type_call.ensures)

pub type_node-returns : goal.type_node-returns
type_node-returns t c =
    Passes.call-typed _ _ _ _ c.if-tag-ne-CALL.false _ _ _ _ (rw c.from.ensures at c.in_ok-past.ensures) _ _ _ c.in_ok-type_call.ensures
