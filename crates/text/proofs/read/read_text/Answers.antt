-- `read_text` meets its contract: a text that is too long, the root's fault and a token left over are the whole answer, and otherwise there
-- is a tree whose bytes were written, by the laws of proofs/TextReadings.antt. Assumes nothing.
use mathlib.Core.Path.{refl, ◌∙◌}
use Rattle.scalars.proofs.HandedOn.{handed_on}
use Rattle.text.proofs.TextReadings.{too_long, root-fault, tree-room, left_over, read_answer, read_buffer}
use Rattle.text.proofs.read.read_text.Goals as goal

pub returns-then-text-gt-MOST_BYTES : goal.returns-then-text-gt-MOST_BYTES
returns-then-text-gt-MOST_BYTES c =
    let long = too_long _ _ c.if-text-gt-MOST_BYTES.true in
    record { answer = long.0; buffer = long.1 }

pub returns-in_err-root : goal.returns-in_err-root
returns-in_err-root c =
    let fault = root-fault _ _ c.if-text-gt-MOST_BYTES.false _ _
    c.built_in_names-names.ensures c.built_in_index-index.ensures _ _ _ c.in_err-root.ensures in
    rw (handed_on c.from_residual.ensures.1) (record { answer = fault.0; buffer = fault.1 })

pub lend_front-requires : goal.lend_front-requires
lend_front-requires c =
    tree-room c.args.text.now c.args.out.now c.if-text-gt-MOST_BYTES.false _ _
    c.built_in_names-names.ensures c.built_in_index-index.ensures _ _ _ c.in_ok-root.ensures c.blank-strip.ensures

pub returns-in-End : goal.returns-in-End
returns-in-End c =
    let answer = read_answer _ c.args.out.now c.if-text-gt-MOST_BYTES.false _ _
    c.built_in_names-names.ensures c.built_in_index-index.ensures _ _ _ c.in_ok-root.ensures _ c.in-End.ensures.token _ refl
    in
    let buffer = read_buffer _ _ c.if-text-gt-MOST_BYTES.false _ _ c.built_in_names-names.ensures
    c.built_in_index-index.ensures _ _ _ c.in_ok-root.ensures _ c.in-End.ensures.token _ refl c.blank-strip.ensures in
    record { answer = c.lend_front.ensures.answer ∙ answer; buffer = c.lend_front.ensures.buffer ∙ buffer }

pub returns-in_default : goal.returns-in_default
returns-in_default c =
    let over = left_over _ _ c.if-text-gt-MOST_BYTES.false _ _
    c.built_in_names-names.ensures c.built_in_index-index.ensures _ _ _ c.in_ok-root.ensures _ c.next_token.ensures.token _
    c.in_default.not-End c.place.ensures in
    record { answer = over.0; buffer = over.1 }
