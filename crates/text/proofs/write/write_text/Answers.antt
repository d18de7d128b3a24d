-- `write_text` meets its contract: there is a tree whose text was written, by the laws of proofs/WholeTexts.antt. Assumes nothing.
use mathlib.Core.Path.{◌∙◌}
use Rattle.text.proofs.WholeTexts.{root-there, root-fits, root_answer}
use Rattle.text.proofs.write.write_text.Goals as goal

pub write_node-root-requires : goal.write_node-root-requires
write_node-root-requires c =
    root-there _ _ c.in_ok-read_expression.ensures _ _ c.built_in_names-names.ensures c.built_in_index-index.ensures

pub lend_front-requires : goal.lend_front-requires
lend_front-requires c =
    root-fits _ _ c.in_ok-read_expression.ensures _ _ c.built_in_names-names.ensures c.built_in_index-index.ensures _ _ _
    c.blank-strip.ensures c.write_node-root.ensures

pub returns : goal.returns
returns c =
    let answer = root_answer _ _ c.in_ok-read_expression.ensures _ _ c.built_in_names-names.ensures
    c.built_in_index-index.ensures _ _ _ c.blank-strip.ensures c.write_node-root.ensures c.args.out.now in
    record { answer = c.lend_front.ensures.answer ∙ answer.0; buffer = c.lend_front.ensures.buffer ∙ answer.1 }
