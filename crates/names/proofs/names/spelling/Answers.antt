-- `spelling` meets its contract: its tests are those that `spelling_in` makes. Assumes nothing.
use Rattle.names.proofs.Lookups.{no_word, part_reversed, part_outside, part-inside}
use Rattle.names.proofs.names.spelling.Goals.{then-behind-start-via-then-behind-start, then-behind-start-via-else-behind-start+then-names-behind}
use Rattle.names.proofs.names.spelling.Goals as goal

pub returns-then-word-ge-WORD_COUNT : goal.returns-then-word-ge-WORD_COUNT
returns-then-word-ge-WORD_COUNT c = no_word _ _ _ c.if-word-ge-WORD_COUNT.true

pub returns-then-behind-start : goal.returns-then-behind-start
returns-then-behind-start c =
    let known = c.if-word-ge-WORD_COUNT.false in
    let start = c.start_of-start.ensures in
    let behind = c.start_of-behind.ensures in
    elim c.then-behind-start.branch [
      | then-behind-start-via-then-behind-start w ↦ part_reversed _ _ _ known start behind w.if-behind-start.true
      | then-behind-start-via-else-behind-start+then-names-behind w ↦
          part_outside _ _ _ known start behind w.if-behind-start.false w.if-names-behind.true
    ]

pub returns : goal.returns
returns c =
    part-inside _ _ _ c.if-word-ge-WORD_COUNT.false c.start_of-start.ensures c.start_of-behind.ensures c.if-behind-start.false c.if-names-behind.false
