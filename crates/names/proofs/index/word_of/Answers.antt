-- `word_of` meets its contract: the run is compared with the word in its slot. Assumes nothing.
use Rattle.names.proofs.Lookups.{word-there, word-not-there}
use Rattle.names.proofs.index.word_of.Goals as goal

pub returns-then-is_same : goal.returns-then-is_same
returns-then-is_same c = word-there _ _ _ c.slot-word.ensures c.spelling.ensures c.is_same.ensures c.if-is_same.true c.word_at.ensures

pub returns : goal.returns
returns c = word-not-there _ _ _ c.slot-word.ensures c.spelling.ensures c.is_same.ensures c.if-is_same.false
