-- `start_of` meets its contract: two bytes of the index, low byte first. Assumes nothing.
use native.Mathlib.Omega.{arith}
use Rattle.names.proofs.Lookups.{start_none, start-bytes}
use Rattle.names.proofs.names.start_of.Goals as goal

pub returns-then-word-gt-WORD_COUNT : goal.returns-then-word-gt-WORD_COUNT
returns-then-word-gt-WORD_COUNT c = start_none _ _ c.if-word-gt-WORD_COUNT.true

pub overflow_mul-result : goal.overflow_mul-result
overflow_mul-result c = omega (arith, c.entry-2.ensures.1)

pub overflow_add-result : goal.overflow_add-result
overflow_add-result c = omega (arith, c.entry.ensures.1, c.entry-2.ensures.1)

pub returns : goal.returns
returns c = start-bytes _ _ c.if-word-gt-WORD_COUNT.false c.entry.ensures.0 c.entry-2.ensures.0
