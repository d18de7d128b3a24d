-- `word_at` meets its contract: its tests are those that `numbered` makes. Assumes nothing.
use mathlib.Core.Path.{refl}
use borrow.Author.Tests.{lt-ltb, le-ltb}
use Rattle.names.proofs.index.word_at.Goals as goal

pub returns-then-word-lt-TYPE_COUNT : goal.returns-then-word-lt-TYPE_COUNT
returns-then-word-lt-TYPE_COUNT c = rw (lt-ltb _ _ c.if-word-lt-TYPE_COUNT.true) refl

pub returns-then-word-lt-WORD_COUNT : goal.returns-then-word-lt-WORD_COUNT
returns-then-word-lt-WORD_COUNT c = rw (le-ltb _ _ c.if-word-lt-TYPE_COUNT.false, lt-ltb _ _ c.if-word-lt-WORD_COUNT.true) refl

pub returns : goal.returns
returns c = rw (le-ltb _ _ c.if-word-lt-TYPE_COUNT.false, le-ltb _ _ c.if-word-lt-WORD_COUNT.false) refl
