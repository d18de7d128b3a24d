-- `rule_in` meets its contract: its test is the one that `byte_rule` makes, and where it holds all six bytes are there.
-- Assumes nothing.
use borrow.Author.Tests.{le-leb, lt-leb}
use Rattle.c_sets.specs.Sets.{byte_rule}
use native.Mathlib.Nat.{add-zero}
use lib.Seq.{get_or-drop}
use Rattle.c_sets.proofs.list_parts.rule_in.Goals as goal

pub returns-then-bytes-at : goal.returns-then-bytes-at
unfolding byte_rule
returns-then-bytes-at c = rw (lt-leb _ _ c.if-bytes-at.true)

pub returns : goal.returns
unfolding byte_rule
returns c = simp (le-leb _ _ c.if-bytes-at.false, get_or-drop, add-zero)
