-- `consensus_with` meets its contract: an unknown base or component is refused, and the rest is the agreement from the base on.
-- Assumes nothing.
use mathlib.Core.Path.{◌∙◌}
use Rattle.std.proofs.Common.{rules}
use borrow.Author.Tests.{lt-ltb, le-ltb}
use Rattle.types.specs.Conversion.{agreed, consensus_of}
use Rattle.types.proofs.Agreeing.{base_agrees, with_known}
use Rattle.types.proofs.Codes.{unknown_type_refused}
use Rattle.types.proofs.conversion.consensus_with.Goals as goal

pub returns-then-base-ge-COUNT : goal.returns-then-base-ge-COUNT
unfolding consensus_of agreed
returns-then-base-ge-COUNT c = simp (le-ltb _ _ c.if-base-ge-COUNT.true)

pub returns-in_err-all_known : goal.returns-in_err-all_known
unfolding consensus_of agreed
returns-in_err-all_known c = rw (lt-ltb _ _ c.if-base-ge-COUNT.false) (search (rules, unknown_type_refused))

pub returns : goal.returns
unfolding consensus_of agreed
returns c = rw (lt-ltb _ _ c.if-base-ge-COUNT.false) (c.agree_from.ensures ∙ base_agrees _ _ ∙ with_known _ _ _ c.in_ok-all_known.ensures)
