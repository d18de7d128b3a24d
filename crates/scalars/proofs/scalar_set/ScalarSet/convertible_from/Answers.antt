-- `ScalarSet::convertible_from` meets its contract: the abstract scalars' sets by name, any other scalar's own.
-- Assumes nothing.
use mathlib.Core.Path.{sym, ◌∙◌}
use borrow.Author.Tests.{eqb-true, eqb-false}
use Rattle.scalars.specs.Domain.{converts}
use Rattle.scalars.specs.Scalar.{convertible_from}
use Rattle.scalars.proofs.Scalars.{own}
use Rattle.scalars.proofs.scalar_set.ScalarSet.convertible_from.Goals as goal

pub returns-then-eq : goal.returns-then-eq
unfolding convertible_from converts
returns-then-eq c = simp (eqb-true _ _ (sym c.if-eq.ensures))

pub returns-then-eq-2 : goal.returns-then-eq-2
unfolding convertible_from converts
returns-then-eq-2 c = simp (eqb-true _ _ (sym c.if-eq-2.ensures))

pub returns-else-eq-2 : goal.returns-else-eq-2
returns-else-eq-2 c = c.singleton.ensures ∙ own _ (eqb-false _ _ (sym c.if-eq.ensures)) (eqb-false _ _ (sym c.if-eq-2.ensures))
