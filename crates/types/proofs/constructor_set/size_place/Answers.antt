-- `size_place` meets its contract.
-- Assumes nothing.
use mathlib.Core.Path.{refl}
use mathlib.Core.Logic.{inl, inr}
use native.Mathlib.Omega.{arith}
use borrow.Author.Tests.{lt-ltb, le-ltb}
use Rattle.types.specs.Constructor.{outside_sizes}
use Rattle.types.proofs.constructor_set.size_place.Goals as goal

pub returns-then-n-lt-BI : goal.returns-then-n-lt-BI
unfolding outside_sizes
returns-then-n-lt-BI c = (elim c.then-n-lt-BI.either [ inl h ↦ simp (lt-ltb _ _ h) | inr h ↦ simp (le-ltb _ _ h.0, lt-ltb _ _ h.1) ], refl)

pub returns : goal.returns
unfolding outside_sizes
returns c = (simp (le-ltb _ _ c.if-n-lt-BI.false, le-ltb _ _ c.if-n-gt-QUAD.false), omega arith, omega arith)
