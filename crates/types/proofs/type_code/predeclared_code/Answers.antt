-- `predeclared_code` meets its contract: an unknown constructor or scalar is refused, and what Modf and Frexp do not answer.
-- Assumes nothing.
use mathlib.Core.Logic.{inl, inr}
use Rattle.std.proofs.Common.{rules}
use borrow.Author.Tests.{lt-ltb, le-ltb, le-leb, lt-leb}
use Rattle.types.specs.TypeCode.{predeclared_code}
use Rattle.types.proofs.TypeCodes.{unknown_refused, known_answers}
use Rattle.types.proofs.type_code.predeclared_code.Goals as goal

pub returns-in_err-both_known : goal.returns-in_err-both_known
unfolding predeclared_code
returns-in_err-both_known c = search (rules, unknown_refused)

pub returns-then-k-ge-FIRST_MATRIX : goal.returns-then-k-ge-FIRST_MATRIX
unfolding predeclared_code
returns-then-k-ge-FIRST_MATRIX c =
    elim c.then-k-ge-FIRST_MATRIX.either [
      | inl h ↦ simp (le-ltb _ _ h) (known_answers _ _ _ _ c.in_ok-both_known.ensures)
      | inr (inl h) ↦ simp (lt-ltb _ _ h.0, lt-leb _ _ h.1) (known_answers _ _ _ _ c.in_ok-both_known.ensures)
      | inr (inr h) ↦ simp (lt-ltb _ _ h.0, le-leb _ _ h.1, lt-leb _ _ h.2) (known_answers _ _ _ _ c.in_ok-both_known.ensures)
    ]

pub returns : goal.returns
unfolding predeclared_code
returns c =
    simp (lt-ltb _ _ c.if-k-ge-FIRST_MATRIX.false, le-leb _ _ c.if-s-lt-FIRST_FLOAT.false, le-leb _ _ c.if-s-gt-LAST_FLOAT.false) (known_answers _ _ _ _ c.in_ok-both_known.ensures)
