-- `size_of` meets its contract: the scalar, the vectors, the matrices.
-- Assumes nothing.
use mathlib.Core.Path.{sym}
use Rattle.types.proofs.Constructors.{scalar_size, vector-size, matrix-size}
use Rattle.types.proofs.constructor_set.size_of.Goals as goal

pub returns-then-k-eq-SCALAR : goal.returns-then-k-eq-SCALAR
returns-then-k-eq-SCALAR c = sym (scalar_size _ c.if-k-eq-SCALAR.true)

pub returns-then-k-lt-FIRST_MATRIX : goal.returns-then-k-lt-FIRST_MATRIX
returns-then-k-lt-FIRST_MATRIX c = sym (vector-size _ c.if-k-eq-SCALAR.false c.if-k-lt-FIRST_MATRIX.true)

pub returns : goal.returns
returns c = sym (matrix-size _ c.if-k-lt-FIRST_MATRIX.false c.requires)
