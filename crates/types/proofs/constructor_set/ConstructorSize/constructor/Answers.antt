-- `ConstructorSize::constructor` meets its contract: a size that does not exist is refused.
-- Assumes nothing.
use mathlib.Core.Path.{ap}
use mathlib.Core.List.{[], ◌∷◌}
use Prim.Native.Nat.{ℕ}
use native.Mathlib.Omega.{arith}
use Rattle.std.proofs.Common.{rules}
use Rattle.scalars.specs.Paper.{accepted}
use Rattle.types.specs.Constructor.{constructor_of}
use Rattle.types.proofs.constructor_set.ConstructorSize.constructor.Goals as goal

pub returns-in_err-size_place-in-Vector : goal.returns-in_err-size_place-in-Vector
unfolding constructor_of
returns-in_err-size_place-in-Vector c = rw c.in-Vector.is (search rules)

pub returns-in_err-size_place-in-Matrix : goal.returns-in_err-size_place-in-Matrix
unfolding constructor_of
returns-in_err-size_place-in-Matrix c = rw c.in-Matrix.is (search rules)

pub returns-in_err-size_place-in-Matrix-2 : goal.returns-in_err-size_place-in-Matrix-2
unfolding constructor_of
returns-in_err-size_place-in-Matrix-2 c = rw c.in-Matrix.is (search rules)

pub returns-in-Scalar : goal.returns-in-Scalar
unfolding constructor_of
returns-in-Scalar c = rw c.in-Scalar.is

pub returns-in_ok-size_place-in-Vector : goal.returns-in_ok-size_place-in-Vector
unfolding constructor_of
returns-in_ok-size_place-in-Vector c =
    let (o, l, e) = c.in_ok-size_place-in-Vector.ensures in
    rw (c.in-Vector.is, o) (ap (λ (k : ℕ). accepted (k ∷ [])) (omega (arith, e)))

pub returns-in_ok-size_place-in-Matrix-2 : goal.returns-in_ok-size_place-in-Matrix-2
unfolding constructor_of
returns-in_ok-size_place-in-Matrix-2 c =
    let (o, l, e) = c.in_ok-size_place-in-Matrix.ensures in
    let (p, m, f) = c.in_ok-size_place-in-Matrix-2.ensures in
    rw (c.in-Matrix.is, o, p) (ap (λ (k : ℕ). accepted (k ∷ [])) (omega (arith, e, f)))
