-- `FullSet::place` meets its contract: rows before the constructor, as long as there are scalars, and the scalars before.
-- Assumes nothing.
use mathlib.Core.Path.{ap, ap₂, ◌∙◌}
use Prim.Native.Nat.{ℕ, ◌+◌, ◌*◌, ◌≤◌}
use native.Mathlib.Omega.{arith}
use lib.Count.{ones}
use Rattle.calls.specs.private.CallSets.{place_in}
use Rattle.calls.proofs.Positions.{place-most, place_is}
use Rattle.calls.proofs.regular_call.FullSet.place.Goals as goal

-- the index fits in a byte
most : (c : goal.After-below-before) → c.below-rows.result * ones c.args.self.set.scalars.0 + c.below-before.result ≤ 155
most c =
    let rows = ap (λ (x : ℕ). x * ones c.args.self.set.scalars.0) c.below-rows.ensures in
    omega (
      arith,
      rows,
      c.below-before.ensures,
      place-most c.args.self.set.constructors.0 c.args.self.set.scalars.0 c.args.constructor.0 c.args.scalar.0
          c.args.self.callable.known.scalars c.requires.0 c.requires.1,
    )

pub overflow_mul-result : goal.overflow_mul-result
overflow_mul-result c = omega (arith, most c)

pub overflow_add-result : goal.overflow_add-result
overflow_add-result c = omega (arith, most c)

pub overflow_cast-result : goal.overflow_cast-result
overflow_cast-result c = omega (arith, most c)

pub returns : goal.returns
unfolding place_in
returns c = ap₂ (λ (a b : ℕ). a * ones c.args.self.set.scalars.0 + b) c.below-rows.ensures c.below-before.ensures
    ∙ place_is c.args.self.set.constructors.0 c.args.self.set.scalars.0 c.args.constructor.0 c.args.scalar.0
    c.args.self.callable.known.scalars
