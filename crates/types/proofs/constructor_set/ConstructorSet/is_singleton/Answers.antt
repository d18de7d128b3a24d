-- `ConstructorSet::is_singleton` meets its contract: there are as many members as ones.
-- Assumes nothing.
use native.Mathlib.Omega.{arith}
use lib.Dec.{eqb}
use mathlib.Core.Path.{ap}
use Prim.Native.Nat.{ℕ}
use Rattle.scalars.proofs.Bits.{bits-count}
use Rattle.types.proofs.constructor_set.ConstructorSet.is_singleton.Goals as goal

pub returns : goal.returns
returns c = ap (λ (n : ℕ). eqb n 1) (bits-count 16 c.args.self.0 (omega arith))
