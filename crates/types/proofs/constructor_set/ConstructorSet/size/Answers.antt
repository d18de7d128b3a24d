-- `ConstructorSet::size` meets its contract: the count of ones tells none, one and several members apart.
-- Assumes nothing.
use mathlib.Core.Path.{sym, ap, ◌∙◌}
use mathlib.Core.List.{[]}
use Prim.Native.Nat.{ℕ, ◌<◌}
use mathlib.Core.Path.{subst⁻¹}
use native.Mathlib.Omega.{arith}
use lib.ListN.{get_or}
use borrow.Author.Tests.{le-ltb}
use Rattle.scalars.specs.Mask.{bits}
use Rattle.types.specs.Domain.{constructor_count}
use Rattle.types.specs.Constructor.{set_size, sizes}
use Rattle.scalars.specs.Paper.{accepted}
use Rattle.types.proofs.Constructors.{number-below, size-one, size_several}
use Rattle.types.proofs.constructor_set.ConstructorSet.size.Goals as goal

pub returns-then-mask : goal.returns-then-mask
unfolding set_size
returns-then-mask c = simp (le-ltb _ _ c.if-mask.true)

pub returns-then-mask-eq0 : goal.returns-then-mask-eq0
unfolding set_size bits
returns-then-mask-eq0 c = simp c.if-mask-eq0.true

pub returns-then-not-is_singleton : goal.returns-then-not-is_singleton
returns-then-not-is_singleton c = sym (size_several _ (omega arith) (omega arith) (sym c.is_singleton.ensures ∙ c.if-not-is_singleton.true))

pub size_of-requires : goal.size_of-requires
size_of-requires c =
    subst⁻¹ (λ (k : ℕ). k < constructor_count) (rw c.from.ensures at c.number-member.ensures) (number-below _ (omega arith) (omega arith))

pub returns : goal.returns
returns c =
    ap accepted c.size_of.ensures ∙ ap (λ (k : ℕ). accepted (get_or sizes k [])) (rw c.from.ensures at c.number-member.ensures)
    ∙ sym (size-one _ (omega arith) (omega arith) (sym c.is_singleton.ensures ∙ c.if-not-is_singleton.false))
