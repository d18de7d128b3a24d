-- `FullSet::preferred` meets its contract: the lowest constructor over the lowest scalar comes first.
-- Assumes nothing.
use mathlib.Core.Path.{sym, ap, ap₂, ◌∙◌}
use mathlib.Core.List.{List}
use Prim.Native.Nat.{ℕ}
use Rattle.scalars.specs.Mask.{bits}
use Rattle.calls.specs.private.CallSets.{preferred_in}
use Rattle.calls.proofs.RegularResolving.{scalar-none, scalar-some, constructor-none, constructor-some, none-preferred}
use Rattle.calls.proofs.regular_call.FullSet.preferred.Goals as goal

pub returns-in_default : goal.returns-in_default
returns-in_default c =
    none-preferred c.args.self.set (bits 13 c.args.left.constructors.0)
    (scalar-none c.args.left.scalars.0 c.requires.scalars (sym c.in_default.ensures))

pub returns-in_default-next : goal.returns-in_default-next
returns-in_default-next c =
    sym (ap (λ (ks : List ℕ). preferred_in c.args.self.set ks (bits 12 c.args.left.scalars.0))
    (constructor-none _ c.requires.constructors c.from.ensures c.in_default-next.ensures.steps.1))

pub chosen-requires : goal.chosen-requires
chosen-requires c = (
  (constructor-some _ c.requires.constructors c.from.ensures _ _ c.in-Some.ensures.steps.1 c.number.ensures).0,
  (scalar-some _ c.requires.scalars (sym c.in-Ok.ensures)).0,
)

pub returns : goal.returns
returns c =
    c.chosen.ensures
    ∙ sym (ap₂ (preferred_in c.args.self.set)
    (constructor-some _ c.requires.constructors c.from.ensures _ _ c.in-Some.ensures.steps.1 c.number.ensures).2
    (scalar-some _ c.requires.scalars (sym c.in-Ok.ensures)).2)
