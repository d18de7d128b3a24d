-- `reached_scalars` meets its contract.
-- Assumes nothing.
use Rattle.std.proofs.Common.{sym, ap, ◌∙◌}
use borrow.Author.Tests.{le-ltb, lt-ltb}
use Rattle.scalars.specs.Scalar.{convertible_from}
use Rattle.types.proofs.TypeCodes.{leaf-none}
use Rattle.rules.proofs.Rules.{scalar-some}
use Rattle.regular.specs.Regular.{reached_scalars}
use Rattle.regular.proofs.regular.reached_scalars.Goals as goal

pub returns-in_default : goal.returns-in_default
unfolding reached_scalars
returns-in_default c = simp (le-ltb _ _ (leaf-none _ c.leaf_scalar.result c.leaf_scalar.ensures (λ s k. cc)))

pub returns-in_default-2 : goal.returns-in_default-2
unfolding reached_scalars
returns-in_default-2 c = simp (le-ltb _ _ (leaf-none _ c.leaf_scalar.result c.leaf_scalar.ensures (λ s k. cc)))

pub returns : goal.returns
unfolding reached_scalars
returns c =
    let f = scalar-some c.args.t c.leaf_scalar.ensures c.in-Ok-Some.is c.in-Ok-Some.field-0-is in
    simp (lt-ltb _ _ f.0) (c.convertible_from.ensures ∙ ap convertible_from (sym f.1))
