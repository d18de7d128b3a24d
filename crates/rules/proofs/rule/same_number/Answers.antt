-- `same_number` meets its contract: both types have a scalar, then the scalars are tried.
-- Assumes nothing.
use Rattle.std.proofs.Common.{sym, ap, ap₂, ◌∙◌, arith}
use Rattle.scalars.specs.Domain.{converts}
use Rattle.scalars.specs.Scalar.{member}
use Rattle.scalars.proofs.Scalars.{reached}
use Rattle.types.proofs.TypeCodes.{leaf-none}
use borrow.Author.Tests.{lt-ltb, le-ltb}
use Rattle.rules.proofs.Rules.{scalar-some}
use Rattle.rules.proofs.rule.same_number.Goals as goal

pub returns-in_default : goal.returns-in_default
returns-in_default c = simp (le-ltb _ _ (leaf-none c.args.t c.leaf_scalar.result c.leaf_scalar.ensures (λ s k. cc)))

pub returns-in_default-2 : goal.returns-in_default-2
returns-in_default-2 c = simp (le-ltb _ _ (leaf-none c.args.t c.leaf_scalar.result c.leaf_scalar.ensures (λ s k. cc)))

pub returns-in_default-leaf_scalar : goal.returns-in_default-leaf_scalar
returns-in_default-leaf_scalar c =
    let f = scalar-some c.args.t c.leaf_scalar.ensures c.in-Ok-Some.is c.in-Ok-Some.field-0-is in
    simp (lt-ltb _ _ f.0, le-ltb _ _ (leaf-none c.args.a c.leaf_scalar-2.result c.leaf_scalar-2.ensures (λ s k. cc)))

pub returns-in_default-leaf_scalar-2 : goal.returns-in_default-leaf_scalar-2
returns-in_default-leaf_scalar-2 c =
    let f = scalar-some c.args.t c.leaf_scalar.ensures c.in-Ok-Some.is c.in-Ok-Some.field-0-is in
    simp (lt-ltb _ _ f.0, le-ltb _ _ (leaf-none c.args.a c.leaf_scalar-2.result c.leaf_scalar-2.ensures (λ s k. cc)))

pub returns : goal.returns
returns c =
    let f = scalar-some c.args.t c.leaf_scalar.ensures c.in-Ok-Some.is c.in-Ok-Some.field-0-is in
    let g = scalar-some c.args.a c.leaf_scalar-2.ensures c.in-Ok-Some-leaf_scalar.is c.in-Ok-Some-leaf_scalar.field-0-is in
    simp (lt-ltb _ _ f.0, lt-ltb _ _ g.0)
    (c.contains.ensures ∙ ap (member c.in-Ok-Some-leaf_scalar.to.0) c.convertible_from.ensures
    ∙ reached c.in-Ok-Some.from.0 c.in-Ok-Some-leaf_scalar.to.0 (omega (arith, f.1)) (omega (arith, g.1))
    ∙ ap₂ converts (sym f.1) (sym g.1))
