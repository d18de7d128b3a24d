-- `Regular::most_preferred` meets its contract: the one constructor's size over the lowest scalar.
-- Assumes nothing.
use Rattle.std.proofs.Common.{◌≡◌, sym, ◌∙◌, arith}
use Rattle.std.specs.Prelude.{Ok, Err}
use Rattle.scalars.specs.Mask.{bits}
use Rattle.scalars.specs.Domain.{scalar_count}
use Rattle.types.specs.Domain.{constructor_count}
use Rattle.rules.specs.RulePaper.{no_rule}
use Rattle.regular.specs.Regular.{regular_preferred, preferred_among}
use Rattle.regular.specs.declared.regular.Regular.{Regular}
use Rattle.regular.specs.private.Tested.{Known}
use Rattle.regular.proofs.Regulars.{empty-told, known-accepted, preferred-none, preferred-one, preferred_several, scalar-found}
use Rattle.regular.proofs.regular.Regular.most_preferred.Goals as goal

among : (r : Regular) → Known r → regular_preferred r ≡ preferred_among r (bits constructor_count r.constructors.0) (bits scalar_count r.scalars.0)
unfolding regular_preferred
among r known = rw (known-accepted r known)

pub returns-in_err-is_empty : goal.returns-in_err-is_empty
unfolding regular_preferred
returns-in_err-is_empty c =
    let r = c.args.self in
    let told = empty-told r (Err c.in_err-is_empty.field-0.0) c.in_err-is_empty.ensures (preferred_among r (bits constructor_count r.constructors.0) (bits scalar_count r.scalars.0)) no_rule in
    grind arith

pub returns-then-branch : goal.returns-then-branch
returns-then-branch c =
    let told = empty-told c.args.self (Ok c.in_ok-is_empty.field-0) c.in_ok-is_empty.ensures in
    preferred-none _ (told.1 ∙ c.if-branch.true) ∙ sym (among _ told.0)

pub returns-in_err-size : goal.returns-in_err-size
returns-in_err-size c =
    let told = empty-told c.args.self (Ok c.in_ok-is_empty.field-0) c.in_ok-is_empty.ensures in
    let several = preferred_several _ told.0 (told.1 ∙ c.if-branch.false) c.in_err-size.field-0.0 c.in_err-size.ensures ∙ sym (among _ told.0) in
    grind arith

pub returns-in_err-scalar : goal.returns-in_err-scalar
returns-in_err-scalar c =
    let told = empty-told c.args.self (Ok c.in_ok-is_empty.field-0) c.in_ok-is_empty.ensures in
    scalar-found _ told.0 (told.1 ∙ c.if-branch.false) c.in_err-scalar.field-0.0 c.in_err-scalar.ensures

pub rule-requires : goal.rule-requires
rule-requires c = (empty-told c.args.self (Ok c.in_ok-is_empty.field-0) c.in_ok-is_empty.ensures).0.arity

pub returns : goal.returns
returns c =
    let told = empty-told c.args.self (Ok c.in_ok-is_empty.field-0) c.in_ok-is_empty.ensures in
    c.rule.ensures
    ∙ preferred-one _ told.0 (told.1 ∙ c.if-branch.false) _ _ c.in_ok-size.ensures c.in_ok-scalar.ensures
    ∙ sym (among _ told.0)
