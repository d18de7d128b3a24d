-- `Regular::max_arguments` meets its contract: every rule is as long as the arity.
-- Assumes nothing.
use Rattle.std.proofs.Common.{sym, ◌∙◌, arith, [], ◌∷◌}
use Rattle.std.specs.Prelude.{Ok, Err}
use Rattle.scalars.specs.Paper.{unused}
use Rattle.rules.specs.Verdict.{count_of}
use Rattle.regular.specs.Regular.{regular_rules, regular_count}
use Rattle.regular.proofs.Regulars.{empty-told, known-accepted, count_none, count-some}
use Rattle.regular.proofs.regular.Regular.max_arguments.Goals as goal

pub returns-in_err-is_empty : goal.returns-in_err-is_empty
unfolding regular_count
returns-in_err-is_empty c =
    let told = empty-told c.args.self (Err c.in_err-is_empty.field-0.0) c.in_err-is_empty.ensures (count_of (regular_rules c.args.self)) (unused ∷ []) in
    grind arith

pub returns-then-branch : goal.returns-then-branch
unfolding regular_count
returns-then-branch c =
    let r = c.args.self in
    let told = empty-told r (Ok c.in_ok-is_empty.field-0) c.in_ok-is_empty.ensures in
    rw (known-accepted r told.0) (sym (count_none r (told.1 ∙ c.if-branch.true)))

pub returns : goal.returns
unfolding regular_count
returns c =
    let r = c.args.self in
    let told = empty-told r (Ok c.in_ok-is_empty.field-0) c.in_ok-is_empty.ensures in
    rw (known-accepted r told.0) (sym (count-some r told.0 (told.1 ∙ c.if-branch.false)))
