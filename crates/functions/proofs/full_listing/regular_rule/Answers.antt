-- `regular_rule` meets its contract: the constructor's rank and the scalar's make the index. Assumes nothing.
use Rattle.std.proofs.Common.{◌≡◌, Some, None, sym, ◌∙◌, arith}
use Rattle.functions.proofs.Ranks.{some-scalar, rank-past, rank-within, rank-here}
use Rattle.functions.proofs.full_listing.regular_rule.Goals as goal

pub nonzero_div-index : goal.nonzero_div-index
nonzero_div-index c = some-scalar c.args.set c.requires c.args.index

pub returns-in_err-constructor : goal.returns-in_err-constructor
returns-in_err-constructor c =
    let none : c.nth.result ≡ None = grind arith in
    let past = rank-past c.args.set c.requires c.args.index (rw none at (sym c.nth.ensures)) in
    grind arith

pub nonzero_rem-index : goal.nonzero_rem-index
nonzero_rem-index c = some-scalar c.args.set c.requires c.args.index

pub returns-in_err-scalar : goal.returns-in_err-scalar
returns-in_err-scalar c =
    let none : c.nth-2.result ≡ None = grind arith in
    absurd (rank-within c.args.set c.requires c.args.index (rw none at (sym c.nth-2.ensures)))

pub returns : goal.returns
returns c =
    let constructor : c.nth.result ≡ Some c.in_ok-constructor.constructor = grind arith in
    let scalar : c.nth-2.result ≡ Some c.in_ok-scalar.scalar = grind arith in
    c.rule_of.ensures
    ∙ rank-here c.args.set c.requires c.args.index (rw constructor at (sym c.nth.ensures)) (rw scalar at (sym c.nth-2.ensures))
