-- `automatically_converts_to` meets its contract: an unknown scalar is refused, and of two known ones a set tells.
-- Assumes nothing.
use mathlib.Core.Path.{sym}
use Rattle.std.proofs.Common.{rules}
use borrow.Author.Tests.{ltb-true}
use Rattle.types.specs.Conversion.{converts_to}
use Rattle.types.proofs.TypeCodes.{unknown_refused, both_true}
use Rattle.types.proofs.Combinations.{converts-told}
use Rattle.types.proofs.conversion.automatically_converts_to.Goals as goal

pub returns-in_err-both_known : goal.returns-in_err-both_known
unfolding converts_to
returns-in_err-both_known c = search (rules, unknown_refused)

pub returns : goal.returns
returns c =
    let (from, to) = both_true _ _ c.in_ok-both_known.ensures in
    sym (converts-told _ _ _ (ltb-true _ _ from) (ltb-true _ _ to) c.convertible_from.ensures (sym c.contains.ensures))
