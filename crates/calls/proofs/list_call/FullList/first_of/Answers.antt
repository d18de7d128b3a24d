-- `FullList::first_of` meets its contract: the lowest bit's number is the first entry's index, and the List holds its rule there.
-- Assumes nothing.
use Rattle.scalars.proofs.Walks.{taken, ended}
use Rattle.calls.proofs.ListCalls.{left_word, first-none, first_rule}
use Rattle.calls.proofs.list_call.FullList.first_of.Goals as goal

pub returns-in_default : goal.returns-in_default
returns-in_default c =
    let self = c.args.self in
    let left = c.args.left in
    let word = left_word self.list left self.full.valid c.requires in
    first-none self.list left self.full.valid c.requires (ended left.0 word c.in_default.ensures.steps.1)

pub returns : goal.returns
returns c =
    let self = c.args.self in
    let left = c.args.left in
    let word = left_word self.list left self.full.valid c.requires in
    let t = taken left.0 word c.in-Some.ensures.steps.1 c.number-number.ensures in
    first_rule self.list left self.full.valid c.requires t.some t.number c.rule.ensures
