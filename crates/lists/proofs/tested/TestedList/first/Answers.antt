-- `TestedList::first` meets its contract: the lowest bit's number is the first member's index, and the array holds its record there.
-- Assumes nothing.
use mathlib.Core.Path.{sym, ap}
use Rattle.lists.specs.List.{preferred_of}
use Rattle.scalars.proofs.Walks.{taken}
use Rattle.lists.proofs.Lists.{valid-long, valid-within, valid-word, turned_out, entries_none, preferred-first}
use Rattle.lists.proofs.tested.TestedList.first.Goals as goal

pub returns-in-None : goal.returns-in-None
returns-in-None c =
    let l = c.args.self.list in
    sym (ap preferred_of (entries_none l (turned_out l l.members (valid-long l c.args.self.valid) (valid-within l c.args.self.valid) c.in-None.ensures.steps.1)))

pub returns-in-Some : goal.returns-in-Some
returns-in-Some c =
    let l = c.args.self.list in
    let t = taken l.members (valid-word l c.args.self.valid) c.in-Some.ensures.steps.1 c.number-number.ensures in
    preferred-first l c.args.self.valid t.some t.number c.rule.ensures
