-- `FullList::call` meets its contract: what the steps leave decides the choice.
-- Assumes nothing.
use mathlib.Core.Path.{ap, ◌∙◌}
use Rattle.scalars.proofs.HandedOn.{handed_on}
use Rattle.calls.specs.Call.{answered}
use Rattle.calls.proofs.ListCalls.{why-answered}
use Rattle.calls.proofs.list_call.FullList.call.Goals as goal

pub returns-in_err-left : goal.returns-in_err-left
returns-in_err-left c =
    rw (handed_on c.from_residual.ensures.1) (why-answered c.in_err-left.field-0.0 ∙ ap answered c.in_err-left.ensures.choice)

pub first_of-requires : goal.first_of-requires
first_of-requires c = c.in_ok-left.ensures.bounded

pub returns : goal.returns
returns c = c.first_of.ensures ∙ ap answered c.in_ok-left.ensures.choice
