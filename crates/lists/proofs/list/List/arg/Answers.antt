-- `List::arg` meets its contract: a type above 180 is refused, and `step` does the rest. Assumes nothing.
use borrow.Author.Tests.{lt-leb, le-leb}
use Rattle.lists.specs.List.{list_arg}
use Rattle.lists.proofs.list.List.arg.Goals as goal

pub returns-then-t-gt-LAST_CODE : goal.returns-then-t-gt-LAST_CODE
unfolding list_arg
returns-then-t-gt-LAST_CODE c = simp (lt-leb _ _ c.if-t-gt-LAST_CODE.true)

pub returns : goal.returns
unfolding list_arg
returns c = simp (le-leb _ _ c.if-t-gt-LAST_CODE.false) c.step.ensures
