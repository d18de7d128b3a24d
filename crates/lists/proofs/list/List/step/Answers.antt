-- `List::step` meets its contract: `filter` keeps the members of the clean List that pass. Assumes nothing.
use mathlib.Core.Path.{ap, ◌∙◌}
use Prim.Native.Nat.{ℕ}
use Rattle.scalars.proofs.HandedOn.{handed_on}
use Rattle.lists.specs.List.{list_step, kept, accepted_list}
use Rattle.lists.specs.declared.list.List.{List}
use Rattle.lists.proofs.Verdicts.{on-refused, then_list}
use Rattle.lists.proofs.list.List.step.Goals as goal

pub returns-in_err-list : goal.returns-in_err-list
unfolding list_step
returns-in_err-list c = rw (handed_on c.from_residual.ensures.1) (on-refused c.args.self _ c.in_err-list.ensures _ _)

pub returns : goal.returns
unfolding list_step accepted_list kept
returns c =
    let list = c.in_ok-list.list in
    ap (λ (m : ℕ). accepted_list (record { rules = list.rules; len = list.len; members = m })) c.filter-left.ensures
    ∙ then_list c.args.self _ c.in_ok-list.ensures (λ (l : List). accepted_list (kept c.args.keep l)) _
