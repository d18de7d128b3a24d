-- `handed_in` meets its contract: its test of the length is the one that `of_list` makes, and the mask has its own. Assumes nothing.
use mathlib.Core.Path.{ap, ◌∙◌}
use mathlib.Core.List as L
use borrow.Author.Tests.{eq-eqb, ne_eqb}
use Prim.Native.Nat.{◌/◌}
use lib.ListN.{length}
use Rattle.scalars.proofs.HandedOn.{handed_on}
use Rattle.lists.specs.List.{accepted_list}
use Rattle.rules.specs.declared.rule.Rule.{Rule}
use Rattle.c_sets.proofs.AskedLists.{cut_short, by_mask}
use Rattle.c_sets.proofs.list_parts.ListParts.handed_in.Goals as goal

pub returns-then-self-ne0 : goal.returns-then-self-ne0
returns-then-self-ne0 c = cut_short _ _ (ne_eqb _ _ c.if-self-ne0.true)

pub returns-in_err-members : goal.returns-in_err-members
returns-in_err-members c =
    rw (handed_on c.from_residual.ensures.1) (by_mask _ _ (eq-eqb _ _ c.if-self-ne0.false) c.in_err-members.ensures)

pub returns : goal.returns
unfolding accepted_list
returns c =
    let self = c.args.self in
    ap (λ (rs : L.List Rule). accepted_list (record { rules = rs; len = length self.rules.now / 6; members = c.in_ok-members.members })) c.rules_in.ensures
    ∙ by_mask _ _ (eq-eqb _ _ c.if-self-ne0.false) c.in_ok-members.ensures
