-- `List::from_rules` meets its contract: `checked` tests the List of the first n rules with a full mask. Assumes nothing.
use mathlib.Core.Path.{ap, ◌∙◌}
use Prim.Native.Nat.{ℕ}
use Rattle.lists.specs.List.{from_rules, checked_list}
use Rattle.lists.proofs.list.List.from_rules.Goals as goal

pub returns : goal.returns
unfolding from_rules
returns c =
    c.checked.ensures
    ∙ ap (λ (m : ℕ). checked_list (record { rules = c.args.rules; len = c.args.n; members = m })) c.len_to_full_mask.ensures
