-- `rules_of` meets its contract: a Regular set expands to the List of its rules, and the other functions have theirs.
-- Assumes nothing.
use mathlib.Core.Path.{refl, sym, ap, ◌∙◌}
use Rattle.lists.specs.Expansion.{list_of}
use Rattle.calls.proofs.FunctionCalls.{regular-list, listed-listing}
use Rattle.functions.proofs.FunctionPapers.{set_told}
use Rattle.calls.proofs.function_list.rules_of.Goals as goal

pub unwrap-requires : goal.unwrap-requires
unwrap-requires c = rw (regular-list _ _ (set_told _ _ c.function_set.ensures c.in-Regular.is) c.expand.result c.expand.ensures) refl

pub returns-in-Regular : goal.returns-in-Regular
returns-in-Regular c =
    let e = regular-list _ _ (set_told _ _ c.function_set.ensures c.in-Regular.is) c.expand.result c.expand.ensures in
    let o = c.unwrap.ensures in
    cc

pub returns-in-List : goal.returns-in-List
returns-in-List c = c.full_list.ensures ∙ ap list_of (sym (listed-listing _ _ (set_told _ _ c.function_set.ensures c.in-List.is)))
