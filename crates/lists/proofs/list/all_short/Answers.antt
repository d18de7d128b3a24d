-- `all_short` meets its contract: each rule's count is tested in turn. Assumes nothing.
use Rattle.std.proofs.Common.{◌∙◌, rules, tests}
use Rattle.std.proofs.lemmas.Iterator.{YieldsList-from_slice}
use Rattle.std.proofs.lemmas.Iterator.Search.{all_from_yields_List}
use Rattle.rules.specs.Rule.{short_rule}
use Rattle.lists.proofs.Everies.{all_every}
use Rattle.lists.proofs.list.all_short.Goals as goal

pub returns : goal.returns
unfolding short_rule
returns c =
    all_from_yields_List short_rule _ _ c.all.result c.all.ensures.ran (YieldsList-from_slice c.args.rules.now cc) (λ x b q k. search (rules, tests))
    ∙ all_every short_rule c.args.rules.now
