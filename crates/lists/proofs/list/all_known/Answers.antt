-- `all_known` meets its contract: each rule is tested in turn. Assumes nothing.
use Rattle.std.proofs.Common.{◌∙◌, rules, tests}
use Rattle.std.proofs.lemmas.Iterator.{YieldsList-from_slice}
use Rattle.std.proofs.lemmas.Iterator.Search.{all_from_yields_List}
use Rattle.rules.specs.Rule.{known_rule}
use Rattle.lists.proofs.Everies.{all_every}
use Rattle.lists.proofs.list.all_known.Goals as goal

pub returns : goal.returns
returns c =
    all_from_yields_List known_rule _ _ c.all.result c.all.ensures.ran (YieldsList-from_slice c.args.rules.now cc) (λ x b q k. search (rules, tests))
    ∙ all_every known_rule c.args.rules.now
