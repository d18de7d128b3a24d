-- `run_end` ends where the definition has the run end: behind as many bytes as no separator stands in front of. Assumes nothing.
use mathlib.Core.Path.{ap, ◌∙◌}
use Prim.Native.Nat.{◌+◌}
use mathlib.Core.Bool.{not}
use Rattle.std.proofs.Common.{drop, rules, tests}
use Rattle.std.proofs.lemmas.Iterator.{YieldsList-from_slice}
use Rattle.std.proofs.lemmas.Iterator.Consumers.{count_from_yields_List}
use Rattle.std.proofs.lemmas.Iterator.Search.{YieldsList-from_take_while}
use Rattle.text.specs.Tokens.{separates}
use Rattle.text.proofs.Tokens.{extent-counted}
use Rattle.text.proofs.token.run_end.Goals as goal

pub returns : goal.returns
returns c =
    ap (λ n. c.args.at + n)
    (count_from_yields_List c.take_while.result _ c.count.ensures.ran
    (YieldsList-from_take_while _ (λ b. not (separates b)) (YieldsList-from_slice (drop c.args.at c.args.text.now) (cc))
    c.take_while.ensures.closure c.take_while.ensures.done (λ x b q k. search (rules, tests)))
    ∙ extent-counted _)
