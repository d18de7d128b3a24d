-- `skip_spaces` passes the spaces of the definition: as many as stand in front of what is left. Assumes nothing.
use mathlib.Core.Path.{ap, ◌∙◌}
use Prim.Native.Nat.{◌+◌}
use lib.Dec.{eqb}
use Rattle.std.proofs.Common.{drop, rules, tests}
use Rattle.std.proofs.lemmas.Iterator.{YieldsList-from_slice}
use Rattle.std.proofs.lemmas.Iterator.Consumers.{count_from_yields_List}
use Rattle.std.proofs.lemmas.Iterator.Search.{YieldsList-from_take_while}
use Rattle.text.specs.Tokens.{space_byte}
use Rattle.text.proofs.Tokens.{gap-counted}
use Rattle.text.proofs.token.skip_spaces.Goals as goal

pub returns : goal.returns
returns c =
    ap (λ n. c.args.at + n)
    (count_from_yields_List c.take_while.result _ c.count.ensures.ran
    (YieldsList-from_take_while _ (λ b. eqb b space_byte) (YieldsList-from_slice (drop c.args.at c.args.text.now) (cc))
    c.take_while.ensures.closure c.take_while.ensures.done (λ x b q k. search (rules, tests)))
    ∙ gap-counted _)
