-- `all_known` meets its contract: it finds the first unknown type.
-- Assumes nothing.
use Rattle.std.proofs.Common.{rules, tests}
use Rattle.std.specs.Prelude.{Some, None}
use Rattle.std.proofs.lemmas.Iterator.{YieldsList-from_slice}
use Rattle.std.proofs.lemmas.Iterator.Search.{position_from_yields_List}
use Rattle.types.proofs.Codes.{unknown?, found_unknown, found_none}
use Rattle.types.proofs.conversion.all_known.Goals as goal

pub returns-in-Some : goal.returns-in-Some
returns-in-Some c =
    found_unknown _ _ _ _
    (position_from_yields_List unknown? _ _ (Some c.in-Some.first) c.in-Some.ensures.ran (YieldsList-from_slice c.args.components.now cc) (λ x b q k. search (rules, tests)))

pub returns-in-None : goal.returns-in-None
returns-in-None c =
    found_none _ _ _
    (position_from_yields_List unknown? _ _ None c.in-None.ensures.ran (YieldsList-from_slice c.args.components.now cc) (λ x b q k. search (rules, tests)))
