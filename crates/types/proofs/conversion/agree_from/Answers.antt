-- `agree_from` meets its contract: it ends at the last component, or is refused at the first with no scalar or no combination.
-- Assumes nothing.
use mathlib.Core.Path.{ap, ◌∙◌}
use mathlib.Core.List.{List, ◌∷◌}
use Prim.Native.Nat.{ℕ}
use Rattle.scalars.specs.Paper.{accepted}
use Rattle.types.proofs.Combinations.{combined-none}
use Rattle.types.proofs.Agreeing.{agree-end, agree-without, agree-none, agree-next}
use Rattle.types.proofs.conversion.agree_from.Goals as goal

pub returns-in_default : goal.returns-in_default
returns-in_default c = agree-without _ _ _ _ c.loop-i-test.true c.in_default.ensures ∙ c.loop-i.invariant.whole

pub returns-in_default-combine_by : goal.returns-in_default-combine_by
returns-in_default-combine_by c =
    agree-none _ _ _ c.loop-i-test.true c.in-Some.ensures.0 c.in-Some.ensures.1 _ (combined-none _ _ c.in_default-combine_by.ensures)
    ∙ c.loop-i.invariant.whole

pub loop-i-preserved : goal.loop-i-preserved
loop-i-preserved c =
    let (known, same) =
    agree-next _ c.args.components.now _ c.loop-i-test.true c.in-Some.ensures.0 c.in-Some.ensures.1 _ _ _ _
    c.loop-i.invariant.scalar c.in-Some-combine_by.ensures c.giver_after-giver.ensures
    in record { scalar = known; whole = same ∙ c.loop-i.invariant.whole }

pub returns : goal.returns
returns c =
    ap (λ (g : List ℕ). accepted (c.loop-i.best.0 ∷ g)) c.giver_in.ensures ∙ agree-end _ _ _ _ c.loop-i-test.false ∙ c.loop-i.invariant.whole
