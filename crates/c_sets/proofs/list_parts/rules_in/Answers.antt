-- `rules_in` meets its contract. The loop's invariant: the rules so far, followed by those that are left, are all of them.
-- Assumes nothing.
use mathlib.Core.Path.{refl}
use native.Mathlib.Omega.{arith}
use lib.ListN.{length-set}
use Rattle.scalars.proofs.Fills.{fill_step, fill_end}
use Rattle.c_sets.proofs.ByteRules.{rules-next, rules-past, rules-filled}
use Rattle.c_sets.proofs.list_parts.rules_in.Goals as goal

pub loop-k-init : goal.loop-k-init
loop-k-init c = (omega arith, refl, rules-filled _)

pub loop-k-preserved : goal.loop-k-preserved
loop-k-preserved c = (
  omega arith,
  simp length-set c.loop-k.invariant.1,
  rw c.rule_in.ensures (fill_step _ _ (rules-next _ _ c.loop-k-test.true) c.loop-k.invariant.2),
)

pub returns : goal.returns
returns c = fill_end _ _ (rules-past _ _ c.loop-k-test.false) c.loop-k.invariant.2
