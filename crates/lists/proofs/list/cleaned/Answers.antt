-- `cleaned` meets its contract. The loop's invariant: the records so far, followed by those of the rules that are left, are the whole
-- array. Assumes nothing.
use mathlib.Core.Path.{◌≡◌, ap}
use mathlib.Core.List.{◌∷◌}
use Prim.Native.Nat.{◌+◌}
use native.Mathlib.Numerals.{add-one}
use lib.ListN.{drop, get_or, length-set, length-map, length-replicate, drop_of_length-le}
use lib.Seq.{drop-cons}
use Rattle.lists.specs.List.{most_rules}
use Rattle.rules.specs.Rule.{blank_rule}
use Rattle.rules.proofs.Records.{zero_rule}
use Rattle.scalars.proofs.Fills.{filled, fill_step, fill_end}
use Rattle.lists.proofs.list.cleaned.Invariants.{records}
use Rattle.lists.proofs.list.cleaned.Goals as goal

pub loop-i-init : goal.loop-i-init
loop-i-init c = record {
  long = length-replicate most_rules blank_rule;
  filled = filled most_rules blank_rule (records c.args.rules.now) (simp (length-map) c.requires);
}

pub loop-i-preserved : goal.loop-i-preserved
loop-i-preserved c =
    let rules = c.args.rules.now in
    let i = c.loop-i.i in
    let here : drop i rules ≡ get_or rules i zero_rule ∷ drop (i + 1) rules = rw add-one (drop-cons rules i zero_rule c.loop-i-test.true) in
    record { long = simp length-set c.loop-i.invariant.long; filled = rw c.cleaned.ensures (fill_step _ _ (ap records here) c.loop-i.invariant.filled) }

pub returns : goal.returns
returns c = fill_end _ _ (ap records (drop_of_length-le c.args.rules.now c.loop-i-test.false)) c.loop-i.invariant.filled
