-- `full_list` meets its contract. The loop's invariant: the records so far, followed by those of the rules that are left, are the whole
-- array. Assumes nothing.
use mathlib.Core.Path.{refl, sym, ap, ◌∙◌}
use mathlib.Core.List.{map}
use Prim.Native.Nat.{ℕ, ◌-◌, ◌^◌}
use native.Mathlib.Omega.{arith}
use lib.ListN.{length-map}
use Rattle.rules.specs.Rule.{blank_rule, rule_of}
use Rattle.functions.specs.ListedRules.{listed_rules}
use Rattle.scalars.proofs.Masks.{bit_is}
use Rattle.scalars.proofs.Fills.{filled, fill_end}
use Rattle.functions.proofs.Runs.{past-at}
use Rattle.functions.proofs.Places.{few-listed}
use Rattle.calls.proofs.ListsOf.{list-built}
use Rattle.calls.proofs.function_list.full_list.Goals as goal

pub loop-k-init : goal.loop-k-init
loop-k-init c =
    let rs = listed_rules c.args.listed in
    (omega arith, refl, filled 63 blank_rule (map rule_of rs) (omega (arith, few-listed c.args.listed, length-map rs rule_of)))

pub bounds-rules-from : goal.bounds-rules-from
bounds-rules-from c = omega (arith, few-listed c.args.listed)

pub returns : goal.returns
returns c =
    let rs = listed_rules c.args.listed in
    list-built rs
    (fill_end _ _ (past-at blank_rule (map rule_of rs) c.loop-k.k (omega (arith, length-map rs rule_of))) c.loop-k.invariant.2)
    (c.from-2.ensures ∙ c.rule_count-n.ensures)
    (ap (λ (b : ℕ). b - 1) (bit_is 64 c.rule_count-n.result (omega (arith, few-listed c.args.listed)) ∙ ap (λ (n : ℕ). 2 ^ n) (sym c.from-2.ensures)))
