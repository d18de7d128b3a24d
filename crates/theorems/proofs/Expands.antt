-- Which Regular sets expand, as specs/Expands.antt states it. Assumes nothing.
use mathlib.Core.Path.{◌≡◌, refl}
use mathlib.Core.Bool.{Bool, true, false}
use Prim.Native.Nat.{◌≤◌}
use native.Mathlib.Omega.{arith}
use lib.Dec.{leb}
use lib.ListN.{length}
use borrow.Author.Tests.{leb-true}
use Rattle.scalars.specs.Mask.{choose}
use Rattle.scalars.specs.Paper.{Paper, accepted, refusal, number}
use Rattle.rules.specs.Verdict.{on_verdict}
use Rattle.regular.specs.Regular.{regular_rules, regular_verdict, all_conclude}
use Rattle.regular.specs.declared.regular.Regular.{Regular}
use Rattle.lists.specs.List.{most_rules, accepted_list, no_list_values}
use Rattle.lists.specs.Expansion.{list_of, expanded}
use Rattle.regular.proofs.Regulars.{accepted_verdict, refused-some, known-accepted}
use Rattle.lists.proofs.Expansions.{expands}
use Rattle.theorems.specs.Expands.{Expands, Theorem}

accepted-expands : (r : Regular) → 1 ≤ r.arity → number (expanded r) ≡ 0 → Expands r
unfolding expanded accepted_list
accepted-expands r some e = go (regular_verdict r) (leb (length (regular_rules r)) most_rules) (all_conclude r) refl refl refl e
  where
    go : (v : Paper) (few all : Bool) → regular_verdict r ≡ v → leb (length (regular_rules r)) most_rules ≡ few → all_conclude r ≡ all
        → number (on_verdict v (choose few (choose all (accepted_list (list_of (regular_rules r))) (refusal 13 0 no_list_values)) (refusal 3 0 no_list_values)) no_list_values) ≡ 0
        → Expands r
    go (accepted vs) true true v f c e = record { known = known-accepted r (accepted_verdict r v); some = some; few = leb-true _ _ f; concludes = c }
    go (accepted vs) true false v f c e = absurd (omega arith)
    go (accepted vs) false all v f c e = absurd (omega arith)
    go (refusal n p vs) few all v f c e = absurd (refused-some r v e)

pub exactly : Theorem
exactly = record { expands = λ r h. expands r h.known h.few h.concludes; only = accepted-expands }
