-- The numbers that stand for a List determine it: it is read back from them. Assumes nothing.
use mathlib.Core.Path.{◌≡◌, sym, ap, ◌∙◌}
use mathlib.Core.List as L
use Prim.Native.Nat.{ℕ}
use lib.ListN.{get_or, drop}
use Rattle.rules.specs.declared.rule.Rule as declared
use Rattle.lists.specs.ChosenPaper.{list_values}
use Rattle.lists.specs.declared.list.List.{List}
use Rattle.rules.proofs.RulePapers.{rules_named, rules-back}

abbrev pub list_named : L.List ℕ → List
list_named vs = record { len = get_or vs 0 0; members = get_or vs 1 0; rules = rules_named (drop 2 vs) }

pub list_back : (l : List) → list_named (list_values l) ≡ l
list_back l = ap (λ (rs : L.List declared.Rule). record { len = l.len; members = l.members; rules = rs }) (rules-back l.rules)

pub list_values-one : (a b : List) → list_values a ≡ list_values b → a ≡ b
list_values-one a b e = sym (list_back a) ∙ ap list_named e ∙ list_back b
