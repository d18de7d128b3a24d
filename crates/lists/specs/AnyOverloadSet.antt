-- A set of either kind answers what its kind answers.
use mathlib.Core.List as L
use Rattle.std.specs.Prelude.{◌∷◌, ◌++◌, ℕ, drop}
use Rattle.scalars.specs.Paper.{Paper, accepted, refusal, when_accepted}
use Rattle.rules.specs.RulePaper.{no_rule}
use Rattle.regular.specs.declared.regular.Regular as regular
use Rattle.lists.specs.AnyPaper.{no_rules}
use Rattle.lists.specs.declared.list.List as list
use Rattle.lists.specs.declared.any_overload_set.AnyOverloadSet.{AnyOverloadSet}
use Rattle.lists.specs.declared.any_overload_set.AnyOverloadSet.TheVariants.{Regular, List}

-- ---- what a kind answers, as a set of either kind

-- the values of an answer, accepted or refused, in another form
abbrev pub in_form : (L.List ℕ → L.List ℕ) → Paper → Paper
in_form f (accepted vs) = accepted (f vs)
in_form f (refusal n p vs) = refusal n p (f vs)

abbrev pub of_regular : Paper → Paper
of_regular p = in_form (λ vs. 0 ∷ (vs ++ no_rules)) p

abbrev pub of_list : Paper → Paper
of_list p = in_form (λ vs. 1 ∷ vs) p

-- ---- the operations

-- by the kind of a set: what a Regular set answers, or what a List does
abbrev pub by_set : (regular.Regular → Paper) → (list.List → Paper) → AnyOverloadSet → Paper
by_set f g (Regular r) = f r
by_set f g (List l) = g l

-- the preferred rule, without a List's index
abbrev pub alone : Paper → Paper
alone p = when_accepted p (λ vs. accepted (drop 1 vs)) no_rule
