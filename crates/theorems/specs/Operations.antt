-- The operations on an overload set of either kind, by their contracts: which answers each may give.
use Rattle.std.specs.Prelude.{◌≡◌, [], ◌∷◌, Result, Ok, Err}
use mathlib.Core.List as L
use Rattle.scalars.specs.Paper.{Paper, test_paper, count_paper}
use Rattle.scalars.specs.declared.refusal.Refusal.{Refusal}
use Rattle.rules.specs.RulePaper.{rule_paper, listing_paper}
use Rattle.rules.specs.declared.rule.Keep.{Keep}
use Rattle.rules.specs.declared.rule.Keep.TheVariants.{Argument, Concrete}
use Rattle.regular.specs.declared.regular.Regular.{Regular}
use Rattle.lists.specs.ChosenPaper.{chosen_paper}
use Rattle.lists.specs.declared.list.List.{List}
use Rattle.regular.proofs.regular.Regular as of_set
use Rattle.lists.proofs.list.List as of_list

-- a set of either kind
pub data Set : Type 0 where
  regular : Regular → Set
  list : List → Set

-- ---- questions: the papers of the answers that a contract permits

abbrev pub Paper_of : {A : Type 0} → (A → Paper) → (A → Type 0) → Paper → Type 0
Paper_of {A = A} paper permitted p = (x : A) × permitted x × (p ≡ paper x)

-- `is_empty`: 1 for yes, 0 for no
abbrev pub Empty : Set → Paper → Type 0
Empty (regular r) = Paper_of test_paper (λ x. of_set.is_empty.Reads.Post tt (r, tt) x (r, tt))
Empty (list l) = Paper_of test_paper (λ x. of_list.is_empty.Reads.Post tt (l, tt) x (l, tt))

-- `min_arguments` and `max_arguments`
abbrev pub Least : Set → Paper → Type 0
Least (regular r) = Paper_of count_paper (λ x. of_set.min_arguments.Reads.Post tt (r, tt) x (r, tt))
Least (list l) = Paper_of count_paper (λ x. of_list.min_arguments.Reads.Post tt (l, tt) x (l, tt))

abbrev pub Most : Set → Paper → Type 0
Most (regular r) = Paper_of count_paper (λ x. of_set.max_arguments.Reads.Post tt (r, tt) x (r, tt))
Most (list l) = Paper_of count_paper (λ x. of_list.max_arguments.Reads.Post tt (l, tt) x (l, tt))

-- `most_preferred`: a rule; of a List, with its index in front
abbrev pub Preferred : Set → Paper → Type 0
Preferred (regular r) = Paper_of rule_paper (λ x. of_set.most_preferred.Reads.Post tt (r, tt) x (r, tt))
Preferred (list l) = Paper_of chosen_paper (λ x. of_list.most_preferred.Reads.Post tt (l, tt) x (l, tt))

-- `overload_list`
abbrev pub Listed : Set → Paper → Type 0
Listed (regular r) = Paper_of listing_paper (λ x. of_set.overload_list.Reads.Post tt (r, tt) x (r, tt))
Listed (list l) = Paper_of listing_paper (λ x. of_list.overload_list.Reads.Post tt (l, tt) x (l, tt))

-- ---- steps: `arg`, by shape or by number, and `concrete_only`

-- what a step answers: a set, or a refusal
pub data Answer : Type 0 where
  set : Set → Answer
  refused : Refusal → Answer

abbrev pub regular_answer : Result Regular Refusal → Answer
regular_answer (Ok r) = set (regular r)
regular_answer (Err why) = refused why

abbrev pub list_answer : Result List Refusal → Answer
list_answer (Ok l) = set (list l)
list_answer (Err why) = refused why

abbrev pub Answer_of : {A : Type 0} → (A → Answer) → (A → Type 0) → Answer → Type 0
Answer_of {A = A} answer permitted a = (x : A) × permitted x × (a ≡ answer x)

abbrev pub Step : Keep → Set → Answer → Type 0
Step (Argument part i t) (regular r) =
    Answer_of regular_answer (λ x. of_set.arg.Reads.Post tt (r, (part, (i, (t, tt)))) x (r, (part, (i, (t, tt)))))
Step Concrete (regular r) = Answer_of regular_answer (λ x. of_set.concrete_only.Reads.Post tt (r, tt) x (r, tt))
Step (Argument part i t) (list l) =
    Answer_of list_answer (λ x. of_list.arg.Reads.Post tt (l, (part, (i, (t, tt)))) x (l, (part, (i, (t, tt)))))
Step Concrete (list l) = Answer_of list_answer (λ x. of_list.concrete_only.Reads.Post tt (l, tt) x (l, tt))

-- steps in turn, each asked of the set in the answer before; after a refusal nothing more is asked
pub data InTurn : L.List Keep → Answer → Answer → Type 0 where
  done : {a : Answer} → InTurn [] a a
  stopped : {k : Keep} {ks : L.List Keep} {why : Refusal} → InTurn (k ∷ ks) (refused why) (refused why)
  step : {k : Keep} {ks : L.List Keep} {s : Set} {a b : Answer} → Step k s a → InTurn ks a b → InTurn (k ∷ ks) (set s) b

-- a question, asked of a set after steps that were all accepted
abbrev pub After : (Set → Paper → Type 0) → L.List Keep → Set → Paper → Type 0
After question ks s p = (s' : Set) × InTurn ks (set s) (set s') × question s' p
