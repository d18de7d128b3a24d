-- What the steps of a call leave of a List, and the choice and the survivors that follow from it.
use Rattle.std.specs.Prelude.{◌≡◌, Bool, [], ◌∷◌, ℕ, ◌^◌, ◌<◌, eqb, length, Result, Ok, Err}
use mathlib.Core.List as L
use Rattle.scalars.specs.Mask.{choose, select}
use Rattle.scalars.specs.Paper.{Paper, accepted, refusal}
use Rattle.rules.specs.Signature.{Signature}
use Rattle.lists.specs.Entry.{number}
use Rattle.lists.specs.List.{signatures}
use Rattle.lists.specs.declared.list.List.{List}
use Rattle.lists.specs.declared.walks.RuleSet.{RuleSet}
use Rattle.calls.specs.Choice.{Choice, wrong_count, none_after, none_concrete, first, resolve}
use Rattle.calls.specs.Call.{survivors_of}
use Rattle.calls.specs.OutcomePaper.{refused_by}
use Rattle.calls.specs.declared.outcome.NoRule.{NoRule}
use Rattle.calls.specs.declared.outcome.NoRule.TheVariants.{WrongCount, NoneAfter, NoneConcrete}

-- why there is no rule, as a choice
abbrev pub no_choice_by : NoRule → Choice
no_choice_by WrongCount = wrong_count
no_choice_by (NoneAfter part k) = none_after part k
no_choice_by NoneConcrete = none_concrete

-- the first of the rules that are left, or why there is none
abbrev pub choice_by : L.List Signature → Result RuleSet NoRule → Choice
choice_by rules (Ok m) = first (select (number 0 rules) m.0)
choice_by rules (Err why) = no_choice_by why

-- the mask of the survivors; where none is left, refusal 1
unfoldable pub mask_answer : ℕ → Paper
mask_answer m = choose (eqb m 0) (refusal 1 0 (0 ∷ [])) (accepted (m ∷ []))

abbrev pub survivors_by : Result RuleSet NoRule → Paper
survivors_by (Ok m) = mask_answer m.0
survivors_by (Err why) = refused_by why (0 ∷ [])

-- the operand is one of them, and the rules are the List's
abbrev pub Bounded : List → L.List ℕ → Result RuleSet NoRule → Type 0
Bounded l ts (Ok m) = m.0 < 2 ^ l.len
Bounded l ts (Err WrongCount) = Unit
Bounded l ts (Err (NoneAfter part k)) = k < length ts
Bounded l ts (Err NoneConcrete) = Unit

pub record Stepped (switch : Bool) (l : List) (ts : L.List ℕ) (s : Result RuleSet NoRule) : Type 0 where
  pub choice : choice_by (signatures l) s ≡ resolve switch (signatures l) ts
  pub survivors : survivors_by s ≡ survivors_of switch (signatures l) ts
  pub bounded : Bounded l ts s
