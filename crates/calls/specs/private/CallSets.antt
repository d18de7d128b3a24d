-- The sets that functions have, as a call of one requires them, and where a rule stands in a Regular set's listing.
use Rattle.std.specs.Prelude.{◌≡◌, true, false, [], ◌∷◌, ℕ, ◌+◌, ◌-◌, ◌*◌, ◌^◌, ◌≤◌, length}
use mathlib.Core.List as L
use Rattle.scalars.specs.Mask.{bits}
use Rattle.scalars.specs.Paper.{Paper, accepted, refusal}
use Rattle.types.specs.TypeCode.{type_code}
use Rattle.regular.specs.Regular.{empty_set?, all_conclude, rule_for}
use Rattle.regular.specs.private.Tested.{Known}
use Rattle.regular.specs.declared.regular.Regular.{Regular}
use Rattle.lists.specs.ChosenPaper.{no_choice}
use Rattle.lists.specs.private.Tested.{Valid}
use Rattle.lists.specs.declared.list.List.{List}
use Rattle.scalars.specs.Domain.{scalar_count}

-- ---- the sets that functions have

-- a Regular set with a conclusion for each rule: one with an argument has a rule, and one without, as an unknown function's is, has no
-- constructor
pub record Callable (set : Regular) : Type 0 where
  pub known : Known set
  pub concludes : all_conclude set ≡ true
  pub some : 1 ≤ set.arity → empty_set? set ≡ false
  pub none : set.arity ≡ 0 → set.constructors.0 ≡ 0

-- a List that was tested, all of its rules members
pub record Full (l : List) : Type 0 where
  pub valid : Valid l
  pub all : l.members ≡ 2 ^ l.len - 1

-- ---- where a rule stands in a Regular set's listing

-- how many members of a mask are below k
unfoldable pub rank : ℕ → ℕ → ℕ
rank k m = length (bits k m)

-- the rows of the constructors before it, and the scalars before it in its own row
unfoldable pub place_in : Regular → ℕ → ℕ → ℕ
place_in set k s = rank k set.constructors.0 * length (bits scalar_count set.scalars.0) + rank s set.scalars.0

-- a rule with its index; one without a conclusion is none
abbrev pub indexed : ℕ → Paper → Paper
indexed i (accepted vs) = accepted (i ∷ vs)
indexed i (refusal n p vs) = refusal 1 0 no_choice

-- the rule of a constructor and a scalar, with its index in the full listing
abbrev pub indexed_rule : Regular → ℕ → ℕ → Paper
indexed_rule set k s = indexed (place_in set k s) (rule_for set (type_code k s))

-- the first rule of the constructors and scalars that are left
abbrev pub preferred_in : Regular → L.List ℕ → L.List ℕ → Paper
preferred_in set [] ss = refusal 1 0 no_choice
preferred_in set (k ∷ ks) [] = refusal 1 0 no_choice
preferred_in set (k ∷ ks) (s ∷ ss) = indexed_rule set k s
