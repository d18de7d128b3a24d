-- Document 02's (iv), of what `arg` answers. Take a Regular set, or a List with 255 in what is not in use, as every List in an answer has it,
-- that is accepted. Ask it for `arg` by one part of an operand, and ask the set that is answered for `arg` by the other part of the same
-- operand at the same index: by shape first or by number first. Whatever the contracts permit as the last answer is the set that document
-- 01's single step leaves, whose listing is the one filtered by document 01's test (Steps); or refusal 7, where the operand's type is none.
use Rattle.std.specs.Prelude.{◌≡◌, [], ◌∷◌, ℕ}
use mathlib.Core.List as L
use Rattle.scalars.specs.Mask.{choose}
use Rattle.scalars.specs.Paper.{accepted}
use Rattle.scalars.specs.declared.refusal.Refusal.TheVariants.{Unknown}
use Rattle.types.specs.Domain.{known?}
use Rattle.rules.specs.declared.rule.Part.{Part}
use Rattle.rules.specs.declared.rule.Part.TheVariants.{Shape, Number}
use Rattle.rules.specs.declared.rule.Keep.{Keep}
use Rattle.rules.specs.declared.rule.Keep.TheVariants.{Argument}
use Rattle.regular.specs.Regular.{regular_verdict}
use Rattle.regular.specs.declared.regular.Regular.{Regular}
use Rattle.lists.specs.List.{clean_list, verdict_of}
use Rattle.lists.specs.declared.list.List.{List}
use Rattle.theorems.specs.Operations.{Set, regular, list, Answer, set, refused, InTurn}
use Rattle.theorems.specs.Steps.{single_regular, single_list}

abbrev pub other : Part → Part
other Shape = Number
other Number = Shape

-- both steps of an operand, the one by this part first
abbrev pub both_steps : Part → ℕ → ℕ → L.List Keep
both_steps first i t = Argument first i t ∷ Argument (other first) i t ∷ []

-- this set, or refusal 7 where the operand's type is none
abbrev pub of_type : ℕ → Set → Answer
of_type t s = choose (known? t) (set s) (refused (Unknown 0))

pub record Theorem : Type 0 where
  pub regulars : (first : Part) (i t : ℕ) (r : Regular) → regular_verdict r ≡ accepted []
      → (a : Answer) → InTurn (both_steps first i t) (set (regular r)) a → a ≡ of_type t (regular (single_regular i t r))
  pub lists : (first : Part) (i t : ℕ) (l : List) → verdict_of l ≡ accepted [] → clean_list l ≡ l
      → (a : Answer) → InTurn (both_steps first i t) (set (list l)) a → a ≡ of_type t (list (single_list i t l))
