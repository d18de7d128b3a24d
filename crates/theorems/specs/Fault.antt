-- 'Answers by number', 5, 6, 16 and 1 in an expression: which call is at fault, what is wrong there, as Taking says it of a single
-- call, and the place.
use Rattle.std.specs.Prelude.{Bool, List, ℕ, get_or}
use Rattle.types.specs.Operand.{codes, any_measured, concrete_only}
use Rattle.types.specs.declared.operand.Operand.{Operand}
use Rattle.rules.specs.Signature.{Signature}
use Rattle.rules.specs.declared.rule.Part.TheVariants.{Shape, Number}
use Rattle.calls.specs.Choice.{wrong_count, none_after, none_concrete}
use Rattle.theorems.specs.Taking.{Says}
use Rattle.expressions.specs.Tree.{Tree, Trees, call, more}
use Rattle.worksheet.specs.Places.{inside, behind, starts}
use Rattle.machine.specs.Line.{Line}
use Rattle.theorems.specs.Meaning.{Gives, GiveAll}

-- what is wrong with a call of these operands, by its number in the table and its place: how many they are (5), at the call; the first
-- of them after which no rule is left, at that operand, by its shape (6) or by its number (16); or, with a rule left after each, that none
-- takes them all, as when the concrete-only step leaves no rule (1), at the call
pub data Fault (switch : Bool) (rules : List Signature) (ts : List ℕ) (at : ℕ) (places : List ℕ) : ℕ → ℕ → Type 0 where
  miscounted : Says switch rules ts wrong_count → Fault switch rules ts at places 5 at
  wrong_shape : {k : ℕ} → Says switch rules ts (none_after Shape k) → Fault switch rules ts at places 6 (get_or places k 0)
  wrong_number : {k : ℕ} → Says switch rules ts (none_after Number k) → Fault switch rules ts at places 16 (get_or places k 0)
  none_takes : Says switch rules ts none_concrete → Fault switch rules ts at places 1 at

module _ (listing_of : ℕ → List Signature) (switch : Bool) where
  -- an expression whose first byte is at this offset fails by this number and place: arguments before their call, left to right
  mutual
    pub data Fails : Tree → ℕ → ℕ → ℕ → Type 0 where
      fails_inside : {f at n p : ℕ} {es : Trees} → FailsAmong es (inside at) n p → Fails (call f es) at n p
      fails_here : {f at n p : ℕ} {es : Trees} {os : List Operand} {ls : List Line} → GiveAll listing_of switch es os ls
          → Fault (concrete_only switch (any_measured os)) (listing_of f) (codes os) at (starts es (inside at)) n p → Fails (call f es) at n p

    pub data FailsAmong : Trees → ℕ → ℕ → ℕ → Type 0 where
      fails_first : {e : Tree} {es : Trees} {at n p : ℕ} → Fails e at n p → FailsAmong (more e es) at n p
      fails_later : {e : Tree} {es : Trees} {at n p : ℕ} {o : Operand} {ls : List Line} → Gives listing_of switch e o ls
          → FailsAmong es (behind e at) n p → FailsAmong (more e es) at n p
