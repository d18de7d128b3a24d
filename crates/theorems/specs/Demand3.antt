-- Demand 3, of trees, over the definitions that the contracts of `type_expression` and `run_worksheet` cite; Expressions says it of those
-- contracts. Take any database of rules whose listings have one rule length each, either position of the concrete-only switch, and any
-- expression within the limits.
--
-- The typer accepts the expression, with an operand and lines, exactly where the expression gives them: each leaf its own line, each call
-- by the first rule of its listing that takes its operands, with conversions only where types differ. It refuses the expression
-- exactly where it is stuck: where some call in it, whose arguments are all typed, has no rule for the number, types and
-- marks of its operands; and the refusal's number and place are the first fault's, arguments before their call, left to right. Every expression is
-- one or the other, never both.
--
-- Of an accepted expression, the worksheet's leaves and calls are its own, marks included, in order. The strict machine runs the worksheet, as lines
-- and as bytes, from the empty stack to its end, and leaves exactly one operand, of the type and mark answered. The worksheet needs four bytes
-- for each line, and 508 bytes always suffice.
use Rattle.std.specs.Prelude.{◌≡◌, ◌↔◌, ◌⊎◌, Bool, List, [], ◌∷◌, ℕ, ◌*◌, ◌≤◌, length}
use Rattle.types.specs.declared.operand.Operand.{Operand}
use Rattle.rules.specs.Signature.{Signature}
use Rattle.theorems.specs.Taking.{OneLength}
use Rattle.expressions.specs.Tree.{Tree}
use Rattle.expressions.specs.Limits.{WellFormed}
use Rattle.machine.specs.Line.{Line, encode}
use Rattle.machine.specs.Machine.{ended, step, run_by, run_bytes}
use Rattle.worksheet.specs.Typer.{typed, refused, type_of}
use Rattle.worksheet.specs.Answer.{with_room}
use Rattle.worksheet.specs.private.Sheet.{enough_bytes}
use Rattle.theorems.specs.Meaning.{order, own_of, Gives, Stuck}
use Rattle.theorems.specs.Fault.{Fails}

-- of the lines that an expression gives
pub record Worksheet (listing_of : ℕ → List Signature) (e : Tree) (o : Operand) (ls : List Line) : Type 0 where
  pub its_own : own_of ls ≡ order e
  pub lines_run : run_by (step listing_of) ls 0 [] ≡ ended (o ∷ [])
  pub bytes_run : run_bytes listing_of (encode ls) ≡ ended (o ∷ [])
  pub needed : length (encode ls) ≡ 4 * length ls
  pub suffice : length (encode ls) ≤ enough_bytes

-- of an expression
pub record Demand3 (listing_of : ℕ → List Signature) (switch : Bool) (e : Tree) : Type 0 where
  -- accepted, exactly where the expression gives this operand and these lines
  pub accepted : (o : Operand) (ls : List Line) → type_of listing_of switch e 0 ≡ typed o ls ↔ Gives listing_of switch e o ls
  pub worksheet : (o : Operand) (ls : List Line) → Gives listing_of switch e o ls → Worksheet listing_of e o ls
  -- refused, exactly where it is stuck; and by this number and place, exactly where it fails by them
  pub stuck : ((n : ℕ) × (p : ℕ) × (type_of listing_of switch e 0 ≡ refused n p)) ↔ Stuck listing_of switch e
  pub failed : (n p : ℕ) → type_of listing_of switch e 0 ≡ refused n p ↔ Fails listing_of switch e 0 n p
  -- one or the other
  pub either_one : ((o : Operand) × (ls : List Line) × Gives listing_of switch e o ls) ⊎ Stuck listing_of switch e
  pub never_both : (o : Operand) (ls : List Line) → Gives listing_of switch e o ls → Stuck listing_of switch e → ⊥
  -- with enough bytes, the answer is never a want of room
  pub room_enough : (buffer : List ℕ) → enough_bytes ≤ length buffer → with_room buffer (type_of listing_of switch e 0) ≡ type_of listing_of switch e 0

-- over any database of one rule length in each listing, with the switch on or off, of every expression within the limits
abbrev pub Theorem : Type 0
Theorem =
    (listing_of : ℕ → List Signature) (switch : Bool) → ((f : ℕ) → OneLength (listing_of f)) → (functions : ℕ) (e : Tree)
    → WellFormed functions e → Demand3 listing_of switch e
