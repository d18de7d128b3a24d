-- Demand 3 of the entry points themselves: `type_expression`, which types an expression, and the strict machine's `run_worksheet`. Demand3
-- says it of trees, over the definitions. Take any bytes s, either position of the concrete-only switch and any lent buffer d, and any
-- answer r and final buffer d' that the promise of `type_expression` permits for them.
--
-- The answer is accepted with the type and mark of an operand o and length n exactly when s is the bytes of a well-formed expression that
-- gives o, each call in it by the first rule that takes its operands, by lines of n bytes that d has room for. Then d' begins with the bytes of these lines,
-- and behind them it is as d was; the lines' leaves and calls are the expression's own, marks included, in order; and any answer that the promise of
-- `run_worksheet` permits for these very bytes of d' is the end, with one operand, of o's type and mark. Where d has room for what s gives, the
-- answer is refused exactly when s is the bytes of no well-formed expression, or of one in which some call has no rule for the number,
-- types and marks of its operands. Where d has too little room for what s gives, the answer is refusal 10, at the bytes needed; 508
-- bytes always suffice. On every refusal d' is d.
use Rattle.std.specs.Prelude.{◌≡◌, ◌↔◌, ◌⊎◌, Bool, List, [], ◌∷◌, ◌++◌, ℕ, ◌≤◌, ◌<◌, length, take, drop, Result}
use Rattle.scalars.specs.Paper as paper
use Rattle.types.specs.Operand.{mark_of}
use Rattle.types.specs.declared.operand.Operand.{Operand}
use Rattle.functions.specs.Functions.{function_count, listing_of}
use Rattle.expressions.specs.Tree.{Tree, bytes_of}
use Rattle.expressions.specs.Limits.{WellFormed}
use Rattle.machine.specs.Line.{Line, encode}
use Rattle.machine.specs.Run.{run_paper}
use Rattle.machine.specs.contracts as machine
use Rattle.machine.proofs as machine_proofs
use Rattle.scalars.specs.declared.refusal.Refusal.{Refusal}
use Rattle.worksheet.specs.declared.typer.Typed.{Typed}
use Rattle.worksheet.specs.private.Sheet.{enough_bytes}
use Rattle.worksheet.specs.Typing.{no_type, type_values, type_paper}
use Rattle.theorems.specs.Meaning.{order, own_of, Gives, Stuck}
use Rattle.worksheet.specs.contracts as worksheet
use Rattle.worksheet.proofs as worksheet_proofs
use Rattle.theorems.specs.ByContract.{Promises}

-- s is the bytes of this expression, which is well formed
pub record Spells (s : List ℕ) (e : Tree) : Type 0 where
  pub text : s ≡ bytes_of e
  pub well_formed : WellFormed function_count e

module _ (switch : Bool) (s d : List ℕ) where
  -- and the expression gives this operand by these lines
  pub record Giving (e : Tree) (o : Operand) (ls : List Line) : Type 0 where
    pub spelt : Spells s e
    pub given : Gives listing_of switch e o ls

  -- there is room for these lines
  abbrev pub Room : List Line → Type 0
  Room ls = length (encode ls) ≤ length d

  -- the worksheet in the final buffer
  pub record Worksheet (d' : List ℕ) (e : Tree) (o : Operand) (ls : List Line) : Type 0 where
    pub in_front : d' ≡ encode ls ++ drop (length (encode ls)) d
    pub its_own : own_of ls ≡ order e
    pub runs : Promises machine.run_worksheet.ended machine_proofs.run_worksheet.Reads.Post
        (λ κs a q _. a.0.now ≡ take (length (encode ls)) d' → run_paper q ≡ paper.accepted (1 ∷ o.code ∷ mark_of o.measured ∷ []))

  pub record Demand3 (r : Result Typed Refusal) (d' : List ℕ) : Type 0 where
    pub accepted : (o : Operand) (n : ℕ) → type_paper r ≡ paper.accepted (type_values o n)
        ↔ ((e : Tree) × (ls : List Line) × Giving e o ls × Room ls × (length (encode ls) ≡ n))
    pub worksheet : (e : Tree) (o : Operand) (ls : List Line) → Giving e o ls → Room ls → Worksheet d' e o ls
    pub refused : ((e : Tree) (o : Operand) (ls : List Line) → Giving e o ls → Room ls)
        → ((n : ℕ) × (p : ℕ) × (type_paper r ≡ paper.refusal n p no_type))
        ↔ (((e : Tree) → Spells s e → ⊥) ⊎ ((e : Tree) × Spells s e × Stuck listing_of switch e))
    pub short : (e : Tree) (o : Operand) (ls : List Line) → Giving e o ls → length d < length (encode ls)
        → type_paper r ≡ paper.refusal 10 (length (encode ls)) no_type
    pub suffices : enough_bytes ≤ length d → (e : Tree) (o : Operand) (ls : List Line) → Giving e o ls → Room ls
    pub kept : (n p : ℕ) → type_paper r ≡ paper.refusal n p no_type → d' ≡ d

-- of every call that the contract permits: its bytes, its switch, and its buffer before and after
abbrev pub Theorem : Type 0
Theorem =
    Promises worksheet.type_expression.ended worksheet_proofs.type_expression.Reads.Post
    (λ κs a r s. Demand3 a.1.0 a.0.now a.1.1.0.now r s.1.1.0.now)
