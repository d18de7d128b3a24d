-- No measured operand is ever abstract: document 02's (v), 'a force reading can't be an abstract number', of all that the machine and the
-- typer make of operands. Take any database in which a rule that has arguments, none of them abstract, has no abstract result. The
-- listings of the 79 functions are such a database.
--
-- The strict machine, run by any lines on a stack on which no measured operand is abstract, leaves none that is; so do the bytes of any
-- worksheet, run from the empty stack.
--
-- The typer, with the concrete-only switch on or off, makes a measured abstract operand of no expression, unless one of its leaves is such
-- an operand; nor of any of a call's operands.
--
-- And so of the functions, whatever answers their contracts permit: no call of `call_of` has a measured abstract result, `type_expression`
-- announces no such operand, and `run_worksheet` ends with none on top.
use Rattle.std.specs.Prelude.{◌≡◌, Bool, true, false, List, [], ◌∷◌, ℕ, ◌<◌, length, Ok, Some}
use Rattle.std.proofs.Math.Option.{some}
use Rattle.std.proofs.Math.ListN.{get_elem?}
use Rattle.types.specs.Domain.{is_abstract}
use Rattle.types.specs.Operand.{measured_abstract}
use Rattle.types.specs.declared.operand.Operand.{Operand}
use Rattle.rules.specs.Signature.{Signature, concrete}
use Rattle.functions.specs.Functions.{listing_of}
use Rattle.expressions.specs.Tree.{Tree, Trees}
use Rattle.expressions.specs.Limits.{Measurable, MeasurableAll}
use Rattle.machine.specs.Line.{Line}
use Rattle.machine.specs.Machine.{ended, step, run_by, run_bytes}
use Rattle.worksheet.specs.Typer.{typed, type_of, type_all}
use Rattle.lists.specs.declared.list.Chosen.{Chosen}
use Rattle.calls.specs.contracts as single
use Rattle.calls.proofs as single_proofs
use Rattle.worksheet.specs.contracts as worksheet
use Rattle.worksheet.proofs as worksheet_proofs
use Rattle.machine.specs.contracts as machine
use Rattle.machine.proofs as machine_proofs
use Rattle.theorems.specs.ByContract.{Promises}

-- a rule has no abstract result, if it has arguments and none of them is abstract
abbrev pub ConcreteResult : Signature → Type 0
ConcreteResult r = 0 < length r.arguments → concrete r ≡ true → is_abstract r.result ≡ false

-- and so each rule of each listing
unfoldable pub ConcreteResults : (ℕ → List Signature) → Type 0
ConcreteResults rules_of = (f i : ℕ) (r : Signature) → get_elem? (rules_of f) i ≡ some r → ConcreteResult r

-- none of these operands is measured and abstract
abbrev pub NoneAbstract : List Operand → Type 0
NoneAbstract [] = Unit
NoneAbstract (o ∷ os) = (measured_abstract o ≡ false) × NoneAbstract os

-- of a database
pub record Measured (rules_of : ℕ → List Signature) : Type 0 where
  -- the machine: of lines from any number on, on any stack, and of bytes
  pub lines : (ls : List Line) (n : ℕ) (s s' : List Operand) → NoneAbstract s → run_by (step rules_of) ls n s ≡ ended s' → NoneAbstract s'
  pub bytes : (bs : List ℕ) (s : List Operand) → run_bytes rules_of bs ≡ ended s → NoneAbstract s
  -- the typer: of an expression at any offset, and of operands
  pub expression : (switch : Bool) (e : Tree) (at : ℕ) → Measurable e → (o : Operand) (ls : List Line)
      → type_of rules_of switch e at ≡ typed o ls → measured_abstract o ≡ false
  pub operands : (switch : Bool) (es : Trees) (at : ℕ) → MeasurableAll es → (os : List Operand) (ls : List Line)
      → type_all rules_of switch es at ≡ typed os ls → NoneAbstract os

-- over any database
abbrev pub Theorem : Type 0
Theorem = (rules_of : ℕ → List Signature) → ConcreteResults rules_of → Measured rules_of

-- the 79 functions
abbrev pub OfFunctions : Type 0
OfFunctions = ConcreteResults listing_of

-- the functions
pub record Answers : Type 0 where
  pub calls : Promises single.call_of.ended single_proofs.call_of.Reads.Post
      (λ κs a r s. (c : Chosen) → r ≡ Ok (record { chosen = c; measured = true }) → is_abstract c.rule.result ≡ false)
  pub expressions : Promises worksheet.type_expression.ended worksheet_proofs.type_expression.Reads.Post
      (λ κs a r s. (o : Operand) (n : ℕ) → r ≡ Ok (record { result = o; len = n }) → measured_abstract o ≡ false)
  pub runs : Promises machine.run_worksheet.ended machine_proofs.run_worksheet.Reads.Post
      (λ κs a r s. (n : ℕ) (o : Operand) → r ≡ Ok (record { operands = n; top = Some o }) → measured_abstract o ≡ false)
