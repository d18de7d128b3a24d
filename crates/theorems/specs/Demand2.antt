-- Demand 2, of single calls, over the definitions: of what `resolve` and `survivors_of` say, which the contracts of `call_of` and
-- `survivors_of` cite. Calls says it of those contracts. Over any listing whose rules have one length, with the concrete-only switch on
-- or off:
--
-- * The survivors of a call are the rules of the listing that take the operands: bit i of their mask is set exactly when rule i does. The
--   preferred rule is the first of them, its index its place in the full listing, and the result that rule's own.
-- * What a call answers is exactly what is so: a rule, the first of the listing that takes the operands; 5 where no rule takes that
--   number of operands; 6 at operand k where some rule takes the operands before k, but none of those that do has k's shape; 16 at operand
--   k where one of them has its shape, but none takes k too; 1 where rules take the operands and the switch drops them all.
-- * A call is accepted exactly when some rule of the listing has that many arguments, each equal to or reached from the operand's
--   type, and with the switch on no abstract argument.
-- * An operand that is no scalar, vector or matrix, as a predeclared result is none, matches no rule.
-- * Over a listing of at least one rule, 1 comes of the switch alone: it is on, and rules that take the operands without it are all dropped.
use Rattle.std.specs.Prelude.{◌≡◌, ◌↔◌, Bool, true, false, List, [], ◌∷◌, ℕ, ◌≤◌, ◌<◌, length, get_or}
use Rattle.scalars.specs.Mask.{select}
use Rattle.types.specs.Domain.{other_type}
use Rattle.rules.specs.Signature.{Signature}
use Rattle.lists.specs.Entry.{number}
use Rattle.calls.specs.Choice.{Choice, chosen, none_concrete, first, resolve}
use Rattle.theorems.specs.Taking.{Taken, NoRule, OneLength, Survive, Says}
use Rattle.calls.specs.Call.{answered, survivors_of}
use Rattle.scalars.specs.Paper as paper
use Rattle.lists.specs.ChosenPaper.{no_choice}

-- of a listing and operands
pub record Demand2 (switch : Bool) (rules : List Signature) (ts : List ℕ) : Type 0 where
  -- a choice is made exactly when what it says is so
  pub chosen-so : (c : Choice) → resolve switch rules ts ≡ c → Says switch rules ts c
  pub so-chosen : (c : Choice) → Says switch rules ts c → resolve switch rules ts ≡ c
  -- a call is accepted exactly when some rule takes the operands
  pub accepted : (i : ℕ) (r : Signature) → resolve switch rules ts ≡ chosen i r → Taken switch rules ts
  pub accepts : Taken switch rules ts → (i : ℕ) × (r : Signature) × (resolve switch rules ts ≡ chosen i r)
  -- the survivors are the rules that take the operands, and the first of them is chosen
  pub survive : (m : ℕ) → survivors_of switch rules ts ≡ paper.accepted (m ∷ []) → Survive switch rules ts m
  pub preferred : (m : ℕ) → survivors_of switch rules ts ≡ paper.accepted (m ∷ []) → resolve switch rules ts ≡ first (select (number 0 rules) m)
  -- what is no value of a scalar, a vector or a matrix matches no rule
  pub no_value : (k : ℕ) → k < length ts → other_type ≤ get_or ts k 0 → NoRule switch rules ts
  -- of at least one rule, the switch drops those that take the operands
  pub dropped : 0 < length rules → resolve switch rules ts ≡ none_concrete ↔ ((switch ≡ true) × Taken false rules ts × NoRule true rules ts)
  -- the survivors are refused exactly when the call is, for the same reason
  pub refused : (n p : ℕ) → survivors_of switch rules ts ≡ paper.refusal n p (0 ∷ []) ↔ answered (resolve switch rules ts) ≡ paper.refusal n p no_choice

-- over any listing of one rule length
abbrev pub Theorem : Type 0
Theorem = (switch : Bool) (rules : List Signature) (ts : List ℕ) → OneLength rules → Demand2 switch rules ts
