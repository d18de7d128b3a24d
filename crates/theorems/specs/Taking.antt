-- 'A single call', apart from the steps that find the answer: which rules take operands, which of them a call means, and what is wrong
-- where none does. For a listing whose rules all have one length. Demand 2 and Demand 3 are said in these terms.
use Rattle.std.specs.Prelude.{◌≡◌, ◌↔◌, Bool, true, List, ℕ, zero, suc, ◌/◌, ◌^◌, ◌≤◌, ◌<◌, length, get_or}
use Rattle.std.proofs.Math.Option.{some}
use Rattle.std.proofs.Math.ListN.{get_elem?}
use Rattle.scalars.specs.Mask.{odd}
use Rattle.rules.specs.Signature.{Signature, same_shape, reaches, concrete}
use Rattle.rules.specs.Verdict.{longest}
use Rattle.rules.specs.declared.rule.Part.{Part}
use Rattle.rules.specs.declared.rule.Part.TheVariants.{Shape, Number}
use Rattle.calls.specs.Choice.{Choice, chosen, wrong_count, none_after, none_concrete}

-- a rule takes operands: as many as it has arguments, each of them its argument's type or converted to it, and, with the
-- concrete-only switch on, no argument abstract
pub record Takes (switch : Bool) (ts : List ℕ) (r : Signature) : Type 0 where
  pub many : length ts ≡ length r.arguments
  pub reached : (k : ℕ) → k < length ts → reaches (get_or ts k 0) (get_or r.arguments k 0) ≡ true
  pub allowed : switch ≡ true → concrete r ≡ true

-- a rule of a listing, at its index, that takes the operands
pub record Taken (switch : Bool) (rules : List Signature) (ts : List ℕ) : Type 0 where
  pub index : ℕ
  pub rule : Signature
  pub there : get_elem? rules index ≡ some rule
  pub takes : Takes switch ts rule

-- no rule of a listing takes the operands
unfoldable pub NoRule : Bool → List Signature → List ℕ → Type 0
NoRule switch rules ts = (i : ℕ) (r : Signature) → get_elem? rules i ≡ some r → Takes switch ts r → ⊥

-- the rule at this index takes the operands, and no rule before it does
pub record Best (switch : Bool) (rules : List Signature) (ts : List ℕ) (i : ℕ) (r : Signature) : Type 0 where
  pub there : get_elem? rules i ≡ some r
  pub taken : Takes switch ts r
  pub earliest : (j : ℕ) → j < i → (r' : Signature) → get_elem? rules j ≡ some r' → Takes switch ts r' → ⊥

-- every rule of a listing has as many arguments as the longest
unfoldable pub OneLength : List Signature → Type 0
OneLength rules = (i : ℕ) (r : Signature) → get_elem? rules i ≡ some r → length r.arguments ≡ longest rules

-- a rule is left after operand k: it has that argument, and takes this operand and those before it
pub record LeftAfter (rules : List Signature) (ts : List ℕ) (k : ℕ) : Type 0 where
  pub index : ℕ
  pub rule : Signature
  pub there : get_elem? rules index ≡ some rule
  pub long : k < length rule.arguments
  pub reached : (j : ℕ) → j ≤ k → reaches (get_or ts j 0) (get_or rule.arguments j 0) ≡ true

-- a rule has operand k's shape there: it has that argument, takes the operands before k, and its constructor at k is the operand's
pub record ShapeLeft (rules : List Signature) (ts : List ℕ) (k : ℕ) : Type 0 where
  pub index : ℕ
  pub rule : Signature
  pub there : get_elem? rules index ≡ some rule
  pub long : k < length rule.arguments
  pub reached : (j : ℕ) → j < k → reaches (get_or ts j 0) (get_or rule.arguments j 0) ≡ true
  pub shape : same_shape (get_or ts k 0) (get_or rule.arguments k 0) ≡ true

-- operand k leaves no rule: by its shape, where no rule that takes those before it has its shape; by its number, where one has, but none
-- takes it
abbrev pub NoneBy : Part → List Signature → List ℕ → ℕ → Type 0
NoneBy Shape rules ts k = ShapeLeft rules ts k → ⊥
NoneBy Number rules ts k = ShapeLeft rules ts k × (LeftAfter rules ts k → ⊥)

-- the number of operands is the rules', some rule takes those before k, and this part of k leaves none
pub record Emptied (part : Part) (rules : List Signature) (ts : List ℕ) (k : ℕ) : Type 0 where
  pub counted : length ts ≡ longest rules
  pub there : k < length ts
  pub before : (j : ℕ) → j < k → LeftAfter rules ts j
  pub none : NoneBy part rules ts k

-- with a rule left after each operand, none takes them all: the switch drops every one
pub record Dropped (switch : Bool) (rules : List Signature) (ts : List ℕ) : Type 0 where
  pub counted : length ts ≡ longest rules
  pub after : (j : ℕ) → j < length ts → LeftAfter rules ts j
  pub none : NoRule switch rules ts

-- bit i of a mask is set
abbrev pub bit : ℕ → ℕ → Bool
bit zero m = odd m
bit (suc i) m = bit i (m / 2)

-- a mask of the survivors: bit i is set exactly when rule i takes the operands, and no bit behind the last rule
pub record Survive (switch : Bool) (rules : List Signature) (ts : List ℕ) (m : ℕ) : Type 0 where
  pub within : m < 2 ^ length rules
  pub exactly : (i : ℕ) (r : Signature) → get_elem? rules i ≡ some r → bit i m ≡ true ↔ Takes switch ts r

-- what each choice says
abbrev pub Says : Bool → List Signature → List ℕ → Choice → Type 0
Says switch rules ts (chosen i r) = Best switch rules ts i r
Says switch rules ts wrong_count = length ts ≡ longest rules → ⊥
Says switch rules ts (none_after part k) = Emptied part rules ts k
Says switch rules ts none_concrete = Dropped switch rules ts
