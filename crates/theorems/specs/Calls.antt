-- Demand 2, of single calls, over the contracts; Demand2 says it over the definitions. Take any function number f, any types ts and marks
-- ms beside them, the switch on or off, and whatever answers the contracts of `call_of` and `survivors_of` permit of them.
--
-- * 7 at 0 exactly when there is no function f; 8 at the shorter length exactly when there is, and not a mark for each type.
-- * 7 or 17 at 1 + i exactly when operand i is the first that is not in order: no type or no mark, or measured and abstract.
-- A call is measured if any operand is, and then takes the concrete-only step as if the switch were on; its result is then measured, which
-- the mark behind the chosen rule says. But for that mark, of a function and operands in order, a call answers what the operations on the
-- function's set answer, of either kind:
-- * 5 exactly when the number of operands is below the least count or above the most. Otherwise the set is asked for `arg` by the shape
--   and then by the number of each operand in turn, and then for `concrete_only` if the switch is on or the call
--   measured.
-- * 6 at operand k exactly when `is_empty` says no before the step by its shape and yes with it; 16 exactly when it says no before the
--   step by its number and yes with it.
-- * 1 exactly when `is_empty` says no after the last operand, and yes after `concrete_only`.
-- * A rule exactly when `most_preferred` answers it after all the steps; of a List, with the same index.
-- And it answers what the function's full listing says, apart from all steps: the first rule that takes the operands, with its index, or
-- what is wrong.
--
-- The survivors of a call are the rules of the full listing that take the operands, and the call's rule is the first of them. Where a
-- call is refused its survivors are refused alike, and conversely.
use Rattle.std.specs.Prelude.{◌≡◌, ◌↔◌, Bool, true, false, List, [], ◌∷◌, ◌++◌, ℕ, suc, ◌+◌, ◌≤◌, ◌<◌, min, length, get_or, take, Result}
use Rattle.scalars.specs.Mask.{select}
use Rattle.scalars.specs.Paper.{Paper, accepted, refusal}
use Rattle.types.specs.Operand.{any_mark, concrete_only}
use Rattle.rules.specs.declared.rule.Part.{Part}
use Rattle.rules.specs.declared.rule.Part.TheVariants.{Shape, Number}
use Rattle.rules.specs.declared.rule.Keep.{Keep}
use Rattle.rules.specs.declared.rule.Keep.TheVariants.{Argument, Concrete}
use Rattle.regular.specs.declared.regular.Regular.{Regular}
use Rattle.functions.specs.declared.listed_rules.ListFunction.{ListFunction}
use Rattle.functions.specs.Functions.{function_count, listing_of}
use Rattle.functions.specs.declared.mathfunction.FunctionSet.TheVariants as function
use Rattle.lists.specs.Entry.{number}
use Rattle.lists.specs.ChosenPaper.{no_choice}
use Rattle.lists.specs.declared.list.List as declared
use Rattle.scalars.specs.declared.refusal.Refusal.{Refusal}
use Rattle.calls.specs.declared.outcome.Called.{Called}
use Rattle.calls.specs.Choice.{Choice, first}
use Rattle.theorems.specs.Taking.{Survive, Says}
use Rattle.calls.specs.Call.{answered, with_mark}
use Rattle.calls.specs.CallPaper.{call_paper}
use Rattle.calls.specs.SurvivorsPaper.{survivors_paper}
use Rattle.functions.proofs as functions_proofs
use Rattle.calls.specs.contracts as single
use Rattle.calls.proofs as single_proofs
use Rattle.theorems.specs.ByContract.{Promises}
use Rattle.theorems.specs.InOrder.{FirstWrong, AllRight}
use Rattle.theorems.specs.Operations.{Set, regular, list, Empty, Least, Most, Preferred, After}

-- the set of a function: what `function_set` answers; where that names a List, what `full_list` answers
pub data Has (f : ℕ) : Set → Type 0 where
  its_regular : (r : Regular) → functions_proofs.function_set.Reads.Post tt (f, tt) (function.Regular r) (f, tt) → Has f (regular r)
  its_list : (d : ListFunction) {l : declared.List} → functions_proofs.function_set.Reads.Post tt (f, tt) (function.List d) (f, tt)
      → single_proofs.full_list.Reads.Post tt (d, tt) l (d, tt) → Has f (list l)

-- the steps of a call: each operand at its index, by its shape and by its number, then the concrete-only step if the switch is on
abbrev pub last_step : Bool → List Keep
last_step false = []
last_step true = Concrete ∷ []

abbrev pub steps_from : Bool → ℕ → List ℕ → List Keep
steps_from switch k [] = last_step switch
steps_from switch k (t ∷ ts) = Argument Shape k t ∷ Argument Number k t ∷ steps_from switch (suc k) ts

-- those before the one by this part of operand k
abbrev pub steps_before : Part → List ℕ → ℕ → List Keep
steps_before Shape ts k = steps_from false 0 (take k ts)
steps_before Number ts k = steps_from false 0 (take k ts) ++ (Argument Shape k (get_or ts k 0) ∷ [])

-- n operands are neither fewer than the least count nor more than the most
pub record Fits (s : Set) (n : ℕ) : Type 0 where
  pub least : ℕ
  pub most : ℕ
  pub least-is : Least s (accepted (least ∷ []))
  pub most-is : Most s (accepted (most ∷ []))
  pub enough : least ≤ n
  pub few : n ≤ most

-- `is_empty` turns from no to yes with the step by this part of operand k
pub record EmptiedAt (part : Part) (s : Set) (ts : List ℕ) (k : ℕ) : Type 0 where
  pub there : k < length ts
  pub before : After Empty (steps_before part ts k) s (accepted (0 ∷ []))
  pub after : After Empty (steps_before part ts k ++ (Argument part k (get_or ts k 0) ∷ [])) s (accepted (1 ∷ []))

-- and from no to yes with `concrete_only`
pub record Dropped (switch : Bool) (s : Set) (ts : List ℕ) : Type 0 where
  pub before : After Empty (steps_from false 0 ts) s (accepted (0 ∷ []))
  pub after : After Empty (steps_from switch 0 ts) s (accepted (1 ∷ []))

-- a call answers a rule, with its index in front; a Regular set answers the rule alone
abbrev pub AnswersRule : Set → Paper → List ℕ → Type 0
AnswersRule (regular r) p vs = (i : ℕ) × (p ≡ accepted (i ∷ vs))
AnswersRule (list l) p vs = p ≡ accepted vs

pub record BySet (switch : Bool) (s : Set) (ts : List ℕ) (p : Paper) : Type 0 where
  pub other_count : p ≡ refusal 5 0 no_choice ↔ (Fits s (length ts) → ⊥)
  pub wrong_shape : (k : ℕ) → p ≡ refusal 6 (1 + k) no_choice ↔ (Fits s (length ts) × EmptiedAt Shape s ts k)
  pub wrong_number : (k : ℕ) → p ≡ refusal 16 (1 + k) no_choice ↔ (Fits s (length ts) × EmptiedAt Number s ts k)
  pub dropped : p ≡ refusal 1 0 no_choice ↔ (Fits s (length ts) × Dropped switch s ts)
  pub rule : (vs : List ℕ) → AnswersRule s p vs ↔ (Fits s (length ts) × After Preferred (steps_from switch 0 ts) s (accepted vs))

-- a call of these marks asks for the concrete-only step
abbrev asks : Bool → List ℕ → Bool
asks switch ms = concrete_only switch (any_mark ms)

pub record Call (switch : Bool) (f : ℕ) (ts ms : List ℕ) (p : Paper) : Type 0 where
  pub unknown_function : p ≡ refusal 7 0 no_choice ↔ function_count ≤ f
  pub unequal : (i : ℕ) → p ≡ refusal 8 i no_choice
      ↔ ((f < function_count) × (length ts ≡ length ms → ⊥) × (i ≡ min (length ts) (length ms)))
  pub unknown_operand : (i : ℕ) → p ≡ refusal 7 (1 + i) no_choice ↔ ((f < function_count) × FirstWrong ts ms 7 i)
  pub abstract_operand : (i : ℕ) → p ≡ refusal 17 (1 + i) no_choice ↔ ((f < function_count) × FirstWrong ts ms 17 i)
  pub has_set : f < function_count → (s : Set) × Has f s
  pub by_set : f < function_count → AllRight ts ms → (s : Set) → Has f s
      → (q : Paper) × BySet (asks switch ms) s ts q × (p ≡ with_mark (any_mark ms) q)
  pub by_listing : f < function_count → AllRight ts ms
      → (c : Choice) × Says (asks switch ms) (listing_of f) ts c × (p ≡ with_mark (any_mark ms) (answered c))

-- of the answers p of `call_of` and q of `survivors_of` to the same arguments
pub record Survivors (switch : Bool) (f : ℕ) (ts ms : List ℕ) (p q : Paper) : Type 0 where
  pub refused_alike : (n i : ℕ) → q ≡ refusal n i (0 ∷ []) ↔ p ≡ refusal n i no_choice
  pub survive : (m : ℕ) → q ≡ accepted (m ∷ []) → Survive (asks switch ms) (listing_of f) ts m
  pub preferred : (m : ℕ) → q ≡ accepted (m ∷ []) → p ≡ with_mark (any_mark ms) (answered (first (select (number 0 (listing_of f)) m)))

pub record Theorem : Type 0 where
  pub calls : Promises single.call_of.ended single_proofs.call_of.Reads.Post
      (λ κs a r s. Call a.1.1.1.0 a.0 a.1.0.now a.1.1.0.now (call_paper r))
  pub survivors : Promises single.survivors_of.ended single_proofs.survivors_of.Reads.Post
      (λ κs a q s. (r : Result Called Refusal) → single_proofs.call_of.Reads.Post κs a r s
      → Survivors a.1.1.1.0 a.0 a.1.0.now a.1.1.0.now (call_paper r) (survivors_paper q))
