-- The test that stands before a call: where it refuses, whatever was asked is refused so; where it passes, there is a mark for each type, it
-- tells whether an operand is measured, and the answer is that of the types and of that. Assumes nothing.
use mathlib.Core.Path.{◌≡◌, refl, sym, ap, ◌∙◌}
use mathlib.Core.Bool.{Bool, true, false}
use mathlib.Core.List.{List, [], ◌∷◌}
use Prim.Native.Nat.{ℕ, suc, ◌+◌, ◌<◌, min}
use native.Mathlib.Omega.{arith}
use lib.Dec.{eqb, ltb}
use lib.ListN.{length}
use borrow.Author.Tests.{lt-ltb, eqb-true, eq-eqb, ne_eqb}
use Rattle.scalars.specs.Mask.{choose}
use Rattle.scalars.specs.Paper.{Paper, accepted, refusal, refused, when_accepted}
use Rattle.scalars.specs.declared.refusal.Refusal.{Refusal}
use Rattle.types.specs.Operand.{mark_of, operands_of, any_measured, any_mark, concrete_only}
use Rattle.types.proofs.Operands.{codes-beside, measured-beside}
use Rattle.lists.specs.ChosenPaper.{no_choice}
use Rattle.functions.specs.Functions.{function_count, listing_of}
use Rattle.calls.specs.Choice.{resolve}
use Rattle.calls.specs.private.Found.{in_order}
use Rattle.calls.specs.Call.{answered, operand_fault, if_operands, if_call_known, with_mark, call_of, survivors_of, survivors_of_call}

-- the test by itself
abbrev pub tested : ℕ → List ℕ → List ℕ → Paper
tested f ts ms = if_call_known function_count f ts ms [] (in_order ms)

-- ---- its parts, of a known function

module _ (f : ℕ) (ts ms : List ℕ) (known : f < function_count) where
  pub more-marks : length ts < length ms → refusal 8 (length ts) [] ≡ tested f ts ms
  more-marks h =
      let shorter : min (length ts) (length ms) ≡ length ts = omega arith in
      rw (lt-ltb f function_count known, ne_eqb (length ts) (length ms) (λ e. omega arith), shorter)

  pub more-types : length ms < length ts → refusal 8 (length ms) [] ≡ tested f ts ms
  more-types h =
      let shorter : min (length ts) (length ms) ≡ length ms = omega arith in
      rw (lt-ltb f function_count known, ne_eqb (length ts) (length ms) (λ e. omega arith), shorter)

  pub as_many : length ts ≡ length ms → if_operands 0 ts ms [] (in_order ms) ≡ tested f ts ms
  as_many e = rw (lt-ltb f function_count known, eq-eqb (length ts) (length ms) e)

-- ---- what is asked stands behind it

module _ (vs : List ℕ) (answer : Paper) where
  abbrev behind : Paper → Paper
  behind test = when_accepted test (λ (ws : List ℕ). answer) vs

  operands-behind : (us : List ℕ) (k : ℕ) (ts ms : List ℕ) → behind (if_operands k ts ms [] (accepted us)) ≡ if_operands k ts ms vs answer
  operands-behind us k [] ms = refl
  operands-behind us k (t ∷ ts) [] = refl
  operands-behind us k (t ∷ ts) (m ∷ ms) = go (eqb (operand_fault t m) 0) (operands-behind us (suc k) ts ms)
    where
      go : (b : Bool) → behind (if_operands (suc k) ts ms [] (accepted us)) ≡ if_operands (suc k) ts ms vs answer
          → behind (choose b (if_operands (suc k) ts ms [] (accepted us)) (refusal (operand_fault t m) (1 + k) []))
          ≡ choose b (if_operands (suc k) ts ms vs answer) (refusal (operand_fault t m) (1 + k) vs)
      go true later = later
      go false later = refl

  module _ (f : ℕ) (ts ms : List ℕ) where
    call-behind : behind (tested f ts ms) ≡ if_call_known function_count f ts ms vs answer
    call-behind = go (ltb f function_count) (eqb (length ts) (length ms))
      where
        go : (b d : Bool) → behind (choose b (choose d (if_operands 0 ts ms [] (in_order ms)) (refusal 8 (min (length ts) (length ms)) [])) (refusal 7 0 []))
            ≡ choose b (choose d (if_operands 0 ts ms vs answer) (refusal 8 (min (length ts) (length ms)) vs)) (refusal 7 0 vs)
        go true true = operands-behind _ 0 ts ms
        go true false = refl
        go false d = refl

    pub test-refused : (why : Refusal) → tested f ts ms ≡ refused why [] → refused why vs ≡ if_call_known function_count f ts ms vs answer
    test-refused why e = sym (ap behind e) ∙ call-behind

    pub test-passed : (us : List ℕ) → tested f ts ms ≡ accepted us → answer ≡ if_call_known function_count f ts ms vs answer
    test-passed us e = sym (ap behind e) ∙ call-behind

-- ---- where it refuses

module _ (switch : Bool) (f : ℕ) (ts ms : List ℕ) (why : Refusal) (e : tested f ts ms ≡ refused why []) where
  pub refused-call : refused why no_choice ≡ call_of function_count listing_of switch f ts ms
  unfolding call_of
  refused-call = test-refused no_choice _ f ts ms why e

  pub refused-survivors : refused why (0 ∷ []) ≡ survivors_of_call function_count listing_of switch f ts ms
  unfolding survivors_of_call
  refused-survivors = test-refused (0 ∷ []) _ f ts ms why e

-- ---- where it passes

pub mark_for_each : (f : ℕ) (ts ms us : List ℕ) → tested f ts ms ≡ accepted us → length ts ≡ length ms
mark_for_each f ts ms us e = go (ltb f function_count) (eqb (length ts) (length ms)) refl e
  where
    go : (b d : Bool) → eqb (length ts) (length ms) ≡ d
        → choose b (choose d (if_operands 0 ts ms [] (in_order ms)) (refusal 8 (min (length ts) (length ms)) [])) (refusal 7 0 []) ≡ accepted us
        → length ts ≡ length ms
    go true true d p = eqb-true _ _ d
    go true false d p = let z : ◌≡◌ {A = ℕ} 0 1 = cc in absurd (omega arith)
    go false b d p = let z : ◌≡◌ {A = ℕ} 0 1 = cc in absurd (omega arith)

-- a mark is of one kind of operand
one-mark : (a b : Bool) → mark_of a ≡ mark_of b → a ≡ b
one-mark true true e = refl
one-mark true false e = absurd (omega arith)
one-mark false true e = absurd (omega arith)
one-mark false false e = refl

module _ (switch : Bool) (f : ℕ) (ts ms : List ℕ) (measured : Bool) {concrete : Bool} (e : tested f ts ms ≡ accepted (mark_of measured ∷ []))
    (asked : concrete ≡ concrete_only switch measured) where
  -- what the test found
  some : measured ≡ any_mark ms
  some =
      let found : in_order ms ≡ accepted (mark_of measured ∷ []) = test-passed [] (in_order ms) f ts ms _ e ∙ e in
      one-mark measured (any_mark ms) cc

  same : any_measured (operands_of ts ms) ≡ measured
  same = measured-beside ts ms (mark_for_each f ts ms _ e) ∙ sym some

  pub passed-call : with_mark measured (answered (resolve concrete (listing_of f) ts)) ≡ call_of function_count listing_of switch f ts ms
  unfolding call_of
  passed-call = rw (same, codes-beside ts ms (mark_for_each f ts ms _ e), ← asked) (test-passed no_choice _ f ts ms _ e)

  pub passed-survivors : survivors_of concrete (listing_of f) ts ≡ survivors_of_call function_count listing_of switch f ts ms
  unfolding survivors_of_call
  passed-survivors = rw (same, codes-beside ts ms (mark_for_each f ts ms _ e), ← asked) (test-passed (0 ∷ []) _ f ts ms _ e)
