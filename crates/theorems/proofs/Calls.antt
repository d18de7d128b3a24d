-- Demand 2 of single calls, as specs/Calls.antt states it: the tests before a call, what the operations on the function's set answer, and the
-- survivors.
-- Assumes nothing.
use mathlib.Core.Path.{◌≡◌, refl, sym, ap, ap₂, ◌∙◌, subst}
use mathlib.Core.Logic.{◌↔◌}
use mathlib.Core.Bool.{Bool, true, false}
use mathlib.Core.List.{List, [], ◌∷◌}
use Prim.Native.Nat.{ℕ, ◌+◌, ◌≤◌, ◌<◌, min}
use native.Mathlib.Omega.{arith}
use borrow.Author.Tests.{lt-ltb, le-ltb, ltb-true, ltb-false, eq-eqb, ne_eqb, eqb-true, eqb-false}
use lib.Dec.{ltb, eqb}
use lib.ListN.{length}
use Rattle.types.specs.Operand.{operands_of, codes, any_measured, any_mark, concrete_only}
use Rattle.types.proofs.Operands.{codes-beside, measured-beside}
use Rattle.scalars.specs.Paper.{Paper, accepted, refusal}
use Rattle.functions.specs.Functions.{function_count, listing_of}
use Rattle.lists.specs.ChosenPaper.{no_choice}
use Rattle.calls.specs.Choice.{Choice, chosen, wrong_count, none_after, none_concrete, resolve, resolve_of}
use Rattle.calls.specs.Call.{if_operands, if_call_known, answered, with_mark, call_of, survivors_of, survivors_of_call}
use Rattle.functions.proofs.Database.{some-rules}
use Rattle.calls.proofs.OutcomePapers.{not_at}
use Rattle.theorems.proofs.Demand2.{of_functions}
use Rattle.theorems.specs.InOrder.{AllRight, FirstWrong}
use Rattle.theorems.specs.Calls.{Call, Survivors, Theorem}
use Rattle.theorems.proofs.Papers.{refused-not, other-number}
use Rattle.theorems.proofs.InOrder.{Outcome, passes, refuses, outcome, wrong_number, wrong-place, never-wrong, right-known}
use Rattle.theorems.proofs.FunctionSets.{has_set_lem, means}
use Rattle.theorems.proofs.CallSteps.{by_set_lem}

-- ---- the tests: what is answered behind them, with these values, or which of them refuses

module _ (f : ℕ) (ts ms vs : List ℕ) (answer : Paper) where
  abbrev behind : Paper
  behind = if_call_known function_count f ts ms vs answer

  no-function : function_count ≤ f → behind ≡ refusal 7 0 vs
  no-function h = rw (le-ltb f function_count h)

  unequal : f < function_count → (length ts ≡ length ms → ⊥) → behind ≡ refusal 8 (min (length ts) (length ms)) vs
  unequal h d = rw (lt-ltb f function_count h, ne_eqb (length ts) (length ms) d)

  beside : f < function_count → length ts ≡ length ms → behind ≡ if_operands 0 ts ms vs answer
  beside h e = rw (lt-ltb f function_count h, eq-eqb (length ts) (length ms) e)

module _ (switch : Bool) (f : ℕ) (ts ms : List ℕ) where
  -- the answer behind the tests, by the types and marks as they are lent
  abbrev said : Paper
  said = answered (resolve (concrete_only switch (any_mark ms)) (listing_of f) ts)

  abbrev left : Paper
  left = survivors_of (concrete_only switch (any_mark ms)) (listing_of f) ts

  -- and by the operands that they are
  abbrev called : Paper
  called = with_mark (any_measured (operands_of ts ms)) (answered (resolve_of switch (listing_of f) (operands_of ts ms)))

  abbrev lasting : Paper
  lasting = survivors_of (concrete_only switch (any_measured (operands_of ts ms))) (listing_of f) (codes (operands_of ts ms))

  call-behind : length ts ≡ length ms → called ≡ with_mark (any_mark ms) said
  call-behind e = rw (codes-beside ts ms e, measured-beside ts ms e)

  survivors-behind : length ts ≡ length ms → lasting ≡ left
  survivors-behind e = rw (codes-beside ts ms e, measured-beside ts ms e)

  -- ---- a call, case by case

  -- a refusal of the tests is no other, and no set or listing is asked
  unknown_function_lem : function_count ≤ f → Call switch f ts ms (refusal 7 0 no_choice)
  unknown_function_lem h = record {
    unknown_function = (λ _. h, λ _. refl);
    unequal = λ i. (λ q. other-number q (λ z. omega arith), λ (l, _, _). absurd (omega arith));
    unknown_operand = λ i. (λ q. let z : 0 ≡ 1 + i = cc in absurd (omega arith), λ (l, _). absurd (omega arith));
    abstract_operand = λ i. (λ q. other-number q (λ z. omega arith), λ (l, _). absurd (omega arith));
    has_set = has_set_lem f;
    by_set = λ l. absurd (omega arith);
    by_listing = λ l. absurd (omega arith);
  }

  unequal-lengths : f < function_count → (length ts ≡ length ms → ⊥) → Call switch f ts ms (refusal 8 (min (length ts) (length ms)) no_choice)
  unequal-lengths h d = record {
    unknown_function = (λ q. other-number q (λ z. omega arith), λ l. absurd (omega arith));
    unequal = λ i. (λ q. let z : min (length ts) (length ms) ≡ i = cc in (h, d, sym z), λ (_, _, e). ap (λ j. refusal 8 j no_choice) (sym e));
    unknown_operand = λ i. (λ q. other-number q (λ z. omega arith), λ (_, w). absurd (d w.beside));
    abstract_operand = λ i. (λ q. other-number q (λ z. omega arith), λ (_, w). absurd (d w.beside));
    has_set = has_set_lem f;
    by_set = λ l all. absurd (d all.beside);
    by_listing = λ l all. absurd (d all.beside);
  }

  wrong-operand : f < function_count → (n i : ℕ) → FirstWrong ts ms n i → Call switch f ts ms (refusal n (1 + i) no_choice)
  wrong-operand h n i w = record {
    unknown_function = (λ q. let z : 1 + i ≡ 0 = cc in absurd (omega arith), λ l. absurd (omega arith));
    unequal = λ j. (
      λ q. let z : n ≡ 8 = cc in wrong_number _ _ n (λ e. omega arith) (λ e. omega arith) w.wrong,
      λ (_, d, _). absurd (d w.beside),
    );
    unknown_operand = λ j. by_number 7 j;
    abstract_operand = λ j. by_number 17 j;
    has_set = has_set_lem f;
    by_set = λ l all. never-wrong ts ms n i all w;
    by_listing = λ l all. never-wrong ts ms n i all w;
  }
    where
      by_number : (m j : ℕ) → refusal n (1 + i) no_choice ≡ refusal m (1 + j) no_choice ↔ ((f < function_count) × FirstWrong ts ms m j)
      by_number m j = (
        λ q. let a : n ≡ m = cc in let b : 1 + i ≡ 1 + j = cc in let c : i ≡ j = omega arith in (h, rw (a, c) at w),
        λ (_, u). let (a, b) = wrong-place ts ms n m i j w u in ap₂ (λ k l. refusal k (1 + l) no_choice) a b,
      )

  -- a choice is refused by none of the tests' numbers
  never-tested : {A : Type 0} (b : Bool) (c : Choice) (n p : ℕ) → (n ≡ 5 → ⊥) → (n ≡ 6 → ⊥) → (n ≡ 16 → ⊥) → (n ≡ 1 → ⊥)
      → with_mark b (answered c) ≡ refusal n p no_choice → A
  never-tested b (chosen i r) n p u v w x e = refused-not (sym e)
  never-tested b wrong_count n p u v w x e = other-number e (λ z. u (sym z))
  never-tested b (none_after part k) n p u v w x e = other-number e (not_at part n v w)
  never-tested b none_concrete n p u v w x e = other-number e (λ z. x (sym z))

  in_order : f < function_count → AllRight ts ms → Call switch f ts ms (with_mark (any_mark ms) said)
  in_order h all = record {
    unknown_function = (λ q. never 7 0 (omega arith) (omega arith) (omega arith) (omega arith) q, λ l. absurd (omega arith));
    unequal = λ i. (λ q. never 8 i (omega arith) (omega arith) (omega arith) (omega arith) q, λ (_, d, _). absurd (d all.beside));
    unknown_operand = λ i. (λ q. never 7 (1 + i) (omega arith) (omega arith) (omega arith) (omega arith) q, λ (_, w). never-wrong ts ms 7 i all w);
    abstract_operand = λ i. (λ q. never 17 (1 + i) (omega arith) (omega arith) (omega arith) (omega arith) q, λ (_, w). never-wrong ts ms 17 i all w);
    has_set = has_set_lem f;
    by_set = λ _ _ s has. (said, by_set_lem (listing_of f) (some-rules f h) ts asks (right-known ts ms all) s (means f h s has), refl);
    by_listing = λ _ _. (choice, (of_functions asks f ts).chosen-so choice refl, refl);
  }
    where
      asks : Bool
      asks = concrete_only switch (any_mark ms)

      choice : Choice
      choice = resolve asks (listing_of f) ts

      never : {A : Type 0} (n p : ℕ) → (n ≡ 5 → ⊥) → (n ≡ 6 → ⊥) → (n ≡ 16 → ⊥) → (n ≡ 1 → ⊥)
          → with_mark (any_mark ms) said ≡ refusal n p no_choice → A
      never n p u v w x e = never-tested (any_mark ms) choice n p u v w x e

  -- ---- its survivors

  both-refused : (n i : ℕ) → Survivors switch f ts ms (refusal n i no_choice) (refusal n i (0 ∷ []))
  both-refused n i = record { refused_alike = λ m j. (λ e. cc, λ e. cc); survive = λ m e. refused-not e; preferred = λ m e. refused-not e }

  -- a mark behind it changes no refusal
  marked_refused : (b : Bool) (p : Paper) (n i : ℕ) (vs : List ℕ) → with_mark b p ≡ refusal n i vs ↔ p ≡ refusal n i vs
  marked_refused b (accepted ws) n i vs = (λ e. refused-not (sym e), λ e. refused-not (sym e))
  marked_refused b (refusal m j ws) n i vs = (λ e. e, λ e. e)

  in_order-survivors : Survivors switch f ts ms (with_mark (any_mark ms) said) left
  in_order-survivors =
      let d = of_functions (concrete_only switch (any_mark ms)) f ts in
      record {
        refused_alike = λ n i. (
          λ q. (marked_refused (any_mark ms) said n i no_choice).1 ((d.refused n i).0 q),
          λ q. (d.refused n i).1 ((marked_refused (any_mark ms) said n i no_choice).0 q),
        );
        survive = d.survive;
        preferred = λ m e. ap (λ c. with_mark (any_mark ms) (answered c)) (d.preferred m e);
      }

  -- ---- both, by the tests

  abbrev Both : Paper → Paper → Type 0
  Both p q = Call switch f ts ms p × Survivors switch f ts ms p q

  -- what is answered behind the tests of either
  alike : (p q : Paper) → behind f ts ms no_choice called ≡ p → behind f ts ms (0 ∷ []) lasting ≡ q → Both p q
      → Both (call_of function_count listing_of switch f ts ms) (survivors_of_call function_count listing_of switch f ts ms)
  unfolding call_of survivors_of_call
  alike p q a b h = subst (λ (x : Paper). Both x (behind f ts ms (0 ∷ []) lasting)) (sym a) (subst (Both p) (sym b) h)

  both : Both (call_of function_count listing_of switch f ts ms) (survivors_of_call function_count listing_of switch f ts ms)
  both = go (ltb f function_count) (eqb (length ts) (length ms)) refl refl
    where
      tested : f < function_count → length ts ≡ length ms → Outcome ts ms 0
          → Both (call_of function_count listing_of switch f ts ms) (survivors_of_call function_count listing_of switch f ts ms)
      tested h e (refuses n i w refused) =
          let place : 0 + i ≡ i = omega arith in
          alike (refusal n (1 + i) no_choice) (refusal n (1 + i) (0 ∷ []))
          (beside f ts ms no_choice called h e ∙ (rw place at (refused no_choice called))) (beside f ts ms (0 ∷ []) lasting h e ∙ (rw place at (refused (0 ∷ []) lasting)))
          (wrong-operand h n i w, both-refused n (1 + i))
      tested h e (passes all passed) =
          alike (with_mark (any_mark ms) said) left
          (beside f ts ms no_choice called h e ∙ passed no_choice called ∙ call-behind e)
          (beside f ts ms (0 ∷ []) lasting h e ∙ passed (0 ∷ []) lasting ∙ survivors-behind e)
          (in_order h all, in_order-survivors)

      go : (x y : Bool) → ltb f function_count ≡ x → eqb (length ts) (length ms) ≡ y
          → Both (call_of function_count listing_of switch f ts ms) (survivors_of_call function_count listing_of switch f ts ms)
      go false y a b =
          let h = ltb-false f function_count a in
          alike (refusal 7 0 no_choice) (refusal 7 0 (0 ∷ []))
          (no-function f ts ms no_choice called h) (no-function f ts ms (0 ∷ []) lasting h) (unknown_function_lem h, both-refused 7 0)
      go true false a b =
          let h = ltb-true f function_count a in
          let d = eqb-false (length ts) (length ms) b in
          alike (refusal 8 (min (length ts) (length ms)) no_choice) (refusal 8 (min (length ts) (length ms)) (0 ∷ []))
          (unequal f ts ms no_choice called h d) (unequal f ts ms (0 ∷ []) lasting h d)
          (unequal-lengths h d, both-refused 8 (min (length ts) (length ms)))
      go true true a b =
          let e = eqb-true (length ts) (length ms) b in
          tested (ltb-true f function_count a) e (outcome ts ms 0 e)

pub demand_2 : Theorem
demand_2 = record {
  calls = λ κs a r v p. rw p (both a.1.1.1.0 a.0 a.1.0.now a.1.1.0.now).0;
  survivors = λ κs a q v e r p. rw (p, e) (both a.1.1.1.0 a.0 a.1.0.now a.1.1.0.now).1;
}
