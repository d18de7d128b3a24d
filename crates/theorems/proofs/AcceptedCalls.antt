-- What an accepted call says, by Demand 2 of the contract of `call_of`: its function is known, its operands are in order, and its rule is the
-- first of the full listing that takes them. Assumes nothing.
use mathlib.Core.Path.{◌≡◌, refl, sym, ap, subst}
use mathlib.Core.Bool.{Bool, true, false}
use mathlib.Core.List.{List}
use Prim.Native.Nat.{ℕ, ◌<◌}
use native.Mathlib.Omega.{arith}
use native.Mathlib.Decide.{dec_lt}
use borrow.Author.Tests.{eqb-true, eqb-false}
use lib.Dec.{eqb}
use lib.ListN.{length, get_or}
use Rattle.types.specs.Operand.{any_mark, concrete_only}
use Rattle.rules.specs.Signature.{Signature}
use Rattle.rules.specs.Rule.{rule_of}
use Rattle.functions.specs.Functions.{function_count, listing_of}
use Rattle.lists.specs.declared.list.Chosen.{Chosen}
use Rattle.calls.specs.Choice.{Choice, chosen, wrong_count, none_after, none_concrete}
use Rattle.calls.specs.Call.{answered, with_mark}
use Rattle.calls.specs.CallPaper.{call_paper}
use Rattle.calls.specs.declared.outcome.Called.{Called}
use Rattle.std.specs.Prelude.{Ok}
use Rattle.calls.proofs.CallPapers.{call-one}
use Rattle.expressions.proofs.Answers.{accepted-refused}
use Rattle.theorems.specs.Taking.{Best, Says}
use Rattle.theorems.specs.InOrder.{AllRight, FirstWrong}
use Rattle.theorems.specs.Calls.{Call}
use Rattle.theorems.proofs.InOrder as order

module _ (switch : Bool) (f : ℕ) (ts ms : List ℕ) (c : Chosen) (measured : Bool) where
  pub record Accepted : Type 0 where
    pub beside : length ts ≡ length ms
    pub mark : measured ≡ any_mark ms
    pub rule : Signature
    pub is : c.rule ≡ rule_of rule
    pub best : Best (concrete_only switch (any_mark ms)) (listing_of f) ts c.index rule

  module _ (call : Call switch f ts ms (call_paper (Ok (record { chosen = c; measured = measured })))) where
    known : f < function_count
    known = go (dec_lt f function_count)
      where
        go : Dec (f < function_count) → f < function_count
        go (yes h) = h
        go (no h) = accepted-refused (call.unknown_function.1 (omega arith))

    -- its operands are in order
    wrong-refused : (n i : ℕ) → FirstWrong ts ms n i → ⊥
    wrong-refused n i w =
        order.wrong_number (get_or ts i 0) (get_or ms i 0) n
        (λ e. accepted-refused ((call.unknown_operand i).1 (known, rw e at w)))
        (λ e. accepted-refused ((call.abstract_operand i).1 (known, rw e at w)))
        w.wrong

    ordered : AllRight ts ms
    ordered = lengths (eqb (length ts) (length ms)) refl
      where
        tested : order.Outcome ts ms 0 → AllRight ts ms
        tested (order.passes all passed) = all
        tested (order.refuses n i w refused) = absurd (wrong-refused n i w)

        lengths : (b : Bool) → eqb (length ts) (length ms) ≡ b → AllRight ts ms
        lengths true e = tested (order.outcome ts ms 0 (eqb-true (length ts) (length ms) e))
        lengths false e = accepted-refused ((call.unequal _).1 (known, eqb-false (length ts) (length ms) e, refl))

    -- the choice that it is the answer of
    by_choice : (d : Choice) → Says (concrete_only switch (any_mark ms)) (listing_of f) ts d
        → call_paper (Ok (record { chosen = c; measured = measured })) ≡ with_mark (any_mark ms) (answered d) → Accepted
    by_choice (chosen i r) best e =
        let made : Called = record { chosen = record { index = i; rule = rule_of r }; measured = any_mark ms } in
        let called : Called = record { chosen = c; measured = measured } in
        let both : Ok called ≡ Ok made = call-one _ _ e in
        let same : called ≡ made = cc in
        let index : c.index ≡ i = ap (λ (x : Called). x.chosen.index) same in
        record {
          beside = ordered.beside;
          mark = ap (λ (x : Called). x.measured) same;
          rule = r;
          is = ap (λ (x : Called). x.chosen.rule) same;
          best = subst (λ (k : ℕ). Best (concrete_only switch (any_mark ms)) (listing_of f) ts k r) (sym index) best;
        }
    by_choice wrong_count s e = accepted-refused e
    by_choice (none_after part k) s e = accepted-refused e
    by_choice none_concrete s e = accepted-refused e

    pub accepted-call : Accepted
    accepted-call = let (d, says, e) = call.by_listing known ordered in by_choice d says e
