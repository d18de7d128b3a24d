-- No answer of `call_of`, `type_expression` or `run_worksheet` has a measured abstract operand, as specs/Measured.antt states it: by what demands
-- 2 and 3 say of their contracts, and by what is proved of rules, of the typer and of the machine. Assumes nothing.
use mathlib.Core.Path.{◌≡◌, refl, sym, ap, ap₂, ◌∙◌}
use mathlib.Core.Bool.{Bool, true, false, true≢false}
use mathlib.Core.List.{List, [], ◌∷◌}
use Prim.Native.Nat.{ℕ, ◌<◌}
use native.Mathlib.Omega.{arith}
use lib.ListN.{length}
use Rattle.std.specs.Prelude.{Ok}
use Rattle.scalars.specs.Paper.{accepted}
use Rattle.types.specs.Domain.{is_abstract}
use Rattle.types.specs.Operand.{mark_of, operand_of, measured_abstract, any_mark, concrete_only}
use Rattle.types.specs.declared.operand.Operand.{Operand}
use Rattle.types.proofs.Operands.{operand-back}
use Rattle.rules.specs.Rule.{rule_of}
use Rattle.functions.specs.Functions.{listing_of}
use Rattle.lists.specs.declared.list.Chosen.{Chosen}
use Rattle.calls.specs.CallPaper.{call_paper}
use Rattle.machine.specs.Machine.{Outcome, ended, stopped, run_bytes}
use Rattle.machine.specs.Run.{run_paper, ran_of}
use Rattle.worksheet.specs.Typing.{type_paper}
use Rattle.theorems.specs.Calls.{Call}
use Rattle.theorems.specs.Measured.{ConcreteResults, NoneAbstract, Answers}
use Rattle.expressions.proofs.Answers.{accepted-refused}
use Rattle.theorems.proofs.Calls.{demand_2}
use Rattle.theorems.proofs.AcceptedCalls.{accepted-call}
use Rattle.theorems.proofs.Demand3.{for_trees}
use Rattle.theorems.proofs.Expressions.{demand_3}
use Rattle.theorems.proofs.MeasuredRules.{of_functions}
use Rattle.theorems.proofs.Measured.{measured_functions}

-- ---- calls

-- some operand is measured only where there is one
some-mark : (ms : List ℕ) → any_mark ms ≡ true → 0 < length ms
some-mark [] e = let z : true ≡ false = sym e in absurd (true≢false z)
some-mark (m ∷ ms) e = omega arith

asks : (switch b : Bool) → b ≡ true → concrete_only switch b ≡ true
asks true b e = refl
asks false b e = e

-- the rule of a call with a measured result has arguments, none of them abstract
called-concrete : (switch : Bool) (f : ℕ) (ts ms : List ℕ) (c : Chosen) → Call switch f ts ms (call_paper (Ok (record { chosen = c; measured = true })))
    → is_abstract c.rule.result ≡ false
unfolding rule_of ConcreteResults
called-concrete switch f ts ms c call =
    let d = accepted-call switch f ts ms c true call in
    let any : any_mark ms ≡ true = sym d.mark in
    let is : c.rule.result ≡ d.rule.result = ap (λ r. r.result) d.is in
    let some = some-mark ms any in
    let beside = d.beside in
    ap is_abstract is
    ∙ of_functions f c.index d.rule d.best.there (omega (arith, d.best.taken.many)) (d.best.taken.allowed (asks switch (any_mark ms) any))

-- ---- runs

-- a mark is 0 or 1
unmarked : (b : Bool) → mark_of b ≡ 255 → ⊥
unmarked true e = let z : ◌≡◌ {A = ℕ} 1 255 = e in omega arith
unmarked false e = let z : ◌≡◌ {A = ℕ} 0 255 = e in omega arith

-- the topmost operand, where none on the stack is measured and abstract
top_concrete : (x : Outcome) (n : ℕ) (o : Operand) → ((s : List Operand) → x ≡ ended s → NoneAbstract s)
    → accepted (n ∷ o.code ∷ mark_of o.measured ∷ []) ≡ ran_of x → measured_abstract o ≡ false
top_concrete (stopped k) n o none e = accepted-refused e
top_concrete (ended []) n o none e = absurd (unmarked o.measured cc)
top_concrete (ended (p ∷ s)) n o none e =
    let code : o.code ≡ p.code = cc in
    let mark : mark_of o.measured ≡ mark_of p.measured = cc in
    let same : o ≡ p = sym (operand-back o) ∙ ap₂ operand_of code mark ∙ operand-back p in
    ap measured_abstract same ∙ (none (p ∷ s) refl).0

-- ---- all three

pub answers : Answers
answers = record {
  calls = λ κs a r s p c e.
      called-concrete a.1.1.1.0 a.0 a.1.0.now a.1.1.0.now c (rw e at (demand_2.calls κs a r s p));
  expressions = λ κs a r s p o n e.
      let d = demand_3 κs a r s p in
      let (tree, ls, given, room, long) = (d.accepted o n).0 (ap type_paper e) in
      let formed = given.spelt.well_formed in
      let typed = ((for_trees a.1.0 tree formed).accepted o ls).1 given.given in
      measured_functions.expression a.1.0 tree 0 formed.measurable o ls typed;
  runs = λ κs a r s p n o e.
      top_concrete (run_bytes listing_of a.0.now) n o (measured_functions.bytes a.0.now) (sym (ap run_paper e) ∙ p);
}
