-- `type_call` meets its contract: what the call comes to is what the definition concludes of its operands, by the laws of
-- proofs/Calls.antt.
-- Assumes nothing.
use mathlib.Core.Path.{◌≡◌, sym, ap, ◌∙◌}
use Prim.Native.Nat.{ℕ, ◌<◌}
use native.Mathlib.Omega.{arith}
use Rattle.std.specs.declared.result.Result.{Result}
use Rattle.std.proofs.Common.{Err}
use Rattle.types.specs.Operand.{any_mark}
use Rattle.functions.specs.Functions.{listing_of}
use Rattle.rules.specs.declared.rule.Part.{Part}
use Rattle.lists.specs.declared.list.Chosen.{Chosen}
use Rattle.calls.specs.declared.outcome.NoRule.{NoRule}
use Rattle.calls.specs.declared.outcome.NoRule.TheVariants.{NoneAfter}
use Rattle.calls.specs.Choice.{resolve}
use Rattle.calls.specs.Call.{answered}
use Rattle.calls.specs.OutcomePaper.{outcome_paper}
use Rattle.worksheet.specs.private.Stack.{top_part}
use Rattle.worksheet.proofs.CallFacts.{rule-takes}
use Rattle.worksheet.proofs.Calls.{conversion-room, line_room, operand-here, call-miscounted, call-none_after, call-none_concrete, call-ruled}
use Rattle.worksheet.proofs.one_call.type_call.Goals.{After-outcome_of}
use Rattle.worksheet.proofs.one_call.type_call.Goals as goal

-- the operands' marks and types are those on top of the stack
module _ (c : After-outcome_of) where
  marked : c.any_measured-measured.result ≡ any_mark (top_part c.args.stack.now.marks c.args.stack.now.top c.args.count)
  marked = c.any_measured-measured.ensures ∙ ap any_mark (rw c.from-n.ensures at c.marks_on_top.ensures)

  answer : {o : Result Chosen NoRule} → c.outcome_of.result ≡ o
      → outcome_paper o
      ≡ answered (resolve c.concrete_only.result (listing_of c.args.function) (top_part c.args.stack.now.types c.args.stack.now.top c.args.count))
  answer e =
      sym (ap outcome_paper e) ∙ c.outcome_of.ensures
      ∙ ap (λ l. answered (resolve c.concrete_only.result (listing_of c.args.function) l)) (rw c.from-n.ensures at c.types_on_top-operands.ensures)

  -- the operand after which no rule is left is one of the call's
  here : (part : Part) (k : ℕ) → c.outcome_of.result ≡ Err (NoneAfter part k) → k < c.args.count
  here part k e =
      operand-here c.args.function c.args.count c.args.at c.args.switch c.args.stack.now c.args.sheet.now _ _ marked c.concrete_only.ensures c.requires.enough part k (answer e)

pub overflow_add-from : goal.overflow_add-from
overflow_add-from c =
    let none = c.in-Err-NoneAfter in
    let few = here (goal.at.overflow_add-from c).After-outcome_of none.part none.k (none.is ∙ ap Err none.field-0-is) in
    omega (arith, few, none.k-is, c.requires.enough, c.requires.bounded)

pub offset_bounds-stack-from : goal.offset_bounds-stack-from
offset_bounds-stack-from c =
    let none = c.in-Err-NoneAfter in
    let few = here (goal.at.offset_bounds-stack-from c).After-outcome_of none.part none.k (none.is ∙ ap Err none.field-0-is) in
    omega (arith, few, none.k-is, c.requires.enough, c.requires.bounded)

pub bounds-stack-from : goal.bounds-stack-from
bounds-stack-from c =
    let none = c.in-Err-NoneAfter in
    let few = here (goal.at.bounds-stack-from c).After-outcome_of none.part none.k (none.is ∙ ap Err none.field-0-is) in
    omega (arith, few, none.k-is, c.requires.enough, c.requires.bounded)

pub convert-requires : goal.convert-requires
convert-requires c =
    rw (c.types_on_top-operands.ensures, c.from-n.ensures)
    (conversion-room c.args.count _ c.requires
    (rule-takes _ _ _ c.in-Ok.chosen (answer (goal.at.convert-requires c).After-outcome_of c.in-Ok.is)))

pub line-requires : goal.line-requires
line-requires c =
    line_room c.args.count c.args.stack.now _ _ _ c.requires (rw (c.types_on_top-operands.ensures, c.from-n.ensures) at c.convert.ensures)

pub returns-in-Ok : goal.returns-in-Ok
returns-in-Ok c =
    let d = (goal.at.returns-in-Ok c).After-outcome_of in
    call-ruled _ _ _ _ _ _ _ _ (marked d) c.concrete_only.ensures c.in-Ok.chosen _ _ _ _
    (rw (c.types_on_top-operands.ensures, c.from-n.ensures) at c.convert.ensures) c.line.ensures (rw c.from-n.ensures at c.cut.ensures)
    c.push.ensures (answer d c.in-Ok.is)

pub returns-in-Err-WrongCount : goal.returns-in-Err-WrongCount
returns-in-Err-WrongCount c =
    let d = (goal.at.returns-in-Err-WrongCount c).After-outcome_of in
    call-miscounted _ _ _ _ _ _ _ _ (marked d) c.concrete_only.ensures _ _ (answer d (c.in-Err-WrongCount.is ∙ ap Err c.in-Err-WrongCount.field-0-is))

pub returns-in-Err-NoneConcrete : goal.returns-in-Err-NoneConcrete
returns-in-Err-NoneConcrete c =
    let d = (goal.at.returns-in-Err-NoneConcrete c).After-outcome_of in
    call-none_concrete _ _ _ _ _ _ _ _ (marked d) c.concrete_only.ensures _ _ (answer d (c.in-Err-NoneConcrete.is ∙ ap Err c.in-Err-NoneConcrete.field-0-is))

pub returns-in-Err-NoneAfter : goal.returns-in-Err-NoneAfter
returns-in-Err-NoneAfter c =
    let d = (goal.at.returns-in-Err-NoneAfter c).After-outcome_of in
    let none = c.in-Err-NoneAfter in
    call-none_after _ _ _ _ _ _ _ _ (marked d) c.concrete_only.ensures _ _ c.requires.enough none.part none.k _
    (rw (c.from-n.ensures, none.k-is, none.part-is) at c.none_left.ensures) (answer d (none.is ∙ ap Err none.field-0-is))
