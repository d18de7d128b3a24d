-- The topmost operands of a stack in an array are exactly of a rule's types: as many as the rule has arguments, one after the other.
-- Assumes nothing.
use mathlib.Core.Path.{◌≡◌, sym, ap, ◌∙◌}
use mathlib.Core.Bool.{Bool, true, false}
use Prim.Native.Nat.{ℕ, ◌+◌, ◌-◌, ◌≤◌, ◌<◌}
use native.Mathlib.Omega.{arith}
use lib.Dec.{eqb}
use lib.ListN.{length, get_or, drop, length-drop}
use lib.Seq.{get_or-take, get_or-drop}
use Rattle.types.specs.declared.operand.Operand.{Operand}
use Rattle.rules.specs.Rule.{most_arguments, arguments_of}
use Rattle.rules.specs.declared.rule.Rule.{Rule}
use Rattle.machine.specs.declared.stack.Stack.{Stack}
use Rattle.machine.specs.Machine.{no_operand}
use Rattle.machine.specs.private.MachineStack.{operands_on, alike_from}
use Rattle.machine.proofs.Stacks.{arity, counted}
use Rattle.machine.proofs.Likeness.{same_end, same_differ, same_next}

module _ (k : Stack) (q : Rule) (short : q.count ≤ most_arguments) (enough : q.count ≤ k.top) (i : ℕ) where
  many : length (drop (k.top - q.count) (operands_on k)) ≡ q.count
  many = simp (length-drop, counted k) (omega arith)

  pub alike_end : q.count ≤ i → alike_from i k q ≡ true
  alike_end h =
      same_end (drop (k.top - q.count) (operands_on k)) (arguments_of q) i (omega (arith, many)) (omega (arith, arity q short))

  -- what comparing the operand at argument i with it answers
  abbrev pub Compared : Bool → Type 0
  Compared b = b ≡ eqb (get_or k.operands (k.top - q.count + i) no_operand).code (get_or (arguments_of q) i 255)

  module _ (h : i < q.count) where
    compared : (b : Bool) → Compared b
        → eqb (get_or (drop (k.top - q.count) (operands_on k)) i no_operand).code (get_or (arguments_of q) i 255) ≡ b
    compared b e =
        ap (λ (x : Operand). eqb x.code (get_or (arguments_of q) i 255))
        (get_or-drop (k.top - q.count) (operands_on k) i no_operand
        ∙ get_or-take k.top k.operands (k.top - q.count + i) no_operand (omega arith)) ∙ sym e

    pub alike_differ : (b : Bool) → Compared b → b ≡ false → alike_from i k q ≡ false
    alike_differ b e f =
        same_differ (drop (k.top - q.count) (operands_on k)) (arguments_of q) i no_operand 255 (omega (arith, many))
        (omega (arith, arity q short)) (compared b e ∙ f)

    pub alike_next : (b : Bool) → Compared b → b ≡ true → alike_from (i + 1) k q ≡ alike_from i k q
    alike_next b e f =
        same_next (drop (k.top - q.count) (operands_on k)) (arguments_of q) i no_operand 255 (omega (arith, many))
        (omega (arith, arity q short)) (compared b e ∙ f)
