-- A stack in an array with a count does what the machine whose stack has its top last does: a conversion that is done, a call with a
-- wrong count and one that is done.
-- Assumes nothing.
use mathlib.Core.Path.{◌≡◌, sym, ap, ◌∙◌}
use mathlib.Core.Bool.{Bool, true, not}
use mathlib.Core.Option.{none, some}
use Prim.Native.Nat.{ℕ, suc, ◌-◌, ◌≤◌, ◌<◌}
use native.Mathlib.Omega.{arith}
use lib.ListN.{length, get_or, set, take, drop}
use lib.Seq.{length-take-le, take-set-lt, take-take, get_or-take}
use borrow.Author.Tests.{lt-ltb, le-leb, eq-eqb, ne_eqb}
use Rattle.scalars.specs.Mask.{either}
use Rattle.types.specs.Operand.{any_measured}
use Rattle.types.specs.declared.operand.Operand.{Operand}
use Rattle.rules.specs.Signature.{reaches, concrete}
use Rattle.rules.specs.Rule.{most_arguments, arguments_of, signature_of}
use Rattle.rules.specs.declared.rule.Rule.{Rule}
use Rattle.rules.proofs.Rules.{count_of}
use Rattle.machine.specs.declared.stack.Stack.{Stack}
use Rattle.machine.specs.Machine.{no_operand, retyped, same}
use Rattle.machine.specs.private.TopLast.{push_last, convert_last, apply_last}
use Rattle.machine.specs.private.MachineStack.{operands_on, alike_from}

-- a rule that counts no more arguments than its record holds has as many as it counts
pub arity : (q : Rule) → q.count ≤ most_arguments → length (arguments_of q) ≡ q.count
arity q short = omega (arith, count_of q)

module _ (k : Stack) where
  pub counted : length (operands_on k) ≡ k.top
  counted = length-take-le k.top k.operands (omega (arith, k.long, k.few))

  -- a conversion of the operand with d others above it
  module _ (d a : ℕ) (deep : d < k.top) where
    -- that operand, in the array
    abbrev found : Operand
    found = get_or k.operands (k.top - d - 1) no_operand

    there : get_or (operands_on k) (k.top - suc d) no_operand ≡ found
    there =
        let p : k.top - suc d ≡ k.top - d - 1 = omega arith in
        get_or-take k.top k.operands (k.top - suc d) no_operand (omega arith) ∙ ap (λ (i : ℕ). get_or k.operands i no_operand) p

    pub converted : (found.code ≡ a → ⊥) → reaches found.code a ≡ true
        → some (take k.top (set k.operands (k.top - d - 1) (retyped found a))) ≡ convert_last d a (operands_on k)
    unfolding convert_last
    converted other e =
        let p : k.top - suc d ≡ k.top - d - 1 = omega arith in
        rw (counted, lt-ltb d k.top deep, there, ne_eqb found.code a other, e, p)
        (ap some (take-set-lt k.top k.operands (k.top - d - 1) (retyped found a) (omega arith)))

  -- a call of a rule by n operands
  module _ (q : Rule) (short : q.count ≤ most_arguments) (n : ℕ) where
    pub apply-miscounted : (q.count ≡ n → ⊥) → none ≡ apply_last n (operands_on k) (some (signature_of q))
    unfolding apply_last
    apply-miscounted h = rw (arity q short, ne_eqb q.count n h)

    module _ (right : q.count ≡ n) (enough : n ≤ k.top) (alike : alike_from 0 k q ≡ true)
        (b : Bool) (told : b ≡ any_measured (drop (k.top - n) (operands_on k))) where
      compared : same (drop (k.top - n) (operands_on k)) (arguments_of q) ≡ true
      compared = ap (λ (i : ℕ). same (drop (k.top - i) (operands_on k)) (arguments_of q)) (sym right) ∙ alike

      pub applied : either (not b) (concrete (signature_of q)) ≡ true
          → push_last (record { code = q.result; measured = b }) (take (k.top - n) k.operands)
          ≡ apply_last n (operands_on k) (some (signature_of q))
      unfolding apply_last
      applied e =
          sym (rw (
            arity q short,
            eq-eqb q.count n right,
            counted,
            le-leb n k.top enough,
            compared,
            ← told,
            e,
            take-take (k.top - n) k.top k.operands (omega arith),
          ))
