-- 'The strict machine' with the stack's top last, as an array holds it: the same steps, counted from the end.
use Rattle.std.specs.Prelude.{Bool, not, List, [], ◌∷◌, ◌++◌, ℕ, suc, ◌-◌, leb, ltb, eqb, length, get_or, set, take, drop}
use Rattle.std.proofs.Math.Option.{Option, none, some}
use Rattle.std.proofs.Math.ListN.{get_elem?}
use Rattle.scalars.specs.Mask.{both}
use Rattle.types.specs.Operand.{measured_abstract}
use Rattle.types.specs.declared.operand.Operand.{Operand}
use Rattle.rules.specs.Signature.{Signature, reaches}
use Rattle.expressions.specs.Tree.{last_leaf}
use Rattle.machine.specs.Line.{Line, leaf_line, conversion_line, call_line, only_if}
use Rattle.machine.specs.Machine.{most_operands, no_operand, retyped, same, concluded, agrees, Stepper}

-- a conversion to another type, of the same constructor, to which the scalar converts
abbrev pub convertible : ℕ → ℕ → Bool
convertible t a = both (not (eqb t a)) (reaches t a)

abbrev pub push_last : Operand → List Operand → Option (List Operand)
push_last o s = only_if (ltb (length s) most_operands) (some (s ++ (o ∷ [])))

unfoldable pub convert_last : ℕ → ℕ → List Operand → Option (List Operand)
convert_last d a s =
    only_if (both (ltb d (length s)) (convertible (get_or s (length s - suc d) no_operand).code a))
    (some (set s (length s - suc d) (retyped (get_or s (length s - suc d) no_operand) a)))

unfoldable pub apply_last : ℕ → List Operand → Option Signature → Option (List Operand)
apply_last n s none = none
apply_last n s (some r) =
    only_if (eqb (length r.arguments) n)
    (only_if (both (leb n (length s)) (same (drop (length s - n) s) r.arguments))
    (only_if (agrees r (drop (length s - n) s)) (push_last (concluded r (drop (length s - n) s)) (take (length s - n) s))))

module _ (listing_of : ℕ → List Signature) where
  abbrev pub step_last : Stepper Line
  step_last (leaf_line l) s = only_if (leb l.code last_leaf) (only_if (not (measured_abstract l)) (push_last l s))
  step_last (conversion_line d a) s = convert_last d a s
  step_last (call_line f i n) s = apply_last n s (get_elem? (listing_of f) i)
