-- 'The strict machine', over lines and over bytes. A stack is a list of operands, its top first; document 02's (v) gives them their marks.
use Rattle.std.specs.Prelude.{Bool, true, false, not, List, [], ◌∷◌, reverse, ℕ, suc, leb, ltb, eqb, length, get_or, set, take, drop}
use Rattle.std.proofs.Math.Option.{Option, none, some}
use Rattle.std.proofs.Math.ListN.{get_elem?}
use Rattle.scalars.specs.Mask.{both, either}
use Rattle.types.specs.Operand.{measured_abstract, any_measured}
use Rattle.types.specs.declared.operand.Operand.{Operand}
use Rattle.rules.specs.Signature.{Signature, reaches, concrete}
use Rattle.expressions.specs.Tree.{last_leaf}
use Rattle.machine.specs.Line.{Line, leaf_line, conversion_line, call_line, only_if, lines_of}

-- what is left on the stack at the end, or the line at which the machine stopped, from 0
pub data Outcome : Type 0 where
  ended : List Operand → Outcome
  stopped : ℕ → Outcome

-- a push onto 64 operands stops
abbrev pub most_operands : ℕ
most_operands = 64

abbrev pub push : Operand → List Operand → Option (List Operand)
push o s = only_if (ltb (length s) most_operands) (some (o ∷ s))

-- what stands where there is no operand; no law rests on it
abbrev pub no_operand : Operand
no_operand = record { code = 0; measured = false }

-- an operand of another type, with the same mark
abbrev pub retyped : Operand → ℕ → Operand
retyped o a = record { code = a; measured = o.measured }

-- a conversion stops if the depth isn't on the stack, the type is the same, the constructor differs, or the scalar doesn't convert; it
-- keeps the mark
unfoldable pub convert_at : ℕ → ℕ → List Operand → Option (List Operand)
convert_at d a s =
    only_if (both (ltb d (length s)) (both (not (eqb (get_or s d no_operand).code a)) (reaches (get_or s d no_operand).code a)))
    (some (set s d (retyped (get_or s d no_operand) a)))

-- operands of exactly these types
abbrev pub same : List Operand → List ℕ → Bool
same [] [] = true
same [] (y ∷ ys) = false
same (x ∷ xs) [] = false
same (x ∷ xs) (y ∷ ys) = both (eqb x.code y) (same xs ys)

-- what a rule makes of operands: its result, measured if any of them is
abbrev pub concluded : Signature → List Operand → Operand
concluded r os = record { code = r.result; measured = any_measured os }

-- a measured operand and a rule with an abstract argument do not go together
abbrev pub agrees : Signature → List Operand → Bool
agrees r os = either (not (any_measured os)) (concrete r)

-- a call stops on an unknown index (an unknown function has no rules), on a number of arguments that isn't the rule's, on a short
-- stack, on any operand not of exactly the rule's type, or on a measured operand where the rule has an abstract argument; otherwise it pops
-- them and pushes the conclusion
unfoldable pub apply : ℕ → List Operand → Option Signature → Option (List Operand)
apply n s none = none
apply n s (some r) =
    only_if (eqb (length r.arguments) n)
    (only_if (both (leb n (length s)) (same (take n s) (reverse r.arguments)))
    (only_if (agrees r (take n s)) (push (concluded r (take n s)) (drop n s))))

-- a step: what a line does to a stack, or nothing where it stops. A line is of any type: a `Line`, or what bytes spell
abbrev pub Stepper : Type 0 → Type 0
Stepper A = A → List Operand → Option (List Operand)

abbrev pub next : ℕ → (List Operand → Outcome) → Option (List Operand) → Outcome
next n go none = stopped n
next n go (some s) = go s

-- the lines from number n on, each by a step, on a stack
abbrev pub run_by : {A : Type 0} → Stepper A → List A → ℕ → List Operand → Outcome
run_by step [] n s = ended s
run_by step (l ∷ ls) n s = next n (λ (s' : List Operand). run_by step ls (suc n) s') (step l s)

-- bytes that spell no line stop, a partial line among them
abbrev pub step_if : Stepper Line → Stepper (Option Line)
step_if step none s = none
step_if step (some l) s = step l s

module _ (listing_of : ℕ → List Signature) where
  -- a leaf type above 156 stops, and a measured abstract leaf
  abbrev pub step : Stepper Line
  step (leaf_line l) s = only_if (leb l.code last_leaf) (only_if (not (measured_abstract l)) (push l s))
  step (conversion_line d a) s = convert_at d a s
  step (call_line f i n) s = apply n s (get_elem? (listing_of f) i)

  -- from the empty stack
  abbrev pub run_bytes : List ℕ → Outcome
  run_bytes bs = run_by (step_if step) (lines_of bs) 0 []
