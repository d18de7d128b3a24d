-- The strict machine leaves no measured abstract operand on a stack that has none: each line, and so a run. Assumes nothing.
use mathlib.Core.Path.{◌≡◌, refl, sym, subst}
use mathlib.Core.Bool.{Bool, true, false, not, false≢true}
use mathlib.Core.List.{List, [], ◌∷◌, reverse}
use mathlib.Core.Option.{Option, none, some}
use Prim.Native.Nat.{ℕ, zero, suc, ◌<◌}
use native.Mathlib.Omega.{arith}
use lib.Dec.{eqb, leb, ltb}
use lib.ListN.{length, get_or, set, take, drop, get_elem?}
use borrow.Author.Tests.{eqb-true, not-true}
use Rattle.scalars.specs.Mask.{both}
use Rattle.types.specs.Operand.{measured_abstract, any_measured}
use Rattle.types.specs.declared.operand.Operand.{Operand}
use Rattle.rules.specs.Signature.{Signature, reaches}
use Rattle.expressions.specs.Tree.{last_leaf}
use Rattle.machine.specs.Line.{Line, leaf_line, conversion_line, call_line, only_if, lines_of}
use Rattle.machine.specs.Machine.{Outcome, ended, stopped, most_operands, push, no_operand, retyped, convert_at, same, concluded, agrees, apply, Stepper, next, run_by, step_if, step, run_bytes}
use Rattle.theorems.specs.Measured.{ConcreteResult, ConcreteResults, NoneAbstract}
use Rattle.scalars.proofs.Filters.{both_right}
use Rattle.theorems.proofs.MeasuredRules.{converted-concrete, concluded-concrete}

-- ---- stacks

none-at : (s : List Operand) (d : ℕ) → NoneAbstract s → measured_abstract (get_or s d no_operand) ≡ false
none-at [] d h = refl
none-at (o ∷ s) zero h = h.0
none-at (o ∷ s) (suc d) h = none-at s d h.1

none-set : (s : List Operand) (d : ℕ) (o : Operand) → NoneAbstract s → measured_abstract o ≡ false → NoneAbstract (set s d o)
none-set [] d o h e = tt
none-set (x ∷ s) zero o h e = (e, h.1)
none-set (x ∷ s) (suc d) o h e = (h.0, none-set s d o h.1 e)

none_below : (n : ℕ) (s : List Operand) → NoneAbstract s → NoneAbstract (drop n s)
none_below zero s h = h
none_below (suc n) [] h = tt
none_below (suc n) (o ∷ s) h = none_below n s h.1

-- ---- lines

-- what a line leaves
abbrev Leaves : Option (List Operand) → Type 0
Leaves none = Unit
Leaves (some s) = NoneAbstract s

leaves_if : (b : Bool) (o : Option (List Operand)) → (b ≡ true → Leaves o) → Leaves (only_if b o)
leaves_if true o h = h refl
leaves_if false o h = tt

push-leaves : (o : Operand) (s : List Operand) → measured_abstract o ≡ false → NoneAbstract s → Leaves (push o s)
push-leaves o s e h = leaves_if (ltb (length s) most_operands) (some (o ∷ s)) (λ l. (e, h))

convert_leaves : (d a : ℕ) (s : List Operand) → NoneAbstract s → Leaves (convert_at d a s)
unfolding convert_at
convert_leaves d a s h =
    let o : Operand = get_or s d no_operand in
    let other : Bool = not (eqb o.code a) in
    leaves_if (both (ltb d (length s)) (both other (reaches o.code a))) (some (set s d (retyped o a)))
    (λ e. none-set s d (retyped o a) h
    (converted-concrete o a (both_right other (reaches o.code a) (both_right (ltb d (length s)) _ e)) (none-at s d h)))

-- operands of which one is measured are some
some-measured : (n : ℕ) (s : List Operand) → any_measured (take n s) ≡ true → 0 < n
some-measured zero s e = absurd (false≢true e)
some-measured (suc n) s e = omega arith

apply-leaves : (n : ℕ) (s : List Operand) (o : Option Signature) → ((r : Signature) → o ≡ some r → ConcreteResult r) → NoneAbstract s
    → Leaves (apply n s o)
unfolding apply
apply-leaves n s none rule h = tt
apply-leaves n s (some r) rule h =
    let os : List Operand = take n s in
    let az : List ℕ = r.arguments in
    leaves_if (eqb (length az) n) _ (λ e.
    leaves_if (both (leb n (length s)) (same os (reverse az))) _ (λ m.
    leaves_if (agrees r os) _ (λ a.
    push-leaves (concluded r os) (drop n s)
    (concluded-concrete r os (rule r refl) a (λ b. subst (λ (k : ℕ). 0 < k) (sym (eqb-true (length az) n e)) (some-measured n s b)))
    (none_below n s h))))

-- ---- runs

abbrev Ends : Outcome → Type 0
Ends (ended s) = NoneAbstract s
Ends (stopped n) = Unit

next-ends : (n : ℕ) (go : List Operand → Outcome) (o : Option (List Operand)) → ((s : List Operand) → NoneAbstract s → Ends (go s))
    → Leaves o → Ends (next n go o)
next-ends n go none h l = tt
next-ends n go (some s) h l = h s l

module _ {A : Type 0} (by : Stepper A) (leaves : (l : A) (s : List Operand) → NoneAbstract s → Leaves (by l s)) where
  run_ends : (ls : List A) (n : ℕ) (s : List Operand) → NoneAbstract s → Ends (run_by by ls n s)
  run_ends [] n s h = h
  run_ends (l ∷ ls) n s h =
      next-ends n (λ (s' : List Operand). run_by by ls (suc n) s') (by l s) (λ s' h'. run_ends ls (suc n) s' h') (leaves l s h)

module _ (rules_of : ℕ → List Signature) (rules : ConcreteResults rules_of) where
  step-leaves : (l : Line) (s : List Operand) → NoneAbstract s → Leaves (step rules_of l s)
  unfolding ConcreteResults
  step-leaves (leaf_line l) s h =
      leaves_if (leb l.code last_leaf) _ (λ k. leaves_if (not (measured_abstract l)) _ (λ e. push-leaves l s (not-true _ e) h))
  step-leaves (conversion_line d a) s h = convert_leaves d a s h
  step-leaves (call_line f i n) s h = apply-leaves n s (get_elem? (rules_of f) i) (rules f i) h

  step_if-leaves : (l : Option Line) (s : List Operand) → NoneAbstract s → Leaves (step_if (step rules_of) l s)
  step_if-leaves none s h = tt
  step_if-leaves (some l) s h = step-leaves l s h

  pub lines_leave : (ls : List Line) (n : ℕ) (s s' : List Operand) → NoneAbstract s → run_by (step rules_of) ls n s ≡ ended s'
      → NoneAbstract s'
  lines_leave ls n s s' h e = subst Ends e (run_ends (step rules_of) step-leaves ls n s h)

  pub bytes_leave : (bs : List ℕ) (s : List Operand) → run_bytes rules_of bs ≡ ended s → NoneAbstract s
  bytes_leave bs s e = subst Ends e (run_ends (step_if (step rules_of)) step_if-leaves (lines_of bs) 0 [] tt)
