-- The typer answers no measured abstract operand for an expression whose leaves are none: of a call, whatever its operands are, since it
-- chooses a rule that goes with their marks. Assumes nothing.
use mathlib.Core.Path.{◌≡◌, refl, subst}
use mathlib.Core.Bool.{Bool, true, false, not, false≢true}
use mathlib.Core.List.{List, [], ◌∷◌, ◌++◌}
use Prim.Native.Nat.{ℕ, ◌<◌}
use native.Mathlib.Omega.{arith}
use lib.ListN.{length}
use Rattle.scalars.specs.Mask.{either}
use Rattle.types.specs.Operand.{measured_abstract, codes, any_measured, concrete_only}
use Rattle.types.specs.declared.operand.Operand.{Operand}
use Rattle.rules.specs.Signature.{Signature, reaches, argument_passes, takes, concrete}
use Rattle.calls.specs.Choice.{Choice, chosen, wrong_count, none_after, none_concrete, resolve_of}
use Rattle.expressions.specs.Tree.{Tree, Trees, leaf, call, none, more}
use Rattle.expressions.specs.Limits.{Measurable, MeasurableAll}
use Rattle.machine.specs.Line.{Line}
use Rattle.worksheet.specs.Places.{inside, behind, starts}
use Rattle.worksheet.specs.Typer.{Typed, typed, refused, and_then, conclude, type_of, type_all}
use Rattle.theorems.specs.Measured.{ConcreteResults, NoneAbstract}
use Rattle.scalars.proofs.Filters.{both_left, both_right}
use Rattle.calls.proofs.Narrowing.{takes_from, permits}
use Rattle.calls.proofs.Surviving.{There, resolve-there}
use Rattle.theorems.proofs.MeasuredRules.{concluded-concrete}

-- ---- a call's rule

-- what the steps permit, with the switch or a measured operand, goes with the operands' marks
permits-agrees : (switch measured : Bool) (r : Signature) → permits (concrete_only switch measured) r ≡ true
    → either (not measured) (concrete r) ≡ true
permits-agrees switch false r e = refl
permits-agrees true true r e = e
permits-agrees false true r e = e

-- a rule that takes a first operand has arguments
takes-some : (t : ℕ) (az : List ℕ) → argument_passes (reaches t) 0 az ≡ true → 0 < length az
takes-some t [] e = absurd (false≢true e)
takes-some t (a ∷ az) e = omega arith

some-arguments : (os : List Operand) (r : Signature) → takes_from 0 (codes os) r ≡ true → any_measured os ≡ true → 0 < length r.arguments
some-arguments [] r e m = absurd (false≢true m)
some-arguments (o ∷ os) r e m = takes-some o.code r.arguments (both_left (takes 0 o.code r) _ e)

-- ---- answers

-- what was typed has a property
abbrev Each : {A : Type 0} → (A → Type 0) → Typed A → Type 0
Each P (typed x ls) = P x
Each P (refused n p) = Unit

abbrev Concrete : Operand → Type 0
Concrete o = measured_abstract o ≡ false

after : {A B : Type 0} (Q : B → Type 0) (x : Typed A) (next : A → List Line → Typed B) → ((y : A) (ls : List Line) → Each Q (next y ls))
    → Each Q (and_then x next)
after Q (typed y ls) next h = h y ls
after Q (refused n p) next h = tt

before-all : (x : Typed Operand) (y : Typed (List Operand)) → Each Concrete x → Each NoneAbstract y
    → Each NoneAbstract (and_then x (λ o ls. and_then y (λ os ls'. typed (o ∷ os) (ls ++ ls'))))
before-all (refused n p) y h k = tt
before-all (typed o ls) (refused n p) h k = tt
before-all (typed o ls) (typed os ls') h k = (h, k)

module _ (rules_of : ℕ → List Signature) (rules : ConcreteResults rules_of) (switch : Bool) where
  conclude-concrete : (f at : ℕ) (places : List ℕ) (os : List Operand) (ls : List Line) (c : Choice)
      → There (concrete_only switch (any_measured os)) (rules_of f) (codes os) c → Each Concrete (conclude f at places os ls c)
  unfolding ConcreteResults
  conclude-concrete f at places os ls (chosen i r) h =
      let on = concrete_only switch (any_measured os) in
      concluded-concrete r os (rules f i r h.1)
      (permits-agrees switch (any_measured os) r (both_right (takes_from 0 (codes os) r) (permits on r) h.2))
      (some-arguments os r (both_left (takes_from 0 (codes os) r) (permits on r) h.2))
  conclude-concrete f at places os ls wrong_count h = tt
  conclude-concrete f at places os ls (none_after part k) h = tt
  conclude-concrete f at places os ls none_concrete h = tt

  type_concrete : (e : Tree) (at : ℕ) → Measurable e → Each Concrete (type_of rules_of switch e at)
  unfolding type_of Measurable
  type_concrete (leaf l) at m = m
  type_concrete (call f es) at m =
      after Concrete (type_all rules_of switch es (inside at)) _ (λ os ls.
      conclude-concrete f at (starts es (inside at)) os ls (resolve_of switch (rules_of f) os)
      (resolve-there (concrete_only switch (any_measured os)) (rules_of f) (codes os)))

  types-concrete : (es : Trees) (at : ℕ) → MeasurableAll es → Each NoneAbstract (type_all rules_of switch es at)
  unfolding type_all MeasurableAll
  types-concrete none at m = tt
  types-concrete (more e es) at m =
      before-all (type_of rules_of switch e at) (type_all rules_of switch es (behind e at)) (type_concrete e at m.0)
      (types-concrete es (behind e at) m.1)

  pub expression-concrete : (e : Tree) (at : ℕ) → Measurable e → (o : Operand) (ls : List Line) → type_of rules_of switch e at ≡ typed o ls
      → measured_abstract o ≡ false
  expression-concrete e at m o ls q = subst (Each Concrete) q (type_concrete e at m)

  pub operands-concrete : (es : Trees) (at : ℕ) → MeasurableAll es → (os : List Operand) (ls : List Line)
      → type_all rules_of switch es at ≡ typed os ls → NoneAbstract os
  operands-concrete es at m os ls q = subst (Each NoneAbstract) q (types-concrete es at m)
