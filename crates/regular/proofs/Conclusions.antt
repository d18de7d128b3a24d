-- The rules of a Regular set one by one: an argument type is a value type, and a rule has a conclusion or is refused 13.
-- Assumes nothing.
use mathlib.Core.Path.{◌≡◌, refl, sym, ap, ap₂, ◌∙◌}
use mathlib.Core.Bool.{Bool, true, false}
use mathlib.Core.List.{List, [], ◌∷◌}
use Prim.Native.Nat.{ℕ, zero, suc, ◌+◌, ◌-◌, ◌*◌, ◌/◌, ◌%◌, ◌<◌}
use native.Mathlib.Nat.{le_of_suc-le-suc}
use native.Mathlib.Omega.{arith}
use lib.Dec.{leb, ltb}
use lib.ListN.{length, get_or}
use borrow.Author.Tests.{ltb-true, lt-ltb}
use Rattle.scalars.specs.Domain.{scalar_count}
use Rattle.scalars.specs.Mask.{choose, both, every}
use Rattle.types.specs.Domain.{value?, constructor_part, scalar_part, constructor_count, other_type}
use Rattle.rules.specs.Rule.{rule_of, predeclared_of, first_code}
use Rattle.types.specs.TypeCode.{predeclared_code, value_code, first_frexp, first_modf}
use Rattle.types.specs.Constructor.{inner_of, constructor_of, outside_sizes}
use Rattle.scalars.specs.Paper.{Paper, accepted, refusal, values, refused, when_accepted, unused}
use Rattle.rules.specs.RulePaper.{rule_values, no_rule}
use Rattle.rules.proofs.RulePapers.{rule_named}
use Rattle.regular.specs.Regular.{codes_of, concluded_of, concluded?, rule_from, rule_for, signature_for}
use Rattle.scalars.specs.declared.refusal.Refusal.{Refusal}
use Rattle.regular.specs.declared.regular.ConclusionRule.{ConclusionRule}
use Rattle.regular.specs.declared.regular.ConclusionRule.TheVariants as conclusion
use Rattle.regular.specs.declared.regular.Regular.{Regular}
use Rattle.rules.specs.declared.rule.Rule.{Rule}
use Rattle.regular.specs.private.Tested.{concluded_for, sized_rule}
use Rattle.rules.specs.declared.rule.Predeclared.{Predeclared}
use Rattle.rules.specs.declared.rule.Predeclared.TheVariants as predeclared
use Rattle.types.specs.declared.constructor_set.ConstructorSize.{ConstructorSize}
use Rattle.types.proofs.Sizes.{inner-parts}
use Rattle.scalars.proofs.Filters.{both_left, both_right}
use Rattle.regular.proofs.RegularRules.{codes-values, concludes}

pub code_below : (r : Regular) (k : ℕ) → k < length (codes_of r) → get_or (codes_of r) k 0 < other_type
code_below r k h = ltb-true _ other_type (at_each (codes_of r) k h (codes-values r))
  where
    at_each : (xs : List ℕ) (k : ℕ) → k < length xs → every value? xs ≡ true → value? (get_or xs k 0) ≡ true
    at_each [] k h e = absurd (omega arith)
    at_each (x ∷ xs) zero h e = both_left (value? x) (every value? xs) e
    at_each (x ∷ xs) (suc k) h e = at_each xs k (le_of_suc-le-suc h) (both_right (value? x) (every value? xs) e)

-- ---- a conclusion, or refusal 13

concluded_or : (k s : ℕ) (first : ℕ) → k < constructor_count → s < scalar_count → concluded? (predeclared_code first k s) ≡ false → predeclared_code first k s ≡ refusal 13 0 (unused ∷ [])
unfolding predeclared_code
concluded_or k s first h l e = let q = simp (lt-ltb k constructor_count h, lt-ltb s scalar_count l) at e in simp (lt-ltb k constructor_count h, lt-ltb s scalar_count l) (go (both (ltb k 4) (both (leb 8 s) (leb s 10))) q)
  where
    go : (b : Bool) → concluded? (choose b (accepted ((first + k * 3 + (s - 8)) ∷ [])) (refusal 13 0 (unused ∷ []))) ≡ false
        → choose b (accepted ((first + k * 3 + (s - 8)) ∷ [])) (refusal 13 0 (unused ∷ [])) ≡ refusal 13 0 (unused ∷ [])
    go true e = let z : ◌≡◌ {A = ℕ} 0 1 = cc in absurd (omega arith)
    go false e = refl

pub only_thirteen : (c : ConclusionRule) (t : ℕ) → t < other_type → concluded? (concluded_of c t) ≡ false → concluded_of c t ≡ refusal 13 0 (unused ∷ [])
unfolding concluded_of
only_thirteen conclusion.Frexp t h e = concluded_or (t / scalar_count) (t % scalar_count) first_frexp (omega arith) (omega arith) e
only_thirteen conclusion.Modf t h e = concluded_or (t / scalar_count) (t % scalar_count) first_modf (omega arith) (omega arith) e
only_thirteen conclusion.ArgumentType t h e = let z : ◌≡◌ {A = ℕ} 0 1 = cc in absurd (omega arith)
only_thirteen conclusion.Scalar t h e = let z : ◌≡◌ {A = ℕ} 0 1 = cc in absurd (omega arith)
only_thirteen conclusion.U32 t h e = let z : ◌≡◌ {A = ℕ} 0 1 = cc in absurd (omega arith)
only_thirteen conclusion.I32 t h e = let z : ◌≡◌ {A = ℕ} 0 1 = cc in absurd (omega arith)
only_thirteen conclusion.Vec2F t h e = let z : ◌≡◌ {A = ℕ} 0 1 = cc in absurd (omega arith)
only_thirteen conclusion.Vec4F t h e = let z : ◌≡◌ {A = ℕ} 0 1 = cc in absurd (omega arith)
only_thirteen conclusion.Vec4I t h e = let z : ◌≡◌ {A = ℕ} 0 1 = cc in absurd (omega arith)
only_thirteen conclusion.Vec4U t h e = let z : ◌≡◌ {A = ℕ} 0 1 = cc in absurd (omega arith)

-- the result of a size and a scalar is that of their type
module _ (z : ConstructorSize) (s t : ℕ) (e : inner_of z s ≡ accepted (t ∷ [])) where
  predeclared_for : (f : Predeclared) → predeclared_of f z s ≡ predeclared_code (first_code f) (constructor_part t) (scalar_part t)
  unfolding predeclared_of
  predeclared_for f =
      let i = inner-parts z s t e in
      let l = i.scalar in
      let c = i.code in
      ap (λ (p : Paper). when_accepted p (λ vs. predeclared_code (first_code f) (get_or vs 0 unused) s) (unused ∷ [])) i.made
      ∙ ap₂ (predeclared_code (first_code f)) (omega arith) (omega arith)

  concluded_for_lem : (c : ConclusionRule) → concluded_for c z s ≡ concluded_of c t
  unfolding concluded_for concluded_of inner_of constructor_of outside_sizes value_code
  concluded_for_lem conclusion.ArgumentType = e
  concluded_for_lem conclusion.Scalar =
      let i = inner-parts z s t e in
      let l = i.scalar in
      let c = i.code in
      simp (lt-ltb _ _ l) (ap (λ (n : ℕ). accepted (n ∷ [])) (omega arith))
  concluded_for_lem conclusion.Frexp = predeclared_for predeclared.Frexp
  concluded_for_lem conclusion.Modf = predeclared_for predeclared.Modf
  concluded_for_lem conclusion.U32 = refl
  concluded_for_lem conclusion.I32 = refl
  concluded_for_lem conclusion.Vec2F = refl
  concluded_for_lem conclusion.Vec4F = refl
  concluded_for_lem conclusion.Vec4I = refl
  concluded_for_lem conclusion.Vec4U = refl

  pub sized-from : (r : Regular) → sized_rule r z s ≡ rule_from r.arity t (concluded_for r.conclude z s)
  unfolding sized_rule rule_for
  sized-from r =
      ap (λ (p : Paper). when_accepted p (λ vs. rule_for r (get_or vs 0 unused)) no_rule) e
      ∙ ap (rule_from r.arity t) (sym (concluded_for_lem r.conclude))

module _ (r : Regular) (t : ℕ) where
  pub rule-refused : t < other_type → (why : Refusal) → rule_for r t ≡ refused why no_rule
      → ((vs : List ℕ) → refused why vs ≡ refusal 13 0 vs) × (concludes r t ≡ false)
  unfolding rule_for
  rule-refused h why e = go (concluded_of r.conclude t) refl e
    where
      go : (p : Paper) → concluded_of r.conclude t ≡ p → rule_from r.arity t p ≡ refused why no_rule
          → ((vs : List ℕ) → refused why vs ≡ refusal 13 0 vs) × (concluded? (concluded_of r.conclude t) ≡ false)
      go (accepted vs) q e = let z : ◌≡◌ {A = ℕ} 0 1 = cc in absurd (omega arith)
      go (refusal n p vs) q e =
          let f = sym q ∙ only_thirteen r.conclude t h (ap concluded? q) in
          (λ ws. cc, ap concluded? q)

  pub rule-concluded : (x : Rule) → rule_for r t ≡ accepted (rule_values x) → (x ≡ rule_of (signature_for r t)) × (concludes r t ≡ true)
  unfolding rule_for
  rule-concluded x e = go (concluded_of r.conclude t) refl e
    where
      go : (p : Paper) → concluded_of r.conclude t ≡ p → rule_from r.arity t p ≡ accepted (rule_values x)
          → (x ≡ rule_of (signature_for r t)) × (concluded? (concluded_of r.conclude t) ≡ true)
      go (accepted vs) q e = (rw q (sym (ap (λ (p : Paper). rule_named (values p)) e)), ap concluded? q)
      go (refusal n p vs) q e = let z : ◌≡◌ {A = ℕ} 0 1 = cc in absurd (omega arith)
