-- Agreement of what the operations answer, as specs/Agreement.antt states it. Assumes nothing.
use mathlib.Core.Path.{◌≡◌, refl, sym, ap, ◌∙◌, subst}
use mathlib.Core.Bool.{Bool, true, false}
use mathlib.Core.List as L
use mathlib.Core.List.{[], ◌∷◌}
use mathlib.Core.Logic.{◌⊎◌, inl, inr}
use Prim.Native.Nat.{ℕ}
use native.Mathlib.Omega.{arith}
use Rattle.scalars.specs.Mask.{choose}
use Rattle.scalars.specs.Paper.{Paper, accepted}
use Rattle.scalars.specs.declared.refusal.Refusal.TheVariants.{Unknown}
use Rattle.std.specs.Prelude.{Ok}
use Rattle.rules.specs.Signature.{Signature}
use Rattle.rules.specs.Rule.{rule_of}
use Rattle.rules.specs.RulePaper.{rule_values}
use Rattle.rules.specs.Verdict.{on_verdict, empty_of}
use Rattle.rules.specs.declared.rule.Part.TheVariants.{Shape, Number}
use Rattle.rules.specs.declared.rule.Keep.{Keep}
use Rattle.rules.specs.declared.rule.Keep.TheVariants.{Argument, Concrete}
use Rattle.regular.specs.Regular.{regular_rules, regular_empty, regular_preferred}
use Rattle.regular.specs.declared.regular.Regular.{Regular}
use Rattle.lists.specs.List.{accepted_list, kept, list_preferred}
use Rattle.lists.specs.Expansion.{list_of}
use Rattle.lists.specs.declared.list.List.{List}
use Rattle.regular.proofs.Regulars.{known-accepted}
use Rattle.theorems.proofs.ChosenPapers.{list-one}
use Rattle.theorems.specs.Steps.{step_regular}
use Rattle.theorems.proofs.SetSteps.{known_step}
use Rattle.theorems.proofs.Preferred.{OneShape, shape_one, step-one}
use Rattle.theorems.proofs.Alike.{Alike, alike-first, alike-step, same-listing, same-preferred}
use Rattle.lists.proofs.Expansions.{expands}
use Rattle.theorems.specs.Operations.{regular, list, refused, list_answer, InTurn}
use Rattle.theorems.specs.Agreement.{some_shape, Agreed, Agrees, Theorem}
use Rattle.theorems.proofs.Operations.{leaves, regular-left, list_left}

-- a step by shape is among those to come, or one has left one constructor
abbrev Shaped : L.List Keep → Regular → Type 0
Shaped ks r = (some_shape ks ≡ true) ⊎ OneShape r

shaped-step : (k : Keep) (ks : L.List Keep) (r : Regular) → Shaped (k ∷ ks) r → Shaped ks (step_regular k r)
shaped-step (Argument Shape i t) ks r h = inr (shape_one i t r)
shaped-step (Argument Number i t) ks r (inl e) = inl e
shaped-step (Argument Number i t) ks r (inr o) = inr (step-one (Argument Number i t) r o)
shaped-step Concrete ks r (inl e) = inl e
shaped-step Concrete ks r (inr o) = inr (step-one Concrete r o)

-- some rule is left
some_left : (rs : L.List Signature) → empty_of rs ≡ accepted (0 ∷ []) → (s : Signature) × (rest : L.List Signature) × (rs ≡ s ∷ rest)
some_left [] e = let z : ◌≡◌ {A = ℕ} 1 0 = cc in absurd (omega arith)
some_left (s ∷ rest) e = (s, rest, refl)

module _ (steps : L.List Keep) where
  agreed : (l : List) (r : Regular) → Alike l r → (some_shape steps ≡ true → OneShape r) → Agreed steps (list l) (regular r)
  unfolding regular_empty
  agreed l r a shape =
      record {
        listing = λ p q (x, e, f) (y, g, h). f ∙ e ∙ same-listing l r a ∙ sym (h ∙ g);
        preferred = λ some (t, e, f) p q (x, g, h) (y, u, v). go some (f ∙ e) p q (h ∙ g) (v ∙ u);
      }
    where
      go : some_shape steps ≡ true → accepted (0 ∷ []) ≡ regular_empty r → (p q : Paper) → p ≡ list_preferred l → q ≡ regular_preferred r
          → (i : ℕ) × (vs : L.List ℕ) × (p ≡ accepted (i ∷ vs)) × (q ≡ accepted vs)
      go some none p q e f =
          let (s, rest, w) = some_left (regular_rules r)
          (sym (ap (λ (v : Paper). on_verdict v (empty_of (regular_rules r)) (255 ∷ [])) (known-accepted r a.known)) ∙ sym none) in
          let (i, x, y) = same-preferred l r a (shape some) s rest w in
          (i, rule_values (rule_of s), e ∙ x, f ∙ y)

  agree : (ks : L.List Keep) (l : List) (r : Regular) → Alike l r → (some_shape steps ≡ true → Shaped ks r)
      → Agrees steps (leaves list kept ks l) (leaves regular step_regular ks r)
  agree [] l r a shape = agreed l r a (λ e. none (shape e))
    where
      none : Shaped [] r → OneShape r
      none (inl e) = let z : ◌≡◌ {A = ℕ} 0 1 = cc in absurd (omega arith)
      none (inr o) = o
  agree (k ∷ ks) l r a shape = go (agree ks (kept k l) (step_regular k r) (alike-step l r a k) (λ e. shaped-step k ks r (shape e))) (known_step k)
    where
      go : Agrees steps (leaves list kept ks (kept k l)) (leaves regular step_regular ks (step_regular k r)) → (y : Bool)
          → Agrees steps (choose y (leaves list kept ks (kept k l)) (refused (Unknown 0))) (choose y (leaves regular step_regular ks (step_regular k r)) (refused (Unknown 0)))
      go more true = more
      go more false = refl

pub agreement : Theorem
unfolding accepted_list
agreement κs a x v e h steps c d p q =
    let r = a.0 in
    let l = list_of (regular_rules r) in
    let w = alike-first r h in
    let f : x ≡ Ok l = list-one x (Ok l) (e ∙ expands r h.known h.few h.concludes) in
    let c-is : c ≡ leaves list kept steps l = list_left steps l w.tested c (subst (λ y. InTurn steps (list_answer y) c) f p) in
    let d-is : d ≡ leaves regular step_regular steps r = regular-left steps r w.known d q in
    rw (c-is, d-is) (agree steps steps l r w (λ s. inl s))
