-- The steps of a call, one at a time: the number of operands is the longest rule's, or is wrong; a step that empties the set ends the
-- steps, and any other leaves the entries that pass. Assumes nothing.
use mathlib.Core.Path.{◌≡◌, refl, sym, ap, ◌∙◌}
use mathlib.Core.Bool.{Bool, true, false}
use mathlib.Core.List as L
use mathlib.Core.List.{[], ◌∷◌}
use Prim.Native.Nat.{ℕ, suc, ◌+◌, ◌≤◌, ◌<◌}
use native.Mathlib.Numerals.{add-one}
use native.Mathlib.Omega.{arith}
use lib.Dec.{ltb}
use lib.ListN.{length, get_or, drop, drop_of_length-le}
use borrow.Author.Tests.{lt-ltb, le-ltb, ltb-false}
use Rattle.scalars.specs.Mask.{choose, either}
use Rattle.rules.specs.Signature.{Signature, fits}
use Rattle.rules.specs.declared.rule.Part.{Part}
use Rattle.rules.specs.declared.rule.Part.TheVariants.{Shape, Number}
use Rattle.lists.specs.Entry.{Entry, keep}
use Rattle.calls.specs.Choice.{Narrowed, left, emptied, unless_empty, part_step, narrow, chosen, first}
use Rattle.rules.specs.Verdict.{longest}
use Rattle.types.proofs.Codes.{from-here}
use Rattle.calls.proofs.Narrowing.{Some}

-- ---- one step further

-- the step behind one by this part of the operand i: the same operand's number, or the next operand's shape
abbrev pub next_part : Part → Part
next_part Shape = Number
next_part Number = Shape

abbrev pub next_at : Part → ℕ → ℕ
next_at Shape i = i
next_at Number i = i + 1

-- the steps to come, from the one by this part of the operand i on
abbrev pub to_come : Part → L.List ℕ → ℕ → L.List Entry → Narrowed
to_come Shape ts i s = narrow (drop i ts) i s
to_come Number ts i s = part_step Number i (get_or ts i 0) (λ (s' : L.List Entry). narrow (drop (i + 1) ts) (suc i) s') s

module _ (ts : L.List ℕ) (i : ℕ) (here : i < length ts) where
  there : (part : Part) (s : L.List Entry)
      → to_come part ts i s ≡ part_step part i (get_or ts i 0) (λ (s' : L.List Entry). to_come (next_part part) ts (next_at part i) s') s
  unfolding narrow
  there Shape s = ap (λ (l : L.List ℕ). narrow l i s) (from-here ts i here)
  there Number s = ap (λ (k : ℕ). part_step Number i (get_or ts i 0) (λ (s' : L.List Entry). narrow (drop (i + 1) ts) k s') s) (sym (add-one i))

  -- the step leaves none
  pub step_out : (part : Part) (s : L.List Entry) → keep (fits part i (get_or ts i 0)) s ≡ [] → to_come part ts i s ≡ emptied part i
  step_out part s e =
      there part s ∙ ap (unless_empty (emptied part i) (λ (s' : L.List Entry). to_come (next_part part) ts (next_at part i) s')) e

  -- it leaves some
  pub step-on : (part : Part) (s : L.List Entry) → Some (keep (fits part i (get_or ts i 0)) s)
      → to_come part ts i s ≡ to_come (next_part part) ts (next_at part i) (keep (fits part i (get_or ts i 0)) s)
  step-on part s some = there part s ∙ go (keep (fits part i (get_or ts i 0)) s) some.2
    where
      go : (xs : L.List Entry) → first xs ≡ chosen some.0 some.1
          → unless_empty (emptied part i) (λ (s' : L.List Entry). to_come (next_part part) ts (next_at part i) s') xs ≡ to_come (next_part part) ts (next_at part i) xs
      go [] e = let z : ◌≡◌ {A = ℕ} 0 1 = cc in absurd (omega arith)
      go (x ∷ xs) e = refl

-- there is no further operand
pub narrow-end : (ts : L.List ℕ) (i : ℕ) (s : L.List Entry) → length ts ≤ i → narrow (drop i ts) i s ≡ left s
unfolding narrow
narrow-end ts i s h = ap (λ (l : L.List ℕ). narrow l i s) (drop_of_length-le ts h)

-- ---- the count

module _ (rules : L.List Signature) (ts : L.List ℕ) where
  unequal : (length ts ≡ longest rules → ⊥) → either (ltb (length ts) (longest rules)) (ltb (longest rules) (length ts)) ≡ true
  unequal h = go (ltb (length ts) (longest rules)) refl
    where
      go : (b : Bool) → ltb (length ts) (longest rules) ≡ b → either b (ltb (longest rules) (length ts)) ≡ true
      go true e = refl
      go false e = lt-ltb (longest rules) (length ts) (omega (arith, ltb-false (length ts) (longest rules) e, h))

  equal : length ts ≡ longest rules → either (ltb (length ts) (longest rules)) (ltb (longest rules) (length ts)) ≡ false
  equal e = simp (le-ltb (longest rules) (length ts) (omega arith), le-ltb (length ts) (longest rules) (omega arith))

  -- of anything that is asked after the count
  pub count-wrong : {A : Type 0} (x y : A) → (length ts ≡ longest rules → ⊥)
      → choose (either (ltb (length ts) (longest rules)) (ltb (longest rules) (length ts))) x y ≡ x
  count-wrong {A} x y h = ap (λ (b : Bool). choose b x y) (unequal h)

  pub count-right : {A : Type 0} (x y : A) → length ts ≡ longest rules
      → choose (either (ltb (length ts) (longest rules)) (ltb (longest rules) (length ts))) x y ≡ y
  count-right {A} x y e = ap (λ (b : Bool). choose b x y) (equal e)
