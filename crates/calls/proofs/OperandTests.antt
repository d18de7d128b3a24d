-- The test of one operand after the other: one with a fault ends it, and one without hands on what is left.
-- Assumes nothing.
use mathlib.Core.Path.{◌≡◌, refl, sym, ap, ap₂, ◌∙◌}
use mathlib.Core.Bool.{Bool, true, false}
use mathlib.Core.List.{List, [], ◌∷◌}
use Prim.Native.Nat.{ℕ, ◌+◌, ◌≤◌, ◌<◌}
use native.Mathlib.Numerals.{add-one}
use native.Mathlib.Omega.{arith}
use lib.Dec.{eqb}
use lib.ListN.{length, get_or, drop, drop_of_length-le}
use lib.Seq.{drop-cons}
use borrow.Author.Tests.{le-leb, lt-leb}
use Rattle.scalars.specs.Mask.{choose, either}
use Rattle.scalars.specs.Paper.{Paper, accepted, refusal}
use Rattle.types.specs.Domain.{last_code}
use Rattle.types.specs.declared.operand.Operand.{Operand}
use Rattle.types.specs.Operand.{measured_mark, mark_of, operand_of, measured_abstract, any_mark}
use Rattle.calls.specs.Call.{operand_fault, if_operands}
use Rattle.calls.specs.private.Found.{in_order}

-- what is left of the test of all operands, from this one on
abbrev pub tested_from : ℕ → List ℕ → List ℕ → Paper
tested_from i ts ms = if_operands i (drop i ts) (drop i ms) [] (in_order ms)

module _ (ts ms : List ℕ) (i : ℕ) {whole : Paper} (inv : tested_from i ts ms ≡ whole) where
  abbrev fault : ℕ
  fault = operand_fault (get_or ts i 0) (get_or ms i 0)

  module _ (alike : length ts ≡ length ms) (here : i < length ts) where
    split : tested_from i ts ms ≡ choose (eqb fault 0) (tested_from (i + 1) ts ms) (refusal fault (1 + i) [])
    split =
        rw (add-one i)
        (ap₂ (λ (us ns : List ℕ). if_operands i us ns [] (in_order ms)) (drop-cons ts i 0 here) (drop-cons ms i 0 (omega arith)))

    unknown : fault ≡ 7 → refusal 7 (1 + i) [] ≡ whole
    unknown e = sym (split ∙ rw e) ∙ inv

    pub unknown_type : last_code < get_or ts i 0 → refusal 7 (1 + i) [] ≡ whole
    unknown_type h = unknown (rw (lt-leb _ _ h))

    module _ (known : get_or ts i 0 ≤ last_code) where
      pub unknown_mark : measured_mark < get_or ms i 0 → refusal 7 (1 + i) [] ≡ whole
      unknown_mark h = unknown (rw (le-leb _ _ known, lt-leb _ _ h))

      module _ (marked : get_or ms i 0 ≤ measured_mark) where
        module _ {o : Operand} (made : o ≡ operand_of (get_or ts i 0) (get_or ms i 0)) {b : Bool} (told : b ≡ measured_abstract o) where
          pub measured_abstract_out : b ≡ true → refusal 17 (1 + i) [] ≡ whole
          measured_abstract_out h =
              let e : fault ≡ 17 = rw (le-leb _ _ known, le-leb _ _ marked, sym (ap measured_abstract made) ∙ sym told ∙ h) in
              sym (split ∙ rw e) ∙ inv

          pub next-operand : b ≡ false → tested_from (i + 1) ts ms ≡ whole
          next-operand h =
              let e : fault ≡ 0 = rw (le-leb _ _ known, le-leb _ _ marked, sym (ap measured_abstract made) ∙ sym told ∙ h) in
              sym (split ∙ rw e) ∙ inv

  pub no_operand-left : length ts ≤ i → {measured : Bool} → measured ≡ any_mark ms → accepted (mark_of measured ∷ []) ≡ whole
  no_operand-left h some =
      ap (λ (b : Bool). accepted (mark_of b ∷ [])) some
      ∙ sym (ap (λ (us : List ℕ). if_operands i us (drop i ms) [] (in_order ms)) (drop_of_length-le ts h)) ∙ inv

-- ---- whether an operand is measured, found on the way

assoc : (a b c : Bool) → either a (either b c) ≡ either (either a b) c
assoc true b c = refl
assoc false b c = refl

none_else : (b : Bool) → either b false ≡ b
none_else true = refl
none_else false = refl

-- what `||` gives, by its first side
pub or_first : {a c : Bool} (b : Bool) → c ≡ a → a ≡ true → c ≡ either a b
or_first {a} b e t = e ∙ t ∙ sym (ap (λ (x : Bool). either x b) t)

pub or_second : {a c : Bool} (b : Bool) → c ≡ b → a ≡ false → c ≡ either a b
or_second {a} b e f = e ∙ sym (ap (λ (x : Bool). either x b) f)

-- some operand is, if one before this one is or one from here on
abbrev pub SoFar : List ℕ → ℕ → Bool → Type 0
SoFar ms i measured = either measured (any_mark (drop i ms)) ≡ any_mark ms

module _ (ms : List ℕ) (i : ℕ) (measured : Bool) (so_far : SoFar ms i measured) where
  pub next-mark : i < length ms → {o : Operand} {t : ℕ} → o ≡ operand_of t (get_or ms i 0) → {also : Bool} → also ≡ either measured o.measured → SoFar ms (i + 1) also
  next-mark h made is =
      let e = is ∙ ap (λ (o : Operand). either measured o.measured) made in
      let split : any_mark (drop i ms) ≡ either (eqb (get_or ms i 0) measured_mark) (any_mark (drop (i + 1) ms)) =
      rw (add-one i) (ap any_mark (drop-cons ms i 0 h)) in
      ap (λ b. either b (any_mark (drop (i + 1) ms))) e
      ∙ sym (assoc measured (eqb (get_or ms i 0) measured_mark) (any_mark (drop (i + 1) ms)))
      ∙ ap (either measured) (sym split) ∙ so_far

  pub all-marks : length ms ≤ i → measured ≡ any_mark ms
  all-marks h = sym (none_else measured) ∙ ap (either measured) (sym (ap any_mark (drop_of_length-le ms h))) ∙ so_far
