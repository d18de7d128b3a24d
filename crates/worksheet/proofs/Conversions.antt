-- The conversions of a call, one operand after the other: what is left of them from an operand on, in a walk that writes a line for
-- it only where the types differ.
-- Assumes nothing.
use mathlib.Core.Path.{◌≡◌, sym, ap, ap₂, ◌∙◌}
use mathlib.Core.List.{List, [], ◌∷◌, ◌++◌}
use Prim.Native.Nat.{ℕ, suc, ◌+◌, ◌-◌, ◌≤◌, ◌<◌}
use native.Mathlib.Numerals.{add-one}
use native.Mathlib.Omega.{arith}
use borrow.Author.Tests.{eq-eqb, ne_eqb}
use lib.Dec.{eqb}
use lib.ListN.{length, get_or, drop, length-drop, drop_of_length-le}
use lib.Seq.{drop-cons}
use Rattle.scalars.specs.Mask.{choose}
use Rattle.rules.specs.Rule.{arguments_of}
use Rattle.rules.specs.declared.rule.Rule.{Rule}
use Rattle.worksheet.specs.declared.sheet.Sheet.{Sheet}
use Rattle.machine.specs.Line.{conversion_line, conversion_kind, conversions, encode}
use Rattle.worksheet.specs.private.Sheet.{Wrote}
use Rattle.worksheet.proofs.Written.{wrote-both, wrote_as, wrote_nothing}

-- the conversions of the operands from an index on
abbrev pub left_from : List ℕ → Rule → ℕ → List ℕ
left_from ts rule i = encode (conversions (drop i ts) (drop i (arguments_of rule)))

-- whatever is left makes the whole
abbrev pub Leaves : Sheet → List ℕ → Rule → Sheet → ℕ → Type 0
Leaves h ts rule m i = (r : Sheet) → Wrote m (left_from ts rule i) r → Wrote h (left_from ts rule 0) r

module _ (ts : List ℕ) (rule : Rule) (i : ℕ) (taken : length ts ≤ length (arguments_of rule)) where
  pub none_left : length ts ≤ i → left_from ts rule i ≡ []
  unfolding encode
  none_left h = rw (drop_of_length-le ts {i = i} h)

  -- the argument's type
  abbrev pub wanted : ℕ
  wanted = get_or (arguments_of rule) i 255

  module _ (here : i < length ts) where
    split : conversions (drop i ts) (drop i (arguments_of rule))
        ≡ choose (eqb (get_or ts i 0) wanted)
        (conversions (drop (i + 1) ts) (drop (i + 1) (arguments_of rule)))
        (conversion_line (length ts - 1 - i) wanted ∷ conversions (drop (i + 1) ts) (drop (i + 1) (arguments_of rule)))
    split =
        let n : length (drop (suc i) ts) ≡ length ts - 1 - i = length-drop (suc i) ts ∙ omega arith in
        ap₂ conversions (drop-cons ts i 0 here) (drop-cons (arguments_of rule) i 255 (omega arith))
        ∙ ap₂ (λ d j. choose (eqb (get_or ts i 0) wanted) (conversions (drop j ts) (drop j (arguments_of rule))) (conversion_line d wanted ∷ conversions (drop j ts) (drop j (arguments_of rule)))) n
        (sym (add-one i))

    same_left : get_or ts i 0 ≡ wanted → left_from ts rule i ≡ left_from ts rule (i + 1)
    same_left e =
        let s : conversions (drop i ts) (drop i (arguments_of rule)) ≡ conversions (drop (i + 1) ts) (drop (i + 1) (arguments_of rule)) =
        split ∙ simp (eq-eqb (get_or ts i 0) wanted e) in
        ap encode s

    differ_left : (get_or ts i 0 ≡ wanted → ⊥)
        → left_from ts rule i ≡ (conversion_kind ∷ (length ts - 1 - i) ∷ wanted ∷ 0 ∷ []) ++ left_from ts rule (i + 1)
    unfolding encode
    differ_left e =
        let s : conversions (drop i ts) (drop i (arguments_of rule))
        ≡ conversion_line (length ts - 1 - i) wanted ∷ conversions (drop (i + 1) ts) (drop (i + 1) (arguments_of rule)) =
        split ∙ simp (ne_eqb (get_or ts i 0) wanted e) in
        ap encode s

    -- an operand of the argument's type needs no line
    pub leave_same : (h m : Sheet) (x : ℕ) → x ≡ wanted → get_or ts i 0 ≡ x
        → Leaves h ts rule m i → Leaves h ts rule m (i + 1)
    leave_same h m x p e k r w = k r (wrote_as (sym (same_left (e ∙ p))) w)

    -- any other has one
    pub leave_line : (h m m' : Sheet) (x : ℕ) → x ≡ wanted → (get_or ts i 0 ≡ x → ⊥)
        → Wrote m (conversion_kind ∷ (length ts - 1 - i) ∷ x ∷ 0 ∷ []) m' → Leaves h ts rule m i → Leaves h ts rule m' (i + 1)
    leave_line h m m' x p e l k r w =
        k r (wrote_as (sym (differ_left (λ q. e (q ∙ sym p))))
        (wrote-both (wrote_as (ap (λ y. conversion_kind ∷ (length ts - 1 - i) ∷ y ∷ 0 ∷ []) p) l) w))

  -- at the end nothing is left
  pub leave_none : (h m : Sheet) → length ts ≤ i → Leaves h ts rule m i → Wrote h (left_from ts rule 0) m
  leave_none h m e k = k m (wrote_as (sym (none_left e)) (wrote_nothing m))
