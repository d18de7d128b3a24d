-- A step of a Regular set, by its two masks, filters its listing by what a List's step asks of each rule: an argument step keeps the
-- rules whose type at the index fits the operand's by the step's part, the concrete-only step those without an abstract argument. Assumes nothing.
use mathlib.Core.Path.{◌≡◌, refl, sym, ap, ◌∙◌}
use mathlib.Core.Bool.{Bool, true, false, not}
use mathlib.Core.List.{map}
use Prim.Native.Nat.{ℕ, zero, suc, ◌≤◌, ◌<◌}
use native.Mathlib.Nat.{lt_of_le_of_lt, le_of_suc-le-suc, not-suc-le-zero}
use lib.Bits.{and_le_l}
use lib.Dec.{lit≤, lit<}
use lib.ListN.{replicate}
use Rattle.scalars.specs.Mask.{both, filter, bits}
use Rattle.scalars.specs.Domain.{abstract?}
use Rattle.types.specs.Domain.{is_abstract}
use Rattle.rules.specs.Signature.{fits_by, argument_passes, fits, concrete}
use Rattle.rules.specs.declared.rule.Part.{Part}
use Rattle.rules.specs.declared.rule.Part.TheVariants.{Shape, Number}
use Rattle.rules.proofs.Records.{all_concrete}
use Rattle.scalars.specs.Scalar.{scalars_that}
use Rattle.types.specs.Constructor.{singleton_of_code}
use Rattle.regular.specs.Regular.{codes_of, signature_for, regular_rules, empty_regular, narrowed, concrete_set, reached_scalars}
use Rattle.regular.specs.private.Tested.{Known}
use Rattle.regular.specs.declared.regular.Regular.{Regular}
use Rattle.scalars.proofs.Filters.{both_comm, filter_same, filter_none, filter_map}
use Rattle.regular.proofs.RegularCodes.{narrowed-codes, concrete-codes}

-- ---- a rule of equal arguments

module _ (p : ℕ → Bool) where
  -- a rule of equal arguments passes a test where its one type does
  pub passes-each : (n i a : ℕ) → i < n → argument_passes p i (replicate n a) ≡ p a
  passes-each zero i a h = absurd (not-suc-le-zero h)
  passes-each (suc n) zero a h = refl
  passes-each (suc n) (suc i) a h = passes-each n i a (le_of_suc-le-suc h)

  -- it passes none past its arguments
  passes-past : (n i a : ℕ) → n ≤ i → argument_passes p i (replicate n a) ≡ false
  passes-past zero i a h = refl
  passes-past (suc n) zero a h = absurd (not-suc-le-zero h)
  passes-past (suc n) (suc i) a h = passes-past n i a (le_of_suc-le-suc h)

pub concrete-each : (n a : ℕ) → 1 ≤ n → all_concrete (replicate n a) ≡ not (is_abstract a)
concrete-each zero a h = absurd (not-suc-le-zero h)
concrete-each (suc n) a h = go n
  where
    both-again : (b : Bool) {c : Bool} → c ≡ b → both b c ≡ b
    both-again true e = e
    both-again false e = refl

    go : (n : ℕ) → both (not (is_abstract a)) (all_concrete (replicate n a)) ≡ not (is_abstract a)
    go zero = both_comm (not (is_abstract a)) true
    go (suc n) = both-again (not (is_abstract a)) (go n)

-- ---- a step filters the listing

-- an argument step at an index below the arity
pub narrowed-rules : (part : Part) (i t : ℕ) (r : Regular) → i < r.arity → regular_rules (narrowed part t r) ≡ filter (fits part i t) (regular_rules r)
unfolding regular_rules narrowed
narrowed-rules part i t r h =
    kept part
    ∙ ap (map (signature_for r))
    (filter_same (fits_by part t) (λ a. argument_passes (fits_by part t) i (replicate r.arity a))
    (λ a. sym (passes-each (fits_by part t) r.arity i a h)) (codes_of r))
    ∙ sym (filter_map (fits part i t) (signature_for r) (codes_of r))
  where
    kept : (w : Part) → map (signature_for (narrowed w t r)) (codes_of (narrowed w t r)) ≡ map (signature_for r) (filter (fits_by w t) (codes_of r))
    kept Shape = ap (map (signature_for r)) (narrowed-codes Shape t r)
    kept Number = ap (map (signature_for r)) (narrowed-codes Number t r)

-- at or above it, no rule is left
pub past-rules : (part : Part) (i t : ℕ) (r : Regular) → r.arity ≤ i → regular_rules empty_regular ≡ filter (fits part i t) (regular_rules r)
unfolding regular_rules codes_of bits
past-rules part i t r h =
    sym (filter_map (fits part i t) (signature_for r) (codes_of r)
    ∙ ap (map (signature_for r))
    (filter_none (λ a. argument_passes (fits_by part t) i (replicate r.arity a)) (λ a. passes-past (fits_by part t) r.arity i a h) (codes_of r)))

-- a concrete-only step of rules that have an argument
pub concrete-rules : (r : Regular) → 1 ≤ r.arity → regular_rules (concrete_set r) ≡ filter concrete (regular_rules r)
unfolding regular_rules concrete_set
concrete-rules r h =
    ap (map (signature_for r)) (concrete-codes r ∙ filter_same (λ a. not (is_abstract a)) (λ a. all_concrete (replicate r.arity a)) (λ a. sym (concrete-each r.arity a h)) (codes_of r))
    ∙ sym (filter_map concrete (signature_for r) (codes_of r))

-- ---- a step keeps a set within its bounds, its arity and its conclusion

pub narrowed-known : (part : Part) (t : ℕ) (r : Regular) → Known r → Known (narrowed part t r)
unfolding narrowed
narrowed-known Shape t r known = record {
  constructors = lt_of_le_of_lt (and_le_l r.constructors.0 (singleton_of_code t)) known.constructors;
  scalars = known.scalars;
  arity = known.arity;
}
narrowed-known Number t r known = record {
  constructors = known.constructors;
  scalars = lt_of_le_of_lt (and_le_l r.scalars.0 (reached_scalars t)) known.scalars;
  arity = known.arity;
}

pub concrete-known : (r : Regular) → Known r → Known (concrete_set r)
unfolding concrete_set
concrete-known r known = record {
  constructors = known.constructors;
  scalars = lt_of_le_of_lt (and_le_l r.scalars.0 (scalars_that (λ k. not (abstract? k)))) known.scalars;
  arity = known.arity;
}

pub empty-known : Known empty_regular
empty-known = record { constructors = lit< tt; scalars = lit< tt; arity = lit≤ tt }
