-- A step of a Regular set, at any index, filters its listing: the rules that are left are those that pass the step's test, in order.
-- The two steps of an operand are document 01's single one. A set's bounds and conclusions last. Assumes nothing.
use mathlib.Core.Path.{◌≡◌, refl, sym, ap, ◌∙◌}
use mathlib.Core.Bool.{Bool, true, false, not}
use mathlib.Core.List.{List, [], map}
use mathlib.Core.Logic.{inl, inr}
use Prim.Native.Nat.{ℕ, zero-le}
use lib.Bits.{bit_and, and_zero_l}
use lib.Dec.{ltb}
use borrow.Author.Tests.{le-ltb, ltb-true, ltb-false}
use Rattle.scalars.specs.Domain.{scalar_count}
use Rattle.scalars.specs.Mask.{choose, filter, every, bits}
use Rattle.types.specs.Domain.{is_abstract, known?, constructor_count}
use Rattle.rules.specs.Signature.{fits_by, fits}
use Rattle.types.specs.Constructor.{singleton_of_code}
use Rattle.rules.specs.Rule.{passes}
use Rattle.regular.specs.Regular.{pairs, codes_of, signature_for, regular_rules, empty_regular, narrowed, concrete_set, concluded_of, concluded?, all_conclude, regular_arg, regular_concrete}
use Rattle.regular.specs.private.Tested.{Known}
use Rattle.rules.specs.Verdict.{on_verdict}
use Rattle.scalars.specs.Paper.{Paper, accepted, refusal}
use Rattle.regular.specs.SetPaper.{regular_values, no_set}
use Rattle.regular.specs.declared.regular.ConclusionRule.{ConclusionRule}
use Rattle.regular.specs.declared.regular.Regular.{Regular}
use Rattle.rules.specs.declared.rule.Part.{Part}
use Rattle.rules.specs.declared.rule.Part.TheVariants.{Shape, Number}
use Rattle.rules.specs.declared.rule.Keep.{Keep}
use Rattle.rules.specs.declared.rule.Keep.TheVariants.{Argument, Concrete}
use Rattle.scalars.proofs.Bits.{bits_none}
use Rattle.scalars.proofs.Filters.{every-filter}
use Rattle.theorems.specs.Steps.{step_regular, single_regular, Lasting}
use Rattle.regular.proofs.Regulars.{known-accepted}
use Rattle.regular.proofs.RegularCodes.{narrowed-codes, concrete-codes}
use Rattle.regular.proofs.RegularSteps.{narrowed-rules, past-rules, concrete-rules, narrowed-known, concrete-known, empty-known}

no_rules_lem : (r : Regular) → r.constructors.0 ≡ 0 → regular_rules r ≡ []
unfolding regular_rules codes_of
no_rules_lem r z =
    ap (λ (m : ℕ). map (signature_for r) (pairs (bits constructor_count m) (bits scalar_count r.scalars.0))) z
    ∙ ap (λ (ks : List ℕ). map (signature_for r) (pairs ks (bits scalar_count r.scalars.0))) (bits_none constructor_count)

still_none : (k : Keep) (r : Regular) → r.constructors.0 ≡ 0 → (step_regular k r).constructors.0 ≡ 0
unfolding step_regular narrowed concrete_set
still_none Concrete r z = z
still_none (Argument part i t) r z = go part (ltb i r.arity)
  where
    go : (w : Part) (b : Bool) → (choose b (narrowed w t r) empty_regular).constructors.0 ≡ 0
    go Shape true = ap (λ (m : ℕ). bit_and m (singleton_of_code t)) z ∙ and_zero_l (singleton_of_code t)
    go Number true = z
    go w false = refl

-- an argument's step, by either part and at any index, of any set
pub argument-rules : (part : Part) (i t : ℕ) (r : Regular) → regular_rules (step_regular (Argument part i t) r) ≡ filter (fits part i t) (regular_rules r)
unfolding step_regular
argument-rules part i t r = go (ltb i r.arity) refl
  where
    go : (b : Bool) → ltb i r.arity ≡ b → regular_rules (choose b (narrowed part t r) empty_regular) ≡ filter (fits part i t) (regular_rules r)
    go true e = narrowed-rules part i t r (ltb-true _ _ e)
    go false e = past-rules part i t r (ltb-false _ _ e)

-- either kind of step
pub step-rules : (k : Keep) (r : Regular) → Lasting r → regular_rules (step_regular k r) ≡ filter (passes k) (regular_rules r)
unfolding step_regular
step-rules k r (inr z) = no_rules_lem (step_regular k r) (still_none k r z) ∙ sym (ap (filter (passes k)) (no_rules_lem r z))
step-rules Concrete r (inl h) = concrete-rules r h
step-rules (Argument part i t) r (inl h) = argument-rules part i t r

-- the steps by the two parts of an operand, in either order, are the single one
module _ (i t : ℕ) (r : Regular) where
  pub regular-shape_first : step_regular (Argument Number i t) (step_regular (Argument Shape i t) r) ≡ single_regular i t r
  unfolding step_regular single_regular narrowed
  regular-shape_first = go (ltb i r.arity) refl
    where
      go : (b : Bool) → ltb i r.arity ≡ b → step_regular (Argument Number i t) (choose b (narrowed Shape t r) empty_regular)
          ≡ choose b (narrowed Number t (narrowed Shape t r)) empty_regular
      go true e = rw e
      go false e = rw (le-ltb i 0 zero-le)

  pub regular-number_first : step_regular (Argument Shape i t) (step_regular (Argument Number i t) r) ≡ single_regular i t r
  unfolding step_regular single_regular narrowed
  regular-number_first = go (ltb i r.arity) refl
    where
      go : (b : Bool) → ltb i r.arity ≡ b → step_regular (Argument Shape i t) (choose b (narrowed Number t r) empty_regular)
          ≡ choose b (narrowed Shape t (narrowed Number t r)) empty_regular
      go true e = rw e
      go false e = rw (le-ltb i 0 zero-le)

pub step-lasting : (k : Keep) (r : Regular) → Lasting r → Lasting (step_regular k r)
unfolding step_regular narrowed concrete_set
step-lasting k r (inr z) = inr (still_none k r z)
step-lasting Concrete r (inl h) = inl h
step-lasting (Argument part i t) r (inl h) = go part (ltb i r.arity)
  where
    go : (w : Part) (b : Bool) → Lasting (choose b (narrowed w t r) empty_regular)
    go Shape true = inl h
    go Number true = inl h
    go w false = inr refl

-- ---- bounds and conclusions last

pub step-known : (k : Keep) (r : Regular) → Known r → Known (step_regular k r)
unfolding step_regular
step-known Concrete r known = concrete-known r known
step-known (Argument part i t) r known = go (ltb i r.arity)
  where
    go : (b : Bool) → Known (choose b (narrowed part t r) empty_regular)
    go true = narrowed-known part t r known
    go false = empty-known

no_codes_lem : codes_of empty_regular ≡ []
unfolding codes_of bits
no_codes_lem = refl

-- of fewer types, each still has its conclusion
fewer_conclude : (c : ConclusionRule) (p : ℕ → Bool) (ts us : List ℕ) → us ≡ filter p ts
    → every (λ t. concluded? (concluded_of c t)) ts ≡ true → every (λ t. concluded? (concluded_of c t)) us ≡ true
fewer_conclude c p ts us e h = ap (every (λ t. concluded? (concluded_of c t))) e ∙ every-filter (λ t. concluded? (concluded_of c t)) p ts h

pub step-concludes : (k : Keep) (r : Regular) → all_conclude r ≡ true → all_conclude (step_regular k r) ≡ true
unfolding step_regular all_conclude narrowed concrete_set
step-concludes Concrete r e = fewer_conclude r.conclude (λ a. not (is_abstract a)) (codes_of r) (codes_of (concrete_set r)) (concrete-codes r) e
step-concludes (Argument part i t) r e = go part (ltb i r.arity)
  where
    go : (w : Part) (b : Bool) → all_conclude (choose b (narrowed w t r) empty_regular) ≡ true
    go Shape true = fewer_conclude r.conclude (fits_by Shape t) (codes_of r) (codes_of (narrowed Shape t r)) (narrowed-codes Shape t r) e
    go Number true = fewer_conclude r.conclude (fits_by Number t) (codes_of r) (codes_of (narrowed Number t r)) (narrowed-codes Number t r) e
    go w false = ap (every (λ t. concluded? (concluded_of empty_regular.conclude t))) no_codes_lem

-- ---- the answer is the set that the step leaves; to a number that is no type, refusal 7

abbrev pub known_step : Keep → Bool
known_step (Argument part i t) = known? t
known_step Concrete = true

abbrev pub ask_regular : Keep → Regular → Paper
ask_regular (Argument part i t) r = regular_arg part i t r
ask_regular Concrete r = regular_concrete r

pub asked-regular : (k : Keep) (r : Regular) → Known r → ask_regular k r ≡ choose (known_step k) (accepted (regular_values (step_regular k r))) (refusal 7 0 no_set)
unfolding step_regular regular_arg regular_concrete
asked-regular Concrete r known = ap (λ (v : Paper). on_verdict v (accepted (regular_values (concrete_set r))) no_set) (known-accepted r known)
asked-regular (Argument part i t) r known =
    ap (λ (v : Paper). choose (known? t) (on_verdict v (accepted (regular_values (choose (ltb i r.arity) (narrowed part t r) empty_regular))) no_set) (refusal 7 0 no_set))
    (known-accepted r known)
