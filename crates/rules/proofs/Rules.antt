-- A rule's record and its meaning: its arguments by index, a test of each of them, and the two tests of an argument step.
-- Assumes nothing.
use mathlib.Core.Path.{◌≡◌, refl, sym, ap, ◌∙◌}
use mathlib.Core.Bool.{Bool, true, false, not}
use mathlib.Core.List.{List, [], ◌∷◌}
use Prim.Native.Nat.{ℕ, zero, suc, ◌/◌, ◌%◌, ◌≤◌, ◌<◌, min}
use native.Mathlib.Omega.{arith}
use lib.Dec.{eqb, leb, lit≤}
use lib.ListN.{length, take, get_or, length-take, get_or-eq_default}
use lib.Seq.{get_or-take}
use borrow.Author.Tests.{le-leb, lt-leb, leb-true, leb-false, ltb-true, ne_eqb}
use Rattle.std.specs.Prelude.{Result, Ok, Option, Some}
use Rattle.scalars.specs.Paper.{unused}
use Rattle.scalars.specs.declared.refusal.Refusal.{Refusal}
use Rattle.scalars.specs.declared.scalar_set.Scalar.{Scalar}
use Rattle.types.specs.TypeCode.{leaf_scalar}
use Rattle.types.specs.TypePaper.{leaf_paper}
use Rattle.types.proofs.TypeCodes.{leaf-some}
use Rattle.scalars.specs.Mask.{choose, both, either, every}
use Rattle.scalars.specs.Domain.{converts, scalar_count}
use Rattle.types.specs.Domain.{value?, known?, constructor_part, scalar_part, is_abstract, other_type}
use Rattle.rules.specs.Signature.{Signature, same_shape, same_number, reaches, fits_by, argument_passes, fits, takes, concrete}
use Rattle.rules.proofs.Records.{all_concrete}
use Rattle.rules.specs.Rule.{arguments_of, signature_of, rule_of, known_rule}
use Rattle.rules.specs.declared.rule.Rule.{Rule}
use Rattle.rules.specs.declared.rule.Part.{Part}
use Rattle.rules.specs.declared.rule.Part.TheVariants.{Shape, Number}

-- what the scalar of a type says of the type
pub scalar-some : (t : ℕ) {r : Result (Option Scalar) Refusal} {x : Option Scalar} {s : Scalar} → leaf_paper r ≡ leaf_scalar t → r ≡ Ok x → x ≡ Some s → (t < other_type) × (t % scalar_count ≡ s.0)
scalar-some t e f g = leaf-some t (sym e ∙ ap leaf_paper f ∙ ap (λ (x : Option Scalar). leaf_paper (Ok x)) g)

module _ {A : Type 0} where
  -- an entry of the first n of a list
  pub taken_at : (n : ℕ) (xs : List A) (i : ℕ) (d : A) → get_or (take n xs) i d ≡ choose (leb n i) d (get_or xs i d)
  taken_at n xs i d = go (leb n i) refl
    where
      go : (b : Bool) → leb n i ≡ b → get_or (take n xs) i d ≡ choose b d (get_or xs i d)
      go true e = get_or-eq_default (take n xs) d (omega (arith, length-take n xs, leb-true n i e))
      go false e = get_or-take n xs i d (leb-false n i e)

-- a test of each of the first n of four
module _ (p : ℕ → Bool) (a b c d : ℕ) where
  each_of_four : (n : ℕ) → every p (take n (a ∷ b ∷ c ∷ d ∷ []))
      ≡ both (either (leb n 0) (p a)) (both (either (leb n 1) (p b)) (both (either (leb n 2) (p c)) (either (leb n 3) (p d))))
  each_of_four zero = refl
  each_of_four (suc zero) = refl
  each_of_four (suc (suc zero)) = refl
  each_of_four (suc (suc (suc zero))) = refl
  each_of_four (suc (suc (suc (suc m)))) =
      let n = suc (suc (suc (suc m))) in
      simp (nothing m, last (p d), lt-leb n 0 (omega arith), lt-leb n 1 (omega arith), lt-leb n 2 (omega arith), lt-leb n 3 (omega arith))
    where
      nothing : (m : ℕ) → every p (take m []) ≡ true
      nothing zero = refl
      nothing (suc m) = refl

      last : (b : Bool) → both b true ≡ b
      last true = refl
      last false = refl

-- no abstract one among the first n of four
each-concrete : (n a b c d : ℕ) → all_concrete (take n (a ∷ b ∷ c ∷ d ∷ []))
    ≡ both (not (both (not (leb n 0)) (is_abstract a))) (both (not (both (not (leb n 1)) (is_abstract b)))
    (both (not (both (not (leb n 2)) (is_abstract c))) (not (both (not (leb n 3)) (is_abstract d)))))
each-concrete n a b c d =
    each_of_four (λ x. not (is_abstract x)) a b c d n
    ∙ simp (turn (leb n 0) (is_abstract a), turn (leb n 1) (is_abstract b), turn (leb n 2) (is_abstract c), turn (leb n 3) (is_abstract d))
  where
    turn : (x y : Bool) → either x (not y) ≡ not (both (not x) y)
    turn true y = refl
    turn false y = refl

-- no operand fits the mark of an argument that is not there
fits-none : (part : Part) (t : ℕ) → fits_by part t unused ≡ false
fits-none Shape t = go (value? t) refl
  where
    go : (b : Bool) → value? t ≡ b → both b (eqb (constructor_part t) 21) ≡ false
    go true e = let l : t < other_type = ltb-true _ _ e in ne_eqb (t / scalar_count) 21 (λ z. absurd (omega arith))
    go false e = refl
fits-none Number t = go (value? t)
  where
    go : (b : Bool) → both (both b false) (converts (scalar_part t) 3) ≡ false
    go true = refl
    go false = refl

-- a test of the argument at an index, by what is read there
passes_at : (p : ℕ → Bool) → p unused ≡ false → (i : ℕ) (az : List ℕ) → argument_passes p i az ≡ p (get_or az i unused)
passes_at p none i [] = sym none
passes_at p none zero (a ∷ az) = refl
passes_at p none (suc i) (a ∷ az) = passes_at p none i az

-- the two steps' tests together are document 01's single one
both_pass : (p q : ℕ → Bool) (i : ℕ) (az : List ℕ) → argument_passes (λ a. both (p a) (q a)) i az ≡ both (argument_passes p i az) (argument_passes q i az)
both_pass p q i [] = refl
both_pass p q zero (a ∷ az) = refl
both_pass p q (suc i) (a ∷ az) = both_pass p q i az

pub takes-both : (i t : ℕ) (s : Signature) → takes i t s ≡ both (fits Shape i t s) (fits Number i t s)
unfolding reaches
takes-both i t s = both_pass (same_shape t) (same_number t) i s.arguments

-- the same of a rule's record
module _ (r : Rule) where
  pub argument-at : (i : ℕ) → get_or (arguments_of r) i unused ≡ choose (leb r.count i) unused (get_or (r.a0 ∷ r.a1 ∷ r.a2 ∷ r.a3 ∷ []) i unused)
  unfolding arguments_of
  argument-at i = taken_at r.count (r.a0 ∷ r.a1 ∷ r.a2 ∷ r.a3 ∷ []) i unused

  pub argument-here : (i k : ℕ) → i ≡ k → i < r.count → get_or (arguments_of r) i unused ≡ get_or (r.a0 ∷ r.a1 ∷ r.a2 ∷ r.a3 ∷ []) k unused
  argument-here i k e h =
      argument-at i ∙ ap (λ (b : Bool). choose b unused (get_or (r.a0 ∷ r.a1 ∷ r.a2 ∷ r.a3 ∷ []) i unused)) (lt-leb r.count i h)
      ∙ ap (λ (j : ℕ). get_or (r.a0 ∷ r.a1 ∷ r.a2 ∷ r.a3 ∷ []) j unused) e

  pub argument-past : (i : ℕ) → r.count ≤ i → get_or (arguments_of r) i unused ≡ unused
  argument-past i h = argument-at i ∙ ap (λ (b : Bool). choose b unused (get_or (r.a0 ∷ r.a1 ∷ r.a2 ∷ r.a3 ∷ []) i unused)) (le-leb r.count i h)

  pub argument_fifth : (i : ℕ) → i < r.count → 3 < i → get_or (arguments_of r) i unused ≡ unused
  argument_fifth i h l = argument-here i i refl h ∙ get_or-eq_default (r.a0 ∷ r.a1 ∷ r.a2 ∷ r.a3 ∷ []) unused {n = i} l

  pub known-four : known_rule r
      ≡ both (both (either (leb r.count 0) (value? r.a0)) (both (either (leb r.count 1) (value? r.a1))
      (both (either (leb r.count 2) (value? r.a2)) (either (leb r.count 3) (value? r.a3))))) (known? r.result)
  unfolding known_rule arguments_of
  known-four = ap (λ (b : Bool). both b (known? r.result)) (each_of_four value? r.a0 r.a1 r.a2 r.a3 r.count)

  pub concrete-four : concrete (signature_of r)
      ≡ both (not (both (not (leb r.count 0)) (is_abstract r.a0))) (both (not (both (not (leb r.count 1)) (is_abstract r.a1)))
      (both (not (both (not (leb r.count 2)) (is_abstract r.a2))) (not (both (not (leb r.count 3)) (is_abstract r.a3)))))
  unfolding arguments_of
  concrete-four = each-concrete r.count r.a0 r.a1 r.a2 r.a3

  pub fits-argument : (part : Part) (i t : ℕ) → fits part i t (signature_of r) ≡ fits_by part t (get_or (arguments_of r) i unused)
  fits-argument part i t = passes_at (fits_by part t) (fits-none part t) i (arguments_of r)

  pub count_of : length (arguments_of r) ≡ min r.count 4
  unfolding arguments_of
  count_of = length-take r.count (r.a0 ∷ r.a1 ∷ r.a2 ∷ r.a3 ∷ [])

  -- an argument, by the number of those that four fields hold
  pub argument-held : (i : ℕ) → i < 4 → get_or (arguments_of r) i unused ≡ choose (leb (min r.count 4) i) unused (get_or (r.a0 ∷ r.a1 ∷ r.a2 ∷ r.a3 ∷ []) i unused)
  argument-held i h = argument-at i ∙ ap (λ (b : Bool). choose b unused (get_or (r.a0 ∷ r.a1 ∷ r.a2 ∷ r.a3 ∷ []) i unused)) (go (leb r.count i) refl)
    where
      go : (b : Bool) → leb r.count i ≡ b → b ≡ leb (min r.count 4) i
      go true e = sym (le-leb (min r.count 4) i (omega (arith, leb-true r.count i e)))
      go false e = sym (lt-leb (min r.count 4) i (omega (arith, leb-false r.count i e)))

  -- the record with each field in use, or `unused`
  pub cleaned : rule_of (signature_of r) ≡ record {
    a0 = choose (leb (min r.count 4) 0) unused r.a0;
    a1 = choose (leb (min r.count 4) 1) unused r.a1;
    a2 = choose (leb (min r.count 4) 2) unused r.a2;
    a3 = choose (leb (min r.count 4) 3) unused r.a3;
    count = min r.count 4;
    result = r.result;
  }
  unfolding rule_of
  cleaned = simp (argument-held 0 (lit≤ tt), argument-held 1 (lit≤ tt), argument-held 2 (lit≤ tt), argument-held 3 (lit≤ tt), count_of)

-- what the check may use of a record
pub ruleset of_records = (argument-here, argument-past, argument_fifth, known-four, concrete-four, fits-argument, count_of, cleaned)
