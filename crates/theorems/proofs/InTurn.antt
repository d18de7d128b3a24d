-- Steps in turn, of any kind of set whose step filters its listing: after any steps the listing is the first one, filtered by each
-- step's test in turn. So steps are as specs/Steps.antt says, and the two steps of an operand leave the rules that take it.
-- Assumes nothing.
use mathlib.Core.Path.{◌≡◌, refl, sym, ap, ◌∙◌}
use mathlib.Core.List.{List, [], ◌∷◌, ◌++◌}
use Prim.Native.Nat.{ℕ}
use Rattle.scalars.specs.Mask.{both, filter}
use Rattle.rules.specs.Signature.{Signature, fits, takes}
use Rattle.rules.specs.Rule.{passes}
use Rattle.rules.specs.declared.rule.Part.{Part}
use Rattle.rules.specs.declared.rule.Part.TheVariants.{Shape, Number}
use Rattle.rules.specs.declared.rule.Keep.{Keep}
use Rattle.rules.specs.declared.rule.Keep.TheVariants.{Argument}
use Rattle.scalars.proofs.Filters.{filter_same, filter_both, filter_comm, filter-twice, filter-all}
use Rattle.rules.proofs.Rules.{takes-both}
use Rattle.theorems.specs.Steps.{Filters, Pairs}

-- steps one after the other
abbrev pub in_turn {ℓ} : {A : Type ℓ} → (Keep → A → A) → List Keep → A → A
in_turn step [] a = a
in_turn step (k ∷ ks) a = in_turn step ks (step k a)

-- some steps and then others
pub turns_append {ℓ} : {A : Type ℓ} (step : Keep → A → A) (ks js : List Keep) (a : A) → in_turn step (ks ++ js) a ≡ in_turn step js (in_turn step ks a)
turns_append step [] js a = refl
turns_append step (k ∷ ks) js a = turns_append step ks js (step k a)

-- what each step keeps, steps in turn keep
pub lasts : {S : Type 0} (P : S → Type 0) (step : Keep → S → S) → ((k : Keep) (s : S) → P s → P (step k s))
    → (ks : List Keep) (s : S) → P s → P (in_turn step ks s)
lasts P step keeps [] s h = h
lasts P step keeps (k ∷ ks) s h = lasts P step keeps ks (step k s) (keeps k s h)

-- `Good` is what a set must be for its step to filter
module _ {S : Type 0} (Good : S → Type 0) (listed : S → List Signature) (step : Keep → S → S)
    (keeps : (k : Keep) (s : S) → Good s → Good (step k s))
    (filtered : (k : Keep) (s : S) → Good s → listed (step k s) ≡ filter (passes k) (listed s)) where
  pub listed-after : (ks : List Keep) (s : S) → Good s → listed (in_turn step ks s) ≡ in_turn (λ k. filter (passes k)) ks (listed s)
  listed-after [] s h = refl
  listed-after (k ∷ ks) s h = listed-after ks (step k s) (keeps k s h) ∙ ap (in_turn (λ k. filter (passes k)) ks) (filtered k s h)

  two : (j k : Keep) (s : S) → Good s → listed (step j (step k s)) ≡ filter (passes j) (filter (passes k) (listed s))
  two j k s h = filtered j (step k s) (keeps k s h) ∙ ap (filter (passes j)) (filtered k s h)

  pub filters : Filters Good listed step
  filters = record {
    filtered = filtered;
    joined = λ j k s h. two j k s h ∙ filter_both (passes j) (passes k) (listed s);
    commute = λ j k s h. two j k s h ∙ filter_comm (passes j) (passes k) (listed s) ∙ sym (two k j s h);
    twice = λ k s h. two k k s h ∙ filter-twice (passes k) (listed s) ∙ sym (filtered k s h);
    unchanged = λ k s h e. filtered k s h ∙ filter-all (passes k) (listed s) e;
  }

-- the two steps of an operand, where a step by either part filters the listing and both leave the set of the single step
module _ {S : Type 0} (listed : S → List Signature) (step : Keep → S → S) (single : ℕ → ℕ → S → S)
    (filtered : (part : Part) (i t : ℕ) (s : S) → listed (step (Argument part i t) s) ≡ filter (fits part i t) (listed s))
    (shape_first : (i t : ℕ) (s : S) → step (Argument Number i t) (step (Argument Shape i t) s) ≡ single i t s)
    (number_first : (i t : ℕ) (s : S) → step (Argument Shape i t) (step (Argument Number i t) s) ≡ single i t s) where
  pub pairs : Pairs listed step single
  pairs = record {
    shape_first = shape_first;
    number_first = number_first;
    takes_it = λ i t s.
        ap listed (sym (shape_first i t s)) ∙ filtered Number i t (step (Argument Shape i t) s)
        ∙ ap (filter (fits Number i t)) (filtered Shape i t s) ∙ filter_both (fits Number i t) (fits Shape i t) (listed s)
        ∙ filter_same (λ (x : Signature). both (fits Shape i t x) (fits Number i t x)) (takes i t) (λ x. sym (takes-both i t x)) (listed s);
  }
