-- A step by shape leaves at most one constructor, and no later step brings one back: from then on the preferred rule of a Regular set is
-- the first of its listing. A List's preferred rule always is. Assumes nothing.
use mathlib.Core.Path.{◌≡◌, refl, ap, ap₂, ◌∙◌, subst⁻¹}
use mathlib.Core.Bool.{Bool, true, false}
use mathlib.Core.List.{List, [], ◌∷◌, map}
use Prim.Native.Nat.{ℕ, zero, suc, ◌+◌, ◌*◌, ◌/◌, ◌≤◌, ◌<◌, zero-le, suc-le-suc}
use native.Mathlib.Omega.{arith}
use lib.Dec.{eqb, ltb}
use lib.ListN.{length}
use borrow.Author.Tests.{eqb-true, ne_eqb}
use Rattle.scalars.specs.Domain.{scalar_count}
use Rattle.scalars.specs.Mask.{choose, both, cons_if, odd, filter, every, select, count_from, bits}
use Rattle.types.specs.Domain.{value?, constructor_part, constructor_count}
use Rattle.rules.specs.Signature.{Signature}
use Rattle.lists.specs.Entry.{Entry}
use Rattle.rules.specs.Rule.{rule_of}
use Rattle.rules.specs.Verdict.{on_verdict}
use Rattle.lists.specs.List.{listing, entries, preferred_of, verdict_of, list_preferred}
use Rattle.regular.specs.Regular.{pairs, codes_of, signature_for, regular_rules, empty_regular, narrowed, concrete_set, concluded_of, concluded?, rule_from, rule_for, all_conclude, preferred_among, regular_preferred}
use Rattle.regular.specs.private.Tested.{Known}
use Rattle.scalars.specs.Paper.{Paper, accepted, refusal}
use Rattle.rules.specs.RulePaper.{rule_values, no_rule}
use Rattle.lists.specs.ChosenPaper.{no_choice}
use Rattle.lists.specs.declared.list.List as declared
use Rattle.regular.specs.declared.regular.Regular.{Regular}
use Rattle.rules.specs.declared.rule.Part.TheVariants.{Shape, Number}
use Rattle.rules.specs.declared.rule.Keep.{Keep}
use Rattle.rules.specs.declared.rule.Keep.TheVariants.{Argument, Concrete}
use Rattle.scalars.proofs.Bits.{bits_none}
use Rattle.scalars.proofs.Filters.{both_left, filter_none}
use Rattle.theorems.proofs.ListSteps.{entries-rules}
use Rattle.theorems.specs.Steps.{step_regular}
use Rattle.regular.proofs.RegularCodes.{shapes, narrowed-constructors}
use Rattle.regular.proofs.Regulars.{known-accepted}

-- ---- at most one constructor

-- among different numbers at most one is k: none past it
past_one : (k i n m : ℕ) → k < i → filter (eqb k) (select (count_from i n) m) ≡ []
past_one k i zero m h = refl
past_one k i (suc n) m h = go (odd m) (past_one k (suc i) n (m / 2) (omega arith))
  where
    go : (b : Bool) → filter (eqb k) (select (count_from (suc i) n) (m / 2)) ≡ [] → filter (eqb k) (cons_if b i (select (count_from (suc i) n) (m / 2))) ≡ []
    go true ih = ap₂ (λ (b : Bool) (ys : List ℕ). cons_if b i ys) (ne_eqb k i (λ e. omega arith)) ih
    go false ih = ih

at_most_one : (k i n m : ℕ) → length (filter (eqb k) (select (count_from i n) m)) ≤ 1
at_most_one k i zero m = zero-le
at_most_one k i (suc n) m = go (odd m) (at_most_one k (suc i) n (m / 2))
  where
    rest : List ℕ
    rest = select (count_from (suc i) n) (m / 2)

    here : (b : Bool) → eqb k i ≡ b → length (filter (eqb k) rest) ≤ 1 → length (cons_if b i (filter (eqb k) rest)) ≤ 1
    here true e ih =
        let h : k ≡ i = eqb-true k i e in
        subst⁻¹ (λ (ys : List ℕ). suc (length ys) ≤ 1) (past_one k (suc i) n (m / 2) (omega arith)) (suc-le-suc zero-le)
    here false e ih = ih

    go : (b : Bool) → length (filter (eqb k) rest) ≤ 1 → length (filter (eqb k) (cons_if b i rest)) ≤ 1
    go true ih = here (eqb k i) refl ih
    go false ih = ih

abbrev pub OneShape : Regular → Type 0
OneShape r = length (bits constructor_count r.constructors.0) ≤ 1

shapes-one : (t m : ℕ) → length (filter (shapes Shape t) (bits constructor_count m)) ≤ 1
unfolding bits
shapes-one t m = go (value? t)
  where
    go : (b : Bool) → length (filter (λ k. both b (eqb (constructor_part t) k)) (bits constructor_count m)) ≤ 1
    go true = at_most_one (constructor_part t) 0 constructor_count m
    go false = subst⁻¹ (λ (ks : List ℕ). length ks ≤ 1) (filter_none (λ k. false) (λ k. refl) (bits constructor_count m)) zero-le

none-one : OneShape empty_regular
none-one = subst⁻¹ (λ (ks : List ℕ). length ks ≤ 1) (bits_none constructor_count) zero-le

-- after a step by shape
pub shape_one : (i t : ℕ) (r : Regular) → OneShape (step_regular (Argument Shape i t) r)
unfolding step_regular
shape_one i t r = go (ltb i r.arity)
  where
    go : (b : Bool) → OneShape (choose b (narrowed Shape t r) empty_regular)
    go true = subst⁻¹ (λ (ks : List ℕ). length ks ≤ 1) (narrowed-constructors Shape t r) (shapes-one t r.constructors.0)
    go false = none-one

-- and after any later step
pub step-one : (k : Keep) (r : Regular) → OneShape r → OneShape (step_regular k r)
unfolding step_regular narrowed concrete_set
step-one (Argument Shape i t) r h = shape_one i t r
step-one (Argument Number i t) r h = go (ltb i r.arity)
  where
    go : (b : Bool) → OneShape (choose b (narrowed Number t r) empty_regular)
    go true = h
    go false = none-one
step-one Concrete r h = h

-- ---- the preferred rule is the first of the listing

-- of one constructor
among_first : (r : Regular) (ks ss : List ℕ) → length ks ≤ 1 → every (λ t. concluded? (concluded_of r.conclude t)) (pairs ks ss) ≡ true
    → (s : Signature) (rest : List Signature) → map (signature_for r) (pairs ks ss) ≡ s ∷ rest → preferred_among r ks ss ≡ accepted (rule_values (rule_of s))
unfolding rule_for
among_first r [] ss h c s rest e = let z : ◌≡◌ {A = ℕ} 0 1 = cc in absurd (omega arith)
among_first r (k ∷ []) [] h c s rest e = let z : ◌≡◌ {A = ℕ} 0 1 = cc in absurd (omega arith)
among_first r (k ∷ l ∷ ks) ss h c s rest e = absurd (omega arith)
among_first r (k ∷ []) (x ∷ ss) h c s rest e =
    go (concluded_of r.conclude t) refl (both_left (concluded? (concluded_of r.conclude t)) _ c) ∙ ap (λ (y : Signature). accepted (rule_values (rule_of y))) first
  where
    t : ℕ
    t = k * scalar_count + x

    first : signature_for r t ≡ s
    first = cc

    go : (a : Paper) → concluded_of r.conclude t ≡ a → concluded? a ≡ true → rule_from r.arity t a ≡ accepted (rule_values (rule_of (signature_for r t)))
    go (accepted vs) q o = rw q
    go (refusal n p vs) q o = let z : ◌≡◌ {A = ℕ} 0 1 = cc in absurd (omega arith)

pub regular-first : (r : Regular) → Known r → all_conclude r ≡ true → OneShape r
    → (s : Signature) (rest : List Signature) → regular_rules r ≡ s ∷ rest → regular_preferred r ≡ accepted (rule_values (rule_of s))
unfolding regular_preferred all_conclude codes_of regular_rules
regular-first r known c one s rest e =
    ap (λ (v : Paper). on_verdict v (preferred_among r (bits constructor_count r.constructors.0) (bits scalar_count r.scalars.0)) no_rule) (known-accepted r known)
    ∙ among_first r (bits constructor_count r.constructors.0) (bits scalar_count r.scalars.0) one c s rest e

-- of a List, with some index
pub list-first : (l : declared.List) → verdict_of l ≡ accepted [] → (s : Signature) (rest : List Signature) → listing l ≡ s ∷ rest
    → (i : ℕ) × (list_preferred l ≡ accepted (i ∷ rule_values (rule_of s)))
unfolding list_preferred
list-first l ok s rest e = go (entries l) refl (entries-rules l ∙ e)
  where
    go : (xs : List Entry) → entries l ≡ xs → map (λ (x : Entry). x.rule) xs ≡ s ∷ rest
        → (i : ℕ) × (on_verdict (verdict_of l) (preferred_of (entries l)) no_choice ≡ accepted (i ∷ rule_values (rule_of s)))
    go [] q f = let z : ◌≡◌ {A = ℕ} 0 1 = cc in absurd (omega arith)
    go (x ∷ xs) q f =
        let h : x.rule ≡ s = cc in
        (x.index, simp (ok, q, h))
