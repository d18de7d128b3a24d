-- The paper's numbers determine what a call comes to: two outcomes with the same number, place and values are equal; and an outcome with
-- the paper of a choice is that choice. A refusal by the reason alone is that of a call by itself. Assumes nothing.
use mathlib.Core.Path.{◌≡◌, refl, sym, ap, ap₂, ◌∙◌}
use mathlib.Core.Bool.{Bool, true, false}
use mathlib.Core.List.{List, [], ◌∷◌}
use Prim.Native.Nat.{ℕ, ◌+◌, ◌-◌, ◌%◌, ◌^◌, ◌<◌}
use native.Mathlib.Omega.{arith}
use lib.Dec.{eqb, ltb}
use lib.ListN.{length, get_or, drop}
use Rattle.std.specs.Prelude.{Result, Ok, Err}
use Rattle.scalars.specs.Mask.{choose, either}
use Rattle.scalars.specs.Paper.{Paper, accepted, refusal, refused, refusal_paper, number, place, values}
use Rattle.scalars.specs.declared.refusal.Refusal.{Refusal}
use Rattle.scalars.proofs.Papers.{one-to-one}
use Rattle.rules.specs.Signature.{Signature}
use Rattle.rules.specs.Rule.{rule_of}
use Rattle.rules.specs.Verdict.{longest}
use Rattle.rules.specs.declared.rule.Part.{Part}
use Rattle.rules.specs.declared.rule.Part.TheVariants.{Shape, Number}
use Rattle.rules.proofs.RulePapers.{rule_named}
use Rattle.lists.specs.Entry.{Entry, number as numbered}
use Rattle.lists.specs.ChosenPaper.{no_choice}
use Rattle.lists.specs.declared.list.Chosen.{Chosen}
use Rattle.calls.specs.Choice.{Narrowed, left, emptied, narrow, none_left, Choice, chosen, wrong_count, none_after, none_concrete, first, concrete_step, after_operands, resolve}
use Rattle.calls.specs.Call.{answered, with_mark}
use Rattle.calls.specs.OutcomePaper.{refused_by, refusal_for, outcome_paper}
use Rattle.calls.specs.declared.outcome.NoRule.{NoRule}
use Rattle.calls.specs.declared.outcome.NoRule.TheVariants.{WrongCount, NoneAfter, NoneConcrete}
use Rattle.calls.proofs.Narrowing.{Narrows, narrow_narrows}

-- ---- one outcome

abbrev outcome_in : Paper → Result Chosen NoRule
outcome_in (accepted vs) = Ok (record { index = get_or vs 0 0; rule = rule_named (drop 1 vs) })
outcome_in (refusal n p vs) =
    Err (choose (eqb n 5) WrongCount (choose (eqb n 6) (NoneAfter Shape (p - 1)) (choose (eqb n 16) (NoneAfter Number (p - 1)) NoneConcrete)))

outcome-back : (a : Result Chosen NoRule) → outcome_in (outcome_paper a) ≡ a
outcome-back (Ok c) = refl
outcome-back (Err WrongCount) = refl
outcome-back (Err (NoneAfter Shape k)) = let z : 1 + k - 1 ≡ k = omega arith in ap (λ (j : ℕ). Err (NoneAfter Shape j)) z
outcome-back (Err (NoneAfter Number k)) = let z : 1 + k - 1 ≡ k = omega arith in ap (λ (j : ℕ). Err (NoneAfter Number j)) z
outcome-back (Err NoneConcrete) = refl

pub outcome-one : (a b : Result Chosen NoRule) → outcome_paper a ≡ outcome_paper b → a ≡ b
outcome-one = one-to-one outcome_paper outcome_in outcome-back

-- ---- the refusal of a call by itself

-- the place behind the operand is a number that a machine word holds
abbrev pub Placed : NoRule → Type 0
Placed WrongCount = Unit
Placed (NoneAfter part k) = 1 + k < 2 ^ 64
Placed NoneConcrete = Unit

-- with values beside it
pub refused_with : (why : NoRule) (answer : Refusal) (vs : List ℕ) → Placed why → refusal_paper answer ≡ refusal_for why
    → refused answer vs ≡ refused_by why vs
refused_with WrongCount answer vs h e = ap (λ (q : Paper). refusal (number q) (place q) vs) e
refused_with (NoneAfter part k) answer vs h e =
    let held : (k + 1) % 2 ^ 64 ≡ 1 + k = omega arith in
    ap (λ (q : Paper). refusal (number q) (place q) vs) e ∙ ap (λ (n : ℕ). refusal (none_left part) n vs) held
refused_with NoneConcrete answer vs h e = ap (λ (q : Paper). refusal (number q) (place q) vs) e

-- and no mark
pub refused_marked : (measured : Bool) (why : NoRule) → refused_by why no_choice ≡ with_mark measured (outcome_paper (Err why))
refused_marked measured WrongCount = refl
refused_marked measured (NoneAfter part k) = refl
refused_marked measured NoneConcrete = refl

-- ---- the choice that an outcome is

abbrev pub IsChoice : Result Chosen NoRule → Choice → Type 0
IsChoice (Ok x) c = (r : Signature) × (c ≡ chosen x.index r) × (rule_of r ≡ x.rule)
IsChoice (Err WrongCount) c = c ≡ wrong_count
IsChoice (Err (NoneAfter part k)) c = c ≡ none_after part k
IsChoice (Err NoneConcrete) c = c ≡ none_concrete

-- the number of a part is 6 or 16, and tells the part
pub not_at : {A : Type 0} (part : Part) (n : ℕ) → (n ≡ 6 → ⊥) → (n ≡ 16 → ⊥) → none_left part ≡ n → A
not_at Shape n shape number e = absurd (shape (sym e))
not_at Number n shape number e = absurd (number (sym e))

pub same-part : (a b : Part) → none_left a ≡ none_left b → a ≡ b
same-part Shape Shape e = refl
same-part Shape Number e = let z : ◌≡◌ {A = ℕ} 6 16 = e in absurd (omega arith)
same-part Number Shape e = let z : ◌≡◌ {A = ℕ} 16 6 = e in absurd (omega arith)
same-part Number Number e = refl

pub choice_of : (a : Result Chosen NoRule) (c : Choice) → outcome_paper a ≡ answered c → IsChoice a c
unfolding rule_of
choice_of (Ok x) (chosen i r) e =
    let index : i ≡ x.index = cc in
    (r, ap (λ (k : ℕ). chosen k r) index, sym (ap (λ (p : Paper). rule_named (drop 1 (values p))) e))
choice_of (Ok x) wrong_count e = let z : ◌≡◌ {A = ℕ} 0 1 = cc in absurd (omega arith)
choice_of (Ok x) (none_after part k) e = let z : ◌≡◌ {A = ℕ} 0 1 = cc in absurd (omega arith)
choice_of (Ok x) none_concrete e = let z : ◌≡◌ {A = ℕ} 0 1 = cc in absurd (omega arith)
choice_of (Err WrongCount) (chosen i r) e = let z : ◌≡◌ {A = ℕ} 0 1 = cc in absurd (omega arith)
choice_of (Err WrongCount) wrong_count e = refl
choice_of (Err WrongCount) (none_after part k) e = not_at part 5 (omega arith) (omega arith) cc
choice_of (Err WrongCount) none_concrete e = let z : ◌≡◌ {A = ℕ} 5 1 = cc in absurd (omega arith)
choice_of (Err (NoneAfter part j)) (chosen i r) e = let z : ◌≡◌ {A = ℕ} 0 1 = cc in absurd (omega arith)
choice_of (Err (NoneAfter part j)) wrong_count e = not_at part 5 (omega arith) (omega arith) cc
choice_of (Err (NoneAfter part j)) (none_after other k) e =
    let z : 1 + j ≡ 1 + k = cc in
    let y : k ≡ j = omega arith in
    ap₂ none_after (same-part other part cc) y
choice_of (Err (NoneAfter part j)) none_concrete e = not_at part 1 (omega arith) (omega arith) cc
choice_of (Err NoneConcrete) (chosen i r) e = let z : ◌≡◌ {A = ℕ} 0 1 = cc in absurd (omega arith)
choice_of (Err NoneConcrete) wrong_count e = let z : ◌≡◌ {A = ℕ} 1 5 = cc in absurd (omega arith)
choice_of (Err NoneConcrete) (none_after part k) e = not_at part 1 (omega arith) (omega arith) cc
choice_of (Err NoneConcrete) none_concrete e = refl

-- ---- an operand after which none is left is one of the operands

first-never : (s : List Entry) (part : Part) (k : ℕ) → first s ≡ none_after part k → ⊥
first-never [] part k e = let z : ◌≡◌ {A = ℕ} 0 1 = cc in omega arith
first-never (x ∷ xs) part k e = let z : ◌≡◌ {A = ℕ} 0 1 = cc in omega arith

module _ (switch : Bool) (rules : List Signature) (ts : List ℕ) where
  after-there : (y : Narrowed) (part : Part) (k : ℕ) → Narrows ts 0 (numbered 0 rules) y → after_operands switch y ≡ none_after part k → k < length ts
  after-there (left s) part k h e = absurd (first-never (concrete_step switch s) part k e)
  after-there (emptied other j) part k h e =
      let z : j ≡ k = cc in
      let m : j ≡ 0 + h.0 = h.1 in
      omega (arith, h.2)

  pub operand-there : (part : Part) (k : ℕ) → resolve switch rules ts ≡ none_after part k → k < length ts
  unfolding resolve
  operand-there part k e = go (either (ltb (length ts) (longest rules)) (ltb (longest rules) (length ts))) e
    where
      go : (b : Bool) → choose b wrong_count (after_operands switch (narrow ts 0 (numbered 0 rules))) ≡ none_after part k → k < length ts
      go true f = let z : ◌≡◌ {A = ℕ} 0 1 = cc in absurd (omega arith)
      go false f = after-there (narrow ts 0 (numbered 0 rules)) part k (narrow_narrows ts 0 (numbered 0 rules)) f

  pub outcome-placed : (why : NoRule) → outcome_paper (Err why) ≡ answered (resolve switch rules ts) → length ts < 2 ^ 64 → Placed why
  outcome-placed WrongCount e h = tt
  outcome-placed (NoneAfter part k) e h = omega (arith, operand-there part k (choice_of (Err (NoneAfter part k)) (resolve switch rules ts) e))
  outcome-placed NoneConcrete e h = tt
