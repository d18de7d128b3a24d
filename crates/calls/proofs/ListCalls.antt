-- A call of a List, step by step: each operand takes members from its mask by its shape and by its number, and what is left of it gives
-- the choice and the survivors.
-- Assumes nothing.
use mathlib.Core.Path.{◌≡◌, refl, sym, ap, ◌∙◌, subst, subst⁻¹}
use mathlib.Core.Bool.{Bool, true, false}
use mathlib.Core.List as L
use mathlib.Core.List.{[], ◌∷◌}
use Prim.Native.Nat.{ℕ, ◌+◌, ◌^◌, ◌≤◌, ◌<◌, zero-le}
use native.Mathlib.Omega.{arith}
use lib.ListN.{length, get_or}
use Rattle.std.specs.Prelude.{Result, Ok, Err}
use Rattle.std.specs.Result.{result_unwrap_or}
use Rattle.scalars.specs.Mask.{select, sift, bits, head_or}
use Rattle.scalars.specs.Paper.{accepted, refusal, values, count_paper}
use Rattle.scalars.specs.declared.refusal.Refusal.{Refusal}
use Rattle.rules.specs.Rule.{blank_rule, passes}
use Rattle.rules.specs.RulePaper.{rule_values}
use Rattle.rules.specs.declared.rule.Rule.{Rule}
use Rattle.rules.specs.Signature.{Signature}
use Rattle.rules.specs.Verdict.{longest, count_of}
use Rattle.rules.specs.declared.rule.Part.{Part}
use Rattle.rules.specs.declared.rule.Part.TheVariants.{Shape, Number}
use Rattle.rules.specs.declared.rule.Keep.{Keep}
use Rattle.rules.specs.declared.rule.Keep.TheVariants.{Argument, Concrete}
use Rattle.lists.specs.Entry.{Entry, number, keep}
use Rattle.lists.specs.List.{accepted_list, signatures, listing, entries, clean_list, preferred_of}
use Rattle.lists.specs.private.Tested.{Valid}
use Rattle.lists.specs.ChosenPaper.{no_choice, list_paper}
use Rattle.lists.specs.declared.list.List.{List}
use Rattle.lists.specs.declared.walks.RuleSet.{RuleSet}
use Rattle.calls.specs.Choice.{Narrowed, left, emptied, narrow, first, concrete_step, after_operands, resolve}
use Rattle.calls.specs.Call.{answered, members_of, survivors_after, survivors_of}
use Rattle.calls.specs.private.CallSets.{Full}
use Rattle.calls.specs.OutcomePaper.{outcome_paper}
use Rattle.calls.proofs.OutcomePapers.{Placed}
use Rattle.calls.specs.private.Steps.{no_choice_by, choice_by, survivors_by, Bounded, Stepped}
use Rattle.calls.specs.declared.outcome.NoRule.{NoRule}
use Rattle.calls.specs.declared.outcome.NoRule.TheVariants.{WrongCount, NoneAfter, NoneConcrete}
use Rattle.scalars.proofs.Masks.{select-none, sift-lt}
use Rattle.lists.proofs.Lists.{valid-length, valid-within, valid-word, preferred-first}
use Rattle.lists.proofs.Entries.{select-keep}
use Rattle.lists.proofs.ChosenPapers.{list_values-one}
use Rattle.calls.proofs.Narrowing.{Some}
use Rattle.calls.proofs.Resolving.{next_part, next_at, to_come, step_out, step-on, narrow-end, count-wrong, count-right}
use Rattle.calls.proofs.ListResolving.{full-entries, full-listing, picks-some, picked_members}

-- ---- the count

-- the longest of a List's rules, all of them members, as `longest` answers it; 0 of none
none-counted : (rs : L.List Signature) {n p : ℕ} {vs : L.List ℕ} → count_of rs ≡ refusal n p vs → 0 ≡ longest rs
none-counted [] e = refl
none-counted (r ∷ rs) e = let z : ◌≡◌ {A = ℕ} 0 1 = cc in absurd (omega arith)

some-counted : (rs : L.List Signature) {n : ℕ} → count_of rs ≡ accepted (n ∷ []) → n ≡ longest rs
some-counted [] e = let z : ◌≡◌ {A = ℕ} 0 1 = cc in absurd (omega arith)
some-counted (r ∷ rs) e = cc

pub some-count : (rs : L.List Signature) → 0 < length rs → count_of rs ≡ accepted (longest rs ∷ [])
some-count [] h = absurd (omega arith)
some-count (r ∷ rs) h = refl

module _ (l : List) (full : Full l) where
  full-none : {n p : ℕ} {vs : L.List ℕ} → count_of (listing l) ≡ refusal n p vs → 0 ≡ longest (signatures l)
  full-none e = none-counted (signatures l) (ap count_of (sym (full-listing l full)) ∙ e)

  full-longest : {n : ℕ} → count_of (listing l) ≡ accepted (n ∷ []) → n ≡ longest (signatures l)
  full-longest e = some-counted (signatures l) (ap count_of (sym (full-listing l full)) ∙ e)

  -- as `longest` answers it, 0 where it refuses
  pub full-most : (a : Result ℕ Refusal) → count_paper a ≡ count_of (listing l) → result_unwrap_or a 0 ≡ longest (signatures l)
  full-most (Ok n) e = full-longest (sym e)
  full-most (Err why) e = full-none (sym e)

  pub full-count : 0 < length (signatures l) → count_of (listing l) ≡ accepted (longest (signatures l) ∷ [])
  full-count some = ap count_of (full-listing l full) ∙ some-count (signatures l) some

-- ---- the steps

-- the steps before the one by this part of the operand i are done: these rules are left, and the steps to come are the rest of all steps
abbrev pub Reached : List → L.List ℕ → ℕ → Part → ℕ → Type 0
Reached list ts m part i =
    (i ≤ length ts) × (m < 2 ^ length (signatures list))
    × (to_come part ts i (select (number 0 (signatures list)) m) ≡ narrow ts 0 (number 0 (signatures list)))

module _ (list : List) (full : Full list) (ts : L.List ℕ) (switch : Bool) where
  abbrev rules : L.List Signature
  rules = signatures list

  many : length rules ≡ list.len
  many = valid-length list full.valid

  -- another number of operands
  pub steps-wrong : (length ts ≡ longest rules → ⊥) → Stepped switch list ts (Err WrongCount)
  unfolding resolve survivors_of
  steps-wrong h = record { choice = sym (count-wrong rules ts _ _ h); survivors = sym (count-wrong rules ts _ _ h); bounded = tt }

  pub reached-start : Reached list ts list.members Shape 0
  unfolding entries
  reached-start = (zero-le, valid-within list full.valid, ap (narrow ts 0) (full-entries list full))

  module _ (counted : length ts ≡ longest rules) where
    -- what the operands leave decides
    steps-right : (s : Result RuleSet NoRule) (y : Narrowed) → y ≡ narrow ts 0 (number 0 rules) → choice_by rules s ≡ after_operands switch y
        → survivors_by s ≡ survivors_after switch y → Bounded list ts s → Stepped switch list ts s
    unfolding resolve survivors_of
    steps-right s y e c m b = record {
      choice = c ∙ ap (after_operands switch) e ∙ sym (count-right rules ts _ _ counted);
      survivors = m ∙ ap (survivors_after switch) e ∙ sym (count-right rules ts _ _ counted);
      bounded = b;
    }

    -- the rules that pass a test
    abbrev passing : ℕ → Keep → ℕ
    passing m k = sift (passes k) rules m

    passing-entries : (m : ℕ) (k : Keep) → select (number 0 rules) (passing m k) ≡ keep (passes k) (select (number 0 rules) m)
    passing-entries m k = select-keep (passes k) 0 rules m

    passing-within : (m : ℕ) (k : Keep) → passing m k < 2 ^ length rules
    passing-within m k = sift-lt (passes k) rules m refl

    module _ (part : Part) (m i : ℕ) (reached : Reached list ts m part i) (here : i < length ts) where
      abbrev asked : Keep
      asked = Argument part i (get_or ts i 0)

      -- the step leaves none
      reached_out : passing m asked ≡ 0 → Stepped switch list ts (Err (NoneAfter part i))
      reached_out e =
          let none = sym (passing-entries m asked) ∙ ap (select (number 0 rules)) e ∙ select-none (number 0 rules) in
          steps-right (Err (NoneAfter part i)) (emptied part i) (sym (step_out ts i here part (select (number 0 rules) m) none) ∙ reached.2) refl refl here

      -- it leaves some
      reached-on : (passing m asked ≡ 0 → ⊥) → Reached list ts (passing m asked) (next_part part) (next_at part i)
      reached-on e =
          let some = subst Some (passing-entries m asked) (picks-some rules (passing m asked) (passing-within m asked) e) in (
            there part,
            passing-within m asked,
            ap (to_come (next_part part) ts (next_at part i)) (passing-entries m asked)
                ∙ sym (step-on ts i here part (select (number 0 rules) m) some) ∙ reached.2,
          )
        where
          there : (w : Part) → next_at w i ≤ length ts
          there Shape = omega arith
          there Number = omega arith

    -- the two steps of an operand, by the masks that they leave
    module _ (m i : ℕ) (reached : Reached list ts m Shape i) (here : i < length ts) {shaped : ℕ}
        (by_shape : shaped ≡ passing m (Argument Shape i (get_or ts i 0))) where
      pub shape_out : shaped ≡ 0 → Stepped switch list ts (Err (NoneAfter Shape i))
      shape_out e = reached_out Shape m i reached here (sym by_shape ∙ e)

      module _ (some : shaped ≡ 0 → ⊥) {both : ℕ} (by_both : both ≡ passing shaped (Argument Number i (get_or ts i 0))) where
        half : Reached list ts shaped Number i
        half = subst (λ (n : ℕ). Reached list ts n Number i) (sym by_shape) (reached-on Shape m i reached here (λ e. some (by_shape ∙ e)))

        pub number_out : both ≡ 0 → Stepped switch list ts (Err (NoneAfter Number i))
        number_out e = reached_out Number shaped i half here (sym by_both ∙ e)

        pub number-on : (both ≡ 0 → ⊥) → Reached list ts both Shape (i + 1)
        number-on e =
            subst (λ (n : ℕ). Reached list ts n Shape (i + 1)) (sym by_both) (reached-on Number shaped i half here (λ z. e (by_both ∙ z)))

    module _ (m i : ℕ) (reached : Reached list ts m Shape i) where
      module _ (done : length ts ≤ i) (set : RuleSet) where
        -- what is left at the end, where the switch leaves these of it
        left_by : set.0 < 2 ^ length rules → select (number 0 rules) set.0 ≡ concrete_step switch (select (number 0 rules) m) → Stepped switch list ts (Ok set)
        left_by w e =
            steps-right (Ok set) (left (select (number 0 rules) m)) (sym (narrow-end ts i (select (number 0 rules) m) done) ∙ reached.2)
            (ap first e) (picked_members rules set.0 w ∙ ap members_of e) (subst (λ (n : ℕ). set.0 < 2 ^ n) many w)

        pub reached-end : set.0 ≡ m → switch ≡ false → Stepped switch list ts (Ok set)
        reached-end e off =
            left_by (subst⁻¹ (λ (n : ℕ). n < 2 ^ length rules) e reached.1)
            (ap (select (number 0 rules)) e ∙ ap (λ (b : Bool). concrete_step b (select (number 0 rules) m)) (sym off))

        pub reached-concrete : set.0 ≡ passing m Concrete → switch ≡ true → Stepped switch list ts (Ok set)
        reached-concrete e on =
            left_by (subst⁻¹ (λ (n : ℕ). n < 2 ^ length rules) e (passing-within m Concrete))
            (ap (select (number 0 rules)) e ∙ passing-entries m Concrete ∙ ap (λ (b : Bool). concrete_step b (select (number 0 rules) m)) (sym on))

-- ---- the first of what is left

preferred-answered : (s : L.List Entry) → preferred_of s ≡ answered (first s)
preferred-answered [] = refl
preferred-answered (x ∷ xs) = refl

module _ (l : List) (set : RuleSet) (valid : Valid l) (within : set.0 < 2 ^ l.len) where
  -- the List with these members alone
  abbrev only : List
  only = record { rules = l.rules; len = l.len; members = set.0 }

  only-valid : Valid only
  unfolding clean_list signatures
  only-valid = record {
    few = valid.few;
    within = within;
    clean = ap (λ (x : List). record { rules = x.rules; len = l.len; members = set.0 }) valid.clean;
  }

  pub left_word : set.0 < 2 ^ 64
  left_word = valid-word only only-valid

  pub first-none : set.0 ≡ 0 → refusal 1 0 no_choice ≡ answered (first (select (number 0 (signatures l)) set.0))
  first-none e =
      let rs = number 0 (signatures l) in
      sym (ap (λ (m : ℕ). answered (first (select rs m))) e ∙ ap (λ (s : L.List Entry). answered (first s)) (select-none rs))

  pub first_rule : 0 < set.0 → {k : ℕ} {x : Rule} → k ≡ head_or 64 (bits 64 set.0) → x ≡ get_or l.rules k blank_rule
      → accepted (k ∷ rule_values x) ≡ answered (first (select (number 0 (signatures l)) set.0))
  unfolding entries signatures
  first_rule q e is = preferred-first only only-valid q e is ∙ preferred-answered (entries only)

-- why there is no rule, as an outcome and as a choice
pub why-answered : (why : NoRule) → outcome_paper (Err why) ≡ answered (no_choice_by why)
why-answered WrongCount = refl
why-answered (NoneAfter part k) = refl
why-answered NoneConcrete = refl

-- an operand's place fits a machine word, as the number of operands does
pub placed_of : (l : List) (ts : L.List ℕ) (why : NoRule) → Bounded l ts (Err why) → length ts < 2 ^ 64 → Placed why
placed_of l ts WrongCount b h = tt
placed_of l ts (NoneAfter part k) b h = omega arith
placed_of l ts NoneConcrete b h = tt

-- ---- the List in an answer that is accepted

pub held-list : (a : Result List Refusal) (b : List) → list_paper a ≡ accepted_list b → a ≡ Ok b
unfolding accepted_list
held-list (Ok a) b e = ap Ok (list_values-one a b (ap values e))
held-list (Err why) b e = let z : ◌≡◌ {A = ℕ} 0 1 = cc in absurd (omega arith)
