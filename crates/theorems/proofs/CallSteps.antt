-- What the steps of a call answer is what the operations on a set that means the listing answer: the steps name the part and the operand
-- at which the entries of the listing that pass become none, or leave those that pass them all. Assumes nothing.
use mathlib.Core.Path.{◌≡◌, refl, sym, ap, ◌∙◌, subst}
use mathlib.Core.Bool.{Bool, true, false}
use mathlib.Core.Logic.{◌↔◌}
use mathlib.Core.List.{List, [], ◌∷◌, ◌++◌}
use Prim.Native.Nat.{ℕ, zero, suc, ◌+◌, ◌≤◌, ◌<◌}
use native.Mathlib.Nat.{le_refl}
use native.Mathlib.Omega.{arith}
use borrow.Author.Tests.{le-leb, ltb-true, ltb-false, eqb-true, eqb-false}
use lib.Dec.{eqb, ltb}
use lib.ListN.{length, get_or, take}
use lib.Seq.{take_all}
use Rattle.scalars.specs.Mask.{both, cons_if, every}
use Rattle.types.specs.Domain.{last_code}
use Rattle.scalars.specs.Paper.{Paper, accepted, refusal}
use Rattle.rules.specs.Signature.{Signature, fits, takes}
use Rattle.rules.specs.Rule.{passes}
use Rattle.rules.specs.declared.rule.Part.{Part}
use Rattle.rules.specs.declared.rule.Part.TheVariants.{Shape, Number}
use Rattle.rules.specs.declared.rule.Keep.{Keep}
use Rattle.rules.specs.declared.rule.Keep.TheVariants.{Argument}
use Rattle.rules.specs.Verdict.{longest}
use Rattle.lists.specs.Entry.{Entry, number, keep}
use Rattle.lists.specs.ChosenPaper.{no_choice}
use Rattle.calls.specs.Choice.{none_left, wrong_count, Narrowed, left, emptied, narrow, first, after_operands, resolve}
use Rattle.calls.specs.Call.{answered}
use Rattle.scalars.proofs.Filters.{both_comm, both_left, both_right, both_true, every_append}
use Rattle.calls.proofs.Firsts.{keep-keep, keep-every}
use Rattle.calls.proofs.Narrowing.{takes_from, passes_all, Some, keep_pair, Stopped, Narrows, narrow_narrows}
use Rattle.calls.proofs.OutcomePapers.{not_at, same-part}
use Rattle.calls.proofs.Surviving.{left_is}
use Rattle.calls.proofs.Resolving.{count-wrong, count-right}
use Rattle.theorems.specs.Known.{AllKnown}
use Rattle.theorems.specs.Operations.{Set, regular, list, Empty, After}
use Rattle.theorems.specs.Calls.{steps_from, steps_before, Fits, EmptiedAt, AnswersRule, BySet}
use Rattle.theorems.proofs.InTurn.{turns_append}
use Rattle.theorems.proofs.SetSteps.{known_step}
use Rattle.theorems.proofs.Papers.{refused-not, other-number}
use Rattle.theorems.proofs.FunctionSets.{keep-alike, both-assoc, keeping, steps-kept, known-steps, passing, empty_entries, Means}

no_rule : {A : Type 0} (s : Set) (n p : ℕ) (ws vs : List ℕ) → AnswersRule s (refusal n p ws) vs → A
no_rule (regular r) n p ws vs (i, e) = refused-not e
no_rule (list l) n p ws vs e = refused-not e

-- ---- fewer operands keep more entries

shorter : (k : ℕ) (us : List ℕ) (i j : ℕ) (r : Signature) → i ≤ j → takes_from k (take j us) r ≡ true → takes_from k (take i us) r ≡ true
shorter k us zero j r l e = refl
shorter k [] (suc i) j r l e = refl
shorter k (u ∷ us) (suc i) zero r l e = absurd (omega arith)
shorter k (u ∷ us) (suc i) (suc j) r l e =
    both_true (both_left (takes k u r) _ e) (shorter (suc k) us i j r (omega arith) (both_right (takes k u r) _ e))

none_kept : (p q : Signature → Bool) → ((r : Signature) → q r ≡ true → p r ≡ true) → (s : List Entry) → keep p s ≡ [] → keep q s ≡ []
none_kept p q h [] e = refl
none_kept p q h (x ∷ xs) e = go (none_kept p q h xs) (p x.rule) (q x.rule) refl refl e
  where
    go : (keep p xs ≡ [] → keep q xs ≡ []) → (a b : Bool) → p x.rule ≡ a → q x.rule ≡ b → cons_if a x (keep p xs) ≡ [] → cons_if b x (keep q xs) ≡ []
    go rest true b f g e = let z : ◌≡◌ {A = ℕ} 0 1 = cc in absurd (omega arith)
    go rest false true f g e = let z : false ≡ true = sym f ∙ h x.rule g in let w : ◌≡◌ {A = ℕ} 0 1 = cc in absurd (omega arith)
    go rest false false f g e = rest e

some-no : (s : List Entry) → Some s → empty_entries s ≡ accepted (0 ∷ [])
some-no [] (i, r, e) = let z : ◌≡◌ {A = ℕ} 0 1 = cc in absurd (omega arith)
some-no (x ∷ xs) h = refl

yes_none : (s : List Entry) → empty_entries s ≡ accepted (1 ∷ []) → s ≡ []
yes_none [] e = refl
yes_none (x ∷ xs) e = let z : ◌≡◌ {A = ℕ} 0 1 = cc in absurd (omega arith)

no_none : {A : Type 0} (s : List Entry) → empty_entries s ≡ accepted (0 ∷ []) → s ≡ [] → A
no_none [] e f = let z : ◌≡◌ {A = ℕ} 1 0 = cc in absurd (omega arith)
no_none (x ∷ xs) e f = let z : ◌≡◌ {A = ℕ} 0 1 = cc in absurd (omega arith)

-- with one operand more, entries pass that operand's test too
one_more : (us : List ℕ) (j k : ℕ) (r : Signature) → k < length us
    → takes_from j (take (suc k) us) r ≡ both (takes_from j (take k us) r) (takes (j + k) (get_or us k 0) r)
one_more [] j k r l = absurd (omega arith)
one_more (u ∷ us) j zero r l = let z : j + 0 ≡ j = omega arith in rw z (both_comm (takes j u r) true)
one_more (u ∷ us) j (suc k) r l =
    let z : j + suc k ≡ suc j + k = omega arith in
    rw z (ap (both (takes j u r)) (one_more us (suc j) k r (omega arith))
    ∙ both-assoc (takes j u r) (takes_from (suc j) (take k us) r) (takes (suc j + k) (get_or us k 0) r))

-- ---- the part and the operand with which none is left

module _ (rules : List Signature) (some : 0 < length rules) (ts : List ℕ) where
  abbrev so : ℕ → List Entry
  so j = passing false (take j ts) rules

  no_switch : (us : List ℕ) → passing false us rules ≡ keep (takes_from 0 us) (number 0 rules)
  no_switch us = sym (keep-keep (takes_from 0 us) (λ r. true) (number 0 rules)) ∙ keep-every (keep (takes_from 0 us) (number 0 rules))

  -- what is left before the step by a part of operand k
  abbrev so_by : Part → ℕ → List Entry
  so_by Shape k = so k
  so_by Number k = keep (fits Shape k (get_or ts k 0)) (so k)

  record Gone (part : Part) (k : ℕ) : Type 0 where
    there : k < length ts
    before : empty_entries (so_by part k) ≡ accepted (0 ∷ [])
    after : empty_entries (keep (fits part k (get_or ts k 0)) (so_by part k)) ≡ accepted (1 ∷ [])

  -- both steps of an operand
  so-next : (k : ℕ) → k < length ts → keep (fits Number k (get_or ts k 0)) (so_by Number k) ≡ so (suc k)
  so-next k l =
      let t = get_or ts k 0 in
      keep_pair k t (so k) ∙ ap (keep (takes k t)) (no_switch (take k ts)) ∙ keep-keep (takes_from 0 (take k ts)) (takes k t) (number 0 rules)
      ∙ keep-alike _ _ (λ r. let z : 0 + k ≡ k = omega arith in rw z at (sym (one_more ts 0 k r l))) (number 0 rules)
      ∙ sym (no_switch (take (suc k) ts))

  gone_next : (part : Part) (k : ℕ) → Gone part k → so (suc k) ≡ []
  gone_next Shape k g = sym (so-next k g.there) ∙ ap (keep (fits Number k (get_or ts k 0))) (yes_none (so_by Number k) g.after)
  gone_next Number k g = sym (so-next k g.there) ∙ yes_none (keep (fits Number k (get_or ts k 0)) (so_by Number k)) g.after

  not-before : {A : Type 0} (part : Part) (k : ℕ) → Gone part k → so k ≡ [] → A
  not-before Shape k g e = no_none (so k) g.before e
  not-before Number k g e = no_none (so_by Number k) g.before (ap (keep (fits Shape k (get_or ts k 0))) e)

  -- what is gone stays so, with the switch on or off
  gone_on : (i j : ℕ) → i ≤ j → so i ≡ [] → so j ≡ []
  gone_on i j l =
      none_kept (passes_all false (take i ts)) (passes_all false (take j ts))
      (λ r e. both_true (shorter 0 ts i j r l (both_left (takes_from 0 (take j ts) r) _ e)) refl) (number 0 rules)

  gone_all : (switch : Bool) (i : ℕ) → i ≤ length ts → so i ≡ [] → passing switch ts rules ≡ []
  gone_all switch i l =
      none_kept (passes_all false (take i ts)) (passes_all switch ts)
      (λ r e. both_true (shorter 0 ts i (length ts) r l
      (ap (λ us. takes_from 0 us r) (take_all (length ts) ts (le_refl (length ts))) ∙ both_left (takes_from 0 ts r) _ e)) refl) (number 0 rules)

  -- some rule is left before the first operand, and after each that the steps pass
  first-left : empty_entries (so 0) ≡ accepted (0 ∷ [])
  first-left = ap empty_entries (keep-every (number 0 rules)) ∙ go rules some
    where
      go : (rs : List Signature) → 0 < length rs → empty_entries (number 0 rs) ≡ accepted (0 ∷ [])
      go [] l = absurd (omega arith)
      go (r ∷ rs) l = refl

  still_left : (n : ℕ) → ((j : ℕ) → j < n → Some (keep (takes_from 0 (take (suc j) ts)) (number 0 rules))) → empty_entries (so n) ≡ accepted (0 ∷ [])
  still_left zero h = first-left
  still_left (suc n) h = ap empty_entries (no_switch (take (suc n) ts)) ∙ some-no (keep (takes_from 0 (take (suc n) ts)) (number 0 rules)) (h n (omega arith))

  narrows_gone : (part : Part) (k : ℕ) → Narrows ts 0 (number 0 rules) (emptied part k) → Gone part k
  narrows_gone part k (m, e, l, stopped, lasts) =
      let z : m ≡ k = omega arith in
      go part k (subst (λ (n : ℕ). n < length ts) z l) (subst (Stopped part ts 0 (number 0 rules) k) z stopped)
      (subst (λ (n : ℕ). empty_entries (so n) ≡ accepted (0 ∷ [])) z (still_left m lasts))
    where
      go : (part : Part) (k : ℕ) → k < length ts → Stopped part ts 0 (number 0 rules) k k → empty_entries (so k) ≡ accepted (0 ∷ []) → Gone part k
      go Shape k l none some-before = record {
        there = l;
        before = some-before;
        after = ap empty_entries (ap (keep (fits Shape k (get_or ts k 0))) (no_switch (take k ts)) ∙ none);
      }
      go Number k l (shaped, none) some-before = record {
        there = l;
        before = ap (λ (x : List Entry). empty_entries (keep (fits Shape k (get_or ts k 0)) x)) (no_switch (take k ts)) ∙ some-no (keep (fits Shape k (get_or ts k 0)) (keep (takes_from 0 (take k ts)) (number 0 rules))) shaped;
        after = ap empty_entries (so-next k l ∙ no_switch (take (suc k) ts) ∙ none);
      }

  same_gone : (part other : Part) (k : ℕ) → Gone part k → Gone other k → emptied part k ≡ emptied other k
  same_gone Shape Shape k g w = refl
  same_gone Shape Number k g w = no_none (so_by Number k) w.before (yes_none (so_by Number k) g.after)
  same_gone Number Shape k g w = no_none (so_by Number k) g.before (yes_none (so_by Number k) w.after)
  same_gone Number Number k g w = refl

  gone_narrows : (part : Part) (k : ℕ) → Gone part k → (y : Narrowed) → Narrows ts 0 (number 0 rules) y → y ≡ emptied part k
  gone_narrows part k g (left s) (e, lasts) =
      let these = keep (takes_from 0 (take (suc k) ts)) (number 0 rules) in
      no_none these (some-no these (lasts k g.there)) (sym (no_switch (take (suc k) ts)) ∙ gone_next part k g)
  gone_narrows part k g (emptied other j) h = go (narrows_gone other j h) (ltb j k) (ltb k j) refl refl
    where
      go : Gone other j → (x y : Bool) → ltb j k ≡ x → ltb k j ≡ y → emptied other j ≡ emptied part k
      go w true y e f = not-before part k g (gone_on (suc j) k (ltb-true j k e) (gone_next other j w))
      go w false true e f = not-before other j w (gone_on (suc k) j (ltb-true k j f) (gone_next part k g))
      go w false false e f =
          let z : j ≡ k = omega (arith, ltb-false j k e, ltb-false k j f) in
          ap (emptied other) z ∙ same_gone other part k (subst (Gone other) z w) g

  -- ---- what the steps answer is what the operations on a set that means the listing answer

  module _ (switch : Bool) (known : AllKnown ts) (s : Set) (m : Means s rules) where
    fits-long : Fits s (length ts) → length ts ≡ longest rules
    fits-long f =
        let a = (m.least (accepted (f.least ∷ []))).0 f.least-is in
        let b = (m.most (accepted (f.most ∷ []))).0 f.most-is in
        let p : f.least ≡ longest rules = cc in
        let q : f.most ≡ longest rules = cc in
        omega (arith, f.enough, f.few)

    long-fits : length ts ≡ longest rules → Fits s (length ts)
    long-fits e = record {
      least = longest rules;
      most = longest rules;
      least-is = (m.least (accepted (longest rules ∷ []))).1 refl;
      most-is = (m.most (accepted (longest rules ∷ []))).1 refl;
      enough = omega arith;
      few = omega arith;
    }

    known-take : (k : ℕ) → AllKnown (take k ts)
    known-take k = go ts known k
      where
        go : (us : List ℕ) → AllKnown us → (k i : ℕ) → i < length (take k us) → get_or (take k us) i 0 ≤ last_code
        go us h zero i l = absurd (omega arith)
        go [] h (suc k) i l = absurd (omega arith)
        go (u ∷ us) h (suc k) zero l = h 0 (omega arith)
        go (u ∷ us) h (suc k) (suc i) l = go us (λ j n. h (suc j) (omega arith)) k i (omega arith)

    -- the steps before the one by a part of operand k, and what they leave
    module _ (part : Part) (k : ℕ) (there : k < length ts) where
      abbrev this : Keep
      this = Argument part k (get_or ts k 0)

      this-known : known_step this ≡ true
      this-known = le-leb _ _ (known k there)

      before-known : (w : Part) → every known_step (steps_before w ts k) ≡ true
      before-known Shape = known-steps false (take k ts) 0 (known-take k)
      before-known Number =
          every_append known_step (steps_from false 0 (take k ts)) (Argument Shape k (get_or ts k 0) ∷ []) (known-steps false (take k ts) 0 (known-take k))
          (both_true this-known refl)

      with_known : every known_step (steps_before part ts k ++ (this ∷ [])) ≡ true
      with_known = every_append known_step (steps_before part ts k) (this ∷ []) (before-known part) (both_true this-known refl)

      before-kept : (w : Part) → keeping (steps_before w ts k) (number 0 rules) ≡ so_by w k
      before-kept Shape = steps-kept false (take k ts) 0 (number 0 rules)
      before-kept Number =
          turns_append (λ j. keep (passes j)) (steps_from false 0 (take k ts)) (Argument Shape k (get_or ts k 0) ∷ []) (number 0 rules)
          ∙ ap (keep (fits Shape k (get_or ts k 0))) (steps-kept false (take k ts) 0 (number 0 rules))

      with_kept : keeping (steps_before part ts k ++ (this ∷ [])) (number 0 rules) ≡ keep (fits part k (get_or ts k 0)) (so_by part k)
      with_kept =
          turns_append (λ j. keep (passes j)) (steps_before part ts k) (this ∷ []) (number 0 rules) ∙ ap (keep (fits part k (get_or ts k 0))) (before-kept part)

      -- `is_empty` before the step, and with it
      asked-before : (b : ℕ) → After Empty (steps_before part ts k) s (accepted (b ∷ [])) ↔ empty_entries (so_by part k) ≡ accepted (b ∷ [])
      asked-before b =
          let (f, g) = m.empty (steps_before part ts k) (before-known part) (accepted (b ∷ [])) in
          (λ a. ap empty_entries (sym (before-kept part)) ∙ sym (f a), λ e. g (sym (ap empty_entries (before-kept part) ∙ e)))

      asked_with : (b : ℕ) → After Empty (steps_before part ts k ++ (this ∷ [])) s (accepted (b ∷ []))
          ↔ empty_entries (keep (fits part k (get_or ts k 0)) (so_by part k)) ≡ accepted (b ∷ [])
      asked_with b =
          let (f, g) = m.empty (steps_before part ts k ++ (this ∷ [])) with_known (accepted (b ∷ [])) in
          (λ a. ap empty_entries (sym with_kept) ∙ sym (f a), λ e. g (sym (ap empty_entries with_kept ∙ e)))

    -- `is_empty` after the steps of a call
    asked-empty : (w : Bool) (b : ℕ) → After Empty (steps_from w 0 ts) s (accepted (b ∷ [])) ↔ empty_entries (passing w ts rules) ≡ accepted (b ∷ [])
    asked-empty w b =
        let (f, g) = m.empty (steps_from w 0 ts) (known-steps w ts 0 known) (accepted (b ∷ [])) in
        let e = steps-kept w ts 0 (number 0 rules) in
        (λ a. ap empty_entries (sym e) ∙ sym (f a), λ q. g (sym (ap empty_entries e ∙ q)))

    gone_emptied : (part : Part) (k : ℕ) → Gone part k → EmptiedAt part s ts k
    gone_emptied part k g = record {
      there = g.there;
      before = (asked-before part k g.there 0).1 g.before;
      after = (asked_with part k g.there 1).1 g.after;
    }

    emptied_gone : (part : Part) (k : ℕ) → EmptiedAt part s ts k → Gone part k
    emptied_gone part k e = record {
      there = e.there;
      before = (asked-before part k e.there 0).0 e.before;
      after = (asked_with part k e.there 1).0 e.after;
    }

    wrong_count_lem : (length ts ≡ longest rules → ⊥) → BySet switch s ts (refusal 5 0 no_choice)
    wrong_count_lem w = record {
      other_count = (λ _ f. w (fits-long f), λ _. refl);
      wrong_shape = λ k. (λ q. other-number q (λ z. omega arith), λ (f, _). absurd (w (fits-long f)));
      wrong_number = λ k. (λ q. other-number q (λ z. omega arith), λ (f, _). absurd (w (fits-long f)));
      dropped = (λ q. other-number q (λ z. omega arith), λ (f, _). absurd (w (fits-long f)));
      rule = λ vs. (λ a. no_rule s _ _ _ vs a, λ (f, _). absurd (w (fits-long f)));
    }

    module _ (long : length ts ≡ longest rules) where
      -- a part of operand k leaves none
      none_left_lem : (part : Part) (k : ℕ) → Narrows ts 0 (number 0 rules) (emptied part k) → BySet switch s ts (refusal (none_left part) (1 + k) no_choice)
      none_left_lem part k h =
          record {
            other_count = (λ q. other-number q (not_at part 5 (omega arith) (omega arith)), λ n. absurd (n (long-fits long)));
            wrong_shape = there Shape;
            wrong_number = there Number;
            dropped = (
              λ q. other-number q (not_at part 1 (omega arith) (omega arith)),
              λ (_, d). no_none (passing false ts rules) ((asked-empty false 0).0 d.before) (none false),
            );
            rule = λ vs. (
              λ a. no_rule s _ _ _ vs a,
              λ (_, b). no_rule s 1 0 no_choice vs (subst (λ x. AnswersRule s (answered (first x)) vs) (none switch) ((m.preferred switch ts known long vs).0 b)),
            );
          }
        where
          g : Gone part k
          g = narrows_gone part k h

          none : (w : Bool) → passing w ts rules ≡ []
          none w = gone_all w (suc k) g.there (gone_next part k g)

          -- the refusal of what the steps leave
          refused_by : Narrowed → Paper
          refused_by (emptied w j) = refusal (none_left w) (1 + j) no_choice
          refused_by (left e) = accepted []

          there : (w : Part) (j : ℕ) → refusal (none_left part) (1 + k) no_choice ≡ refusal (none_left w) (1 + j) no_choice
              ↔ (Fits s (length ts) × EmptiedAt w s ts j)
          there w j = (
            λ q.
                let n : none_left part ≡ none_left w = cc in
                let z : 1 + k ≡ 1 + j = cc in
                let e : k ≡ j = omega arith in
                (long-fits long, gone_emptied w j (subst (λ (v : Part). Gone v j) (same-part part w n) (subst (Gone part) e g))),
            λ (_, e). ap refused_by (gone_narrows w j (emptied_gone w j e) (emptied part k) h),
          )

      -- some are left after the last operand
      some_left : (e : List Entry) → Narrows ts 0 (number 0 rules) (left e) → BySet switch s ts (answered (first (passing switch ts rules)))
      some_left e h =
          record {
            other_count = (λ q. first-not (passing switch ts rules) 5 0 q (omega arith), λ n. absurd (n (long-fits long)));
            wrong_shape = λ k. (λ q. first-not (passing switch ts rules) 6 (1 + k) q (omega arith), λ (_, d). never Shape k d);
            wrong_number = λ k. (λ q. first-not (passing switch ts rules) 16 (1 + k) q (omega arith), λ (_, d). never Number k d);
            dropped = (
              λ q. (
                long-fits long,
                record {
                  before = (asked-empty false 0).1 before;
                  after = (asked-empty switch 1).1 (ap empty_entries (first-none (passing switch ts rules) q));
                },
              ),
              λ (_, d). ap (λ x. answered (first x)) (yes_none (passing switch ts rules) ((asked-empty switch 1).0 d.after)),
            );
            rule = λ vs. (λ a. (long-fits long, (m.preferred switch ts known long vs).1 a), λ (_, b). (m.preferred switch ts known long vs).0 b);
          }
        where
          before : empty_entries (passing false ts rules) ≡ accepted (0 ∷ [])
          before = ap (λ us. empty_entries (passing false us rules)) (sym (take_all (length ts) ts (le_refl (length ts)))) ∙ still_left (length ts) h.1

          never : {A : Type 0} (part : Part) (k : ℕ) → EmptiedAt part s ts k → A
          never part k d =
              let z : left e ≡ emptied part k = gone_narrows part k (emptied_gone part k d) (left e) h in
              let w : ◌≡◌ {A = ℕ} 0 1 = cc in
              absurd (omega arith)

          first-not : {A : Type 0} (x : List Entry) (n p : ℕ) → answered (first x) ≡ refusal n p no_choice → 1 < n → A
          first-not [] n p q l = let z : 1 ≡ n = cc in absurd (omega arith)
          first-not (y ∷ ys) n p q l = refused-not (sym q)

          first-none : (x : List Entry) → answered (first x) ≡ refusal 1 0 no_choice → x ≡ []
          first-none [] q = refl
          first-none (y ∷ ys) q = refused-not (sym q)

      right-count : (y : Narrowed) → Narrows ts 0 (number 0 rules) y → BySet switch s ts (answered (after_operands switch y))
      right-count (emptied part k) h = none_left_lem part k h
      right-count (left e) h = subst (λ x. BySet switch s ts (answered (first x))) (sym (left_is switch rules ts e h.0)) (some_left e h)

    pub by_set_lem : BySet switch s ts (answered (resolve switch rules ts))
    unfolding resolve
    by_set_lem = go (eqb (length ts) (longest rules)) refl
      where
        go : (b : Bool) → eqb (length ts) (longest rules) ≡ b → BySet switch s ts (answered (resolve switch rules ts))
        go true e =
            let long = eqb-true _ _ e in
            subst (λ c. BySet switch s ts (answered c)) (sym (count-right rules ts wrong_count _ long))
            (right-count long (narrow ts 0 (number 0 rules)) (narrow_narrows ts 0 (number 0 rules)))
        go false e =
            let w = eqb-false _ _ e in
            subst (λ c. BySet switch s ts (answered c)) (sym (count-wrong rules ts wrong_count _ w)) (wrong_count_lem w)
