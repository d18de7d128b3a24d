-- The survivors of a call, as a mask of indices: they are the entries of the listing that take every operand and pass the switch, in
-- order, and the chosen rule is the first of them. A call and its survivors are refused alike. What a choice names is there.
-- Assumes nothing.
use mathlib.Core.Path.{◌≡◌, refl, sym, ap, ◌∙◌, subst}
use mathlib.Core.Logic.{◌↔◌}
use mathlib.Core.Bool.{Bool, true, false}
use mathlib.Core.List.{List, [], ◌∷◌, map}
use mathlib.Core.Option.{some}
use Prim.Native.Nat.{ℕ, ◌+◌, ◌-◌, ◌^◌, ◌<◌}
use native.Mathlib.Omega.{arith}
use lib.Dec.{ltb}
use lib.ListN.{length, get_elem?}
use lib.Seq.{take_all}
use borrow.Author.Tests.{ltb-false}
use Rattle.scalars.specs.Mask.{choose, either, select, sift, mask_of}
use Rattle.rules.specs.Signature.{Signature}
use Rattle.lists.specs.Entry.{Entry, number, keep}
use Rattle.calls.specs.Choice.{Narrowed, left, emptied, narrow, Choice, chosen, wrong_count, none_after, none_concrete, first, concrete_step, after_operands, resolve}
use Rattle.rules.specs.Verdict.{longest}
use Rattle.calls.specs.Call.{answered, members_of, survivors_after, survivors_of}
use Rattle.scalars.specs.Paper.{accepted, refusal}
use Rattle.lists.specs.ChosenPaper.{no_choice}
use Rattle.scalars.proofs.Masks.{sift-lt}
use Rattle.scalars.proofs.Meets.{select-ones}
use Rattle.lists.proofs.Entries.{number-length, select-keep}
use Rattle.calls.proofs.Firsts.{keep-keep, keep-every, first-is}
use Rattle.calls.proofs.Narrowing.{takes_from, permits, passes_all, Narrows, narrow_narrows, Some}
use Rattle.calls.proofs.ListResolving.{mask-entries}

concrete_keeps : (switch : Bool) (s : List Entry) → concrete_step switch s ≡ keep (permits switch) s
concrete_keeps false s = sym (keep-every s)
concrete_keeps true s = refl

module _ (switch : Bool) (rules : List Signature) (ts : List ℕ) where
  -- the entries that take every operand and pass the switch
  abbrev pub surviving : List Entry
  surviving = keep (passes_all switch ts) (number 0 rules)

  -- the mask of those that pass
  abbrev pub mask : ℕ
  mask = sift (passes_all switch ts) rules (2 ^ length rules - 1)

  -- a mask that picks them, and the choice among them
  pub record Surviving (m : ℕ) : Type 0 where
    pub picks : m ≡ mask
    pub within : m < 2 ^ length rules
    pub members : select (number 0 rules) m ≡ surviving
    pub some : Some surviving
    pub choice : resolve switch rules ts ≡ first surviving

  mask-picks : select (number 0 rules) mask ≡ surviving
  mask-picks =
      let n = number-length 0 rules in
      select-keep (passes_all switch ts) 0 rules (2 ^ length rules - 1)
      ∙ ap (keep (passes_all switch ts)) (select-ones (number 0 rules) (length rules) (omega arith) ∙ take_all (length rules) (number 0 rules) (omega arith))

  mask_is : mask_of (map (λ (x : Entry). x.index) surviving) ≡ mask
  mask_is =
      ap (λ (s : List Entry). mask_of (map (λ (x : Entry). x.index) s)) (sym mask-picks)
      ∙ mask-entries rules mask (sift-lt (passes_all switch ts) rules (2 ^ length rules - 1) refl)

  -- what the argument steps leave, after the concrete-only step
  pub left_is : (s : List Entry) → s ≡ keep (takes_from 0 ts) (number 0 rules) → concrete_step switch s ≡ surviving
  left_is s e =
      ap (concrete_step switch) e ∙ concrete_keeps switch (keep (takes_from 0 ts) (number 0 rules)) ∙ keep-keep (takes_from 0 ts) (permits switch) (number 0 rules)

  members-is : (s : List Entry) (m : ℕ) → members_of s ≡ accepted (m ∷ []) → Some s × (m ≡ mask_of (map (λ (x : Entry). x.index) s))
  members-is [] m e = let z : ◌≡◌ {A = ℕ} 0 1 = cc in absurd (omega arith)
  members-is (x ∷ xs) m e = ((x.index, x.rule, refl), cc)

  after-members : (m : ℕ) (y : Narrowed) → Narrows ts 0 (number 0 rules) y → survivors_after switch y ≡ accepted (m ∷ [])
      → (m ≡ mask) × Some surviving × (after_operands switch y ≡ first surviving)
  after-members m (emptied part k) h e = let z : ◌≡◌ {A = ℕ} 0 1 = cc in absurd (omega arith)
  after-members m (left s) h e =
      let f = left_is s h.0 in
      let g = members-is surviving m (sym (ap members_of f) ∙ e) in
      (g.1 ∙ mask_is, g.0, ap first f)

  pub survivors-members : (m : ℕ) → survivors_of switch rules ts ≡ accepted (m ∷ []) → Surviving m
  unfolding survivors_of resolve
  survivors-members m e = go (either (ltb (length ts) (longest rules)) (ltb (longest rules) (length ts))) refl e
    where
      go : (b : Bool) → either (ltb (length ts) (longest rules)) (ltb (longest rules) (length ts)) ≡ b
          → choose b (refusal 5 0 (0 ∷ [])) (survivors_after switch (narrow ts 0 (number 0 rules))) ≡ accepted (m ∷ []) → Surviving m
      go true c f = let z : ◌≡◌ {A = ℕ} 0 1 = cc in absurd (omega arith)
      go false c f =
          let h = after-members m (narrow ts 0 (number 0 rules)) (narrow_narrows ts 0 (number 0 rules)) f in
          record {
            picks = h.0;
            within = subst (λ (n : ℕ). n < 2 ^ length rules) (sym h.0) (sift-lt (passes_all switch ts) rules (2 ^ length rules - 1) refl);
            members = ap (select (number 0 rules)) h.0 ∙ mask-picks;
            some = h.1;
            choice = ap (λ (b : Bool). choose b wrong_count (after_operands switch (narrow ts 0 (number 0 rules)))) c ∙ h.2;
          }

  -- what is refused of the one is refused of the other
  refused-first : (s : List Entry) (n p : ℕ) → members_of s ≡ refusal n p (0 ∷ []) ↔ answered (first s) ≡ refusal n p no_choice
  refused-first [] n p = (λ e. cc, λ e. cc)
  refused-first (x ∷ xs) n p = (
    λ e. let z : ◌≡◌ {A = ℕ} 0 1 = cc in absurd (omega arith),
    λ e. let z : ◌≡◌ {A = ℕ} 0 1 = cc in absurd (omega arith),
  )

  refused-after : (y : Narrowed) (n p : ℕ) → survivors_after switch y ≡ refusal n p (0 ∷ []) ↔ answered (after_operands switch y) ≡ refusal n p no_choice
  refused-after (emptied part k) n p = (λ e. cc, λ e. cc)
  refused-after (left s) n p = refused-first (concrete_step switch s) n p

  pub survivors-refused : (n p : ℕ) → survivors_of switch rules ts ≡ refusal n p (0 ∷ []) ↔ answered (resolve switch rules ts) ≡ refusal n p no_choice
  unfolding survivors_of resolve
  survivors-refused n p = go (either (ltb (length ts) (longest rules)) (ltb (longest rules) (length ts)))
    where
      go : (b : Bool) → choose b (refusal 5 0 (0 ∷ [])) (survivors_after switch (narrow ts 0 (number 0 rules))) ≡ refusal n p (0 ∷ [])
          ↔ answered (choose b wrong_count (after_operands switch (narrow ts 0 (number 0 rules)))) ≡ refusal n p no_choice
      go true = (λ e. cc, λ e. cc)
      go false = refused-after (narrow ts 0 (number 0 rules)) n p

  -- ---- what a choice names is there

  -- a rule at its index that passes all the steps, where the number of operands is the longest rule's; one of the operands
  abbrev pub There : Choice → Type 0
  There (chosen i r) = (length ts ≡ longest rules) × (get_elem? rules i ≡ some r) × (passes_all switch ts r ≡ true)
  There wrong_count = Unit
  There (none_after part k) = k < length ts
  There none_concrete = Unit

  first-there : length ts ≡ longest rules → (s : List Entry) → s ≡ surviving → There (first s)
  first-there l [] e = tt
  first-there l (x ∷ xs) e =
      let f = first-is (passes_all switch ts) rules x.index x.rule (ap first (sym e)) in
      (l, f.there, f.passes)

  narrowed-there : length ts ≡ longest rules → (y : Narrowed) → Narrows ts 0 (number 0 rules) y → There (after_operands switch y)
  narrowed-there l (left s) h = first-there l (concrete_step switch s) (left_is s h.0)
  narrowed-there l (emptied part k) h =
      let at : k ≡ 0 + h.0 = h.1 in
      let lt : h.0 < length ts = h.2 in
      omega arith

  pub resolve-there : There (resolve switch rules ts)
  unfolding resolve
  resolve-there = go (ltb (length ts) (longest rules)) (ltb (longest rules) (length ts)) refl refl
    where
      go : (b c : Bool) → ltb (length ts) (longest rules) ≡ b → ltb (longest rules) (length ts) ≡ c
          → There (choose (either b c) wrong_count (after_operands switch (narrow ts 0 (number 0 rules))))
      go true c e e' = tt
      go false true e e' = tt
      go false false e e' =
          narrowed-there (omega (arith, ltb-false (length ts) (longest rules) e, ltb-false (longest rules) (length ts) e'))
          (narrow ts 0 (number 0 rules)) (narrow_narrows ts 0 (number 0 rules))
