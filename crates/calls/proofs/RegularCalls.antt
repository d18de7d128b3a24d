-- A call of a Regular set, step by step: its arity is the number of operands, each operand narrows the masks by its shape and by its
-- number, and the first rule that is left is the chosen one. Assumes nothing.
use mathlib.Core.Path.{◌≡◌, refl, sym, ap, ◌∙◌, subst}
use mathlib.Core.Bool.{Bool, true, false}
use mathlib.Core.List.{List, [], map}
use Prim.Native.Nat.{ℕ, zero, suc, ◌+◌, ◌≤◌, ◌<◌, zero-le}
use native.Mathlib.Omega.{arith}
use lib.ListN.{length, get_or}
use Rattle.scalars.specs.Mask.{bits}
use Rattle.rules.specs.Signature.{fits}
use Rattle.rules.specs.declared.rule.Part.{Part}
use Rattle.rules.specs.declared.rule.Part.TheVariants.{Shape, Number}
use Rattle.lists.specs.Entry.{Entry, number, keep}
use Rattle.calls.specs.Choice.{Narrowed, left, emptied, narrow, wrong_count, none_after, after_operands, resolve}
use Rattle.rules.specs.Verdict.{longest}
use Rattle.regular.specs.Regular.{pairs, codes_of, signature_for, regular_rules, empty_set?, narrowed, concrete_set}
use Rattle.regular.specs.SetPaper.{set_paper}
use Rattle.regular.specs.private.Tested.{Known}
use Rattle.calls.specs.Call.{answered}
use Rattle.calls.specs.private.CallSets.{Callable, preferred_in}
use Rattle.scalars.specs.Paper.{refusal}
use Rattle.lists.specs.ChosenPaper.{no_choice}
use Rattle.regular.specs.declared.regular.Regular.{Regular}
use Rattle.scalars.proofs.Bits.{bits_none}
use Rattle.regular.proofs.Regulars.{codes-first, longest-arity, lowest_code}
use Rattle.regular.proofs.RegularSteps.{narrowed-known, concrete-known}
use Rattle.regular.proofs.SetPapers.{set-one}
use Rattle.calls.proofs.Resolving.{next_part, next_at, to_come, step_out, step-on, narrow-end, count-wrong, count-right}
use Rattle.calls.proofs.RegularResolving.{Holds, holds-all, holds-argument, holds_switched, holds-preferred, holds-none, holds-some}

-- the steps before the one by this part of the operand i are done: the masks hold what is left, and the steps to come are the rest of all
-- steps
abbrev pub Reached : Regular → List ℕ → Regular → Part → ℕ → Type 0
Reached set ts rest part i =
    (i ≤ length ts) × Known rest × (s : List Entry) × Holds set rest s × (to_come part ts i s ≡ narrow ts 0 (number 0 (regular_rules set)))

module _ (set : Regular) (callable : Callable set) where
  -- without an argument there is no rule
  rules-none : set.arity ≡ 0 → regular_rules set ≡ []
  unfolding regular_rules codes_of
  rules-none e =
      ap (λ (m : ℕ). map (signature_for set) (pairs (bits 13 m) (bits 12 set.scalars.0))) (callable.none e)
      ∙ ap (λ (ks : List ℕ). map (signature_for set) (pairs ks (bits 12 set.scalars.0))) (bits_none 13)

  pub some-arguments : 0 < length (regular_rules set) → 1 ≤ set.arity
  some-arguments some = go set.arity refl
    where
      go : (n : ℕ) → set.arity ≡ n → 1 ≤ set.arity
      go zero e = absurd (omega (arith, ap length (rules-none e)))
      go (suc n) e = omega arith

  pub rules-longest : longest (regular_rules set) ≡ set.arity
  unfolding regular_rules
  rules-longest = go set.arity refl
    where
      go : (n : ℕ) → set.arity ≡ n → longest (regular_rules set) ≡ set.arity
      go zero e = ap longest (rules-none e) ∙ sym e
      go (suc n) e =
          let f = codes-first set callable.known (callable.some (omega arith)) in
          ap (λ (xs : List ℕ). longest (map (signature_for set) xs)) f.1 ∙ longest-arity set (lowest_code set) f.0

module _ (set : Regular) (callable : Callable set) (ts : List ℕ) where
  pub regular-wrong : (switch : Bool) → (length ts ≡ set.arity → ⊥) → refusal 5 0 no_choice ≡ answered (resolve switch (regular_rules set) ts)
  unfolding resolve
  regular-wrong switch h = sym (ap answered (count-wrong (regular_rules set) ts wrong_count _ (λ e. h (e ∙ rules-longest set callable))))

  pub reached-start : Reached set ts set Shape 0
  reached-start = (zero-le, callable.known, number 0 (regular_rules set), holds-all set, refl)

  module _ (counted : length ts ≡ set.arity) where
    -- what the steps leave is what the call answers
    regular-right : (switch : Bool) (y : Narrowed) → narrow ts 0 (number 0 (regular_rules set)) ≡ y
        → answered (after_operands switch y) ≡ answered (resolve switch (regular_rules set) ts)
    unfolding resolve
    regular-right switch y e =
        ap (λ (x : Narrowed). answered (after_operands switch x)) (sym e)
        ∙ sym (ap answered (count-right (regular_rules set) ts wrong_count _ (counted ∙ sym (rules-longest set callable))))

    module _ (part : Part) (rest : Regular) (i : ℕ) (reached : Reached set ts rest part i) (here : i < length ts) where
      -- what the step leaves
      abbrev rest' : Regular
      rest' = narrowed part (get_or ts i 0) rest

      holds' : Holds set rest' (keep (fits part i (get_or ts i 0)) reached.2)
      holds' = let b : i < set.arity = omega arith in holds-argument part i (get_or ts i 0) set rest reached.2 b reached.3

      -- that is none
      reached_out : (switch : Bool) → empty_set? rest' ≡ true
          → answered (after_operands switch (emptied part i)) ≡ answered (resolve switch (regular_rules set) ts)
      reached_out switch e =
          regular-right switch (emptied part i) (sym reached.4 ∙ step_out ts i here part reached.2 (holds-none set rest' _ holds' e))

      -- it is some
      reached-on : empty_set? rest' ≡ false → Reached set ts rest' (next_part part) (next_at part i)
      reached-on e =
          let k = narrowed-known part (get_or ts i 0) rest reached.1 in
          (there part, k, _, holds', sym (step-on ts i here part reached.2 (holds-some set rest' _ holds' k e)) ∙ reached.4)
        where
          there : (w : Part) → next_at w i ≤ length ts
          there Shape = omega arith
          there Number = omega arith

    -- the two steps of an operand, by the sets that they leave and by whether these have no rule
    module _ (rest : Regular) (i : ℕ) (reached : Reached set ts rest Shape i) (here : i < length ts) (shaped : Regular) {none : Bool}
        (by_shape : set_paper shaped ≡ set_paper (narrowed Shape (get_or ts i 0) rest)) (told : none ≡ empty_set? shaped) where
      shaped-is : shaped ≡ narrowed Shape (get_or ts i 0) rest
      shaped-is = set-one shaped (narrowed Shape (get_or ts i 0) rest) by_shape

      pub shape_out : none ≡ true → (switch : Bool) → answered (none_after Shape i) ≡ answered (resolve switch (regular_rules set) ts)
      shape_out e switch = reached_out Shape rest i reached here switch (ap empty_set? (sym shaped-is) ∙ sym told ∙ e)

      module _ (some : none ≡ false) (both : Regular) {none' : Bool}
          (by_both : set_paper both ≡ set_paper (narrowed Number (get_or ts i 0) shaped)) (told' : none' ≡ empty_set? both) where
        half : Reached set ts shaped Number i
        half =
            subst (λ (x : Regular). Reached set ts x Number i) (sym shaped-is)
            (reached-on Shape rest i reached here (ap empty_set? (sym shaped-is) ∙ sym told ∙ some))

        both-is : both ≡ narrowed Number (get_or ts i 0) shaped
        both-is = set-one both (narrowed Number (get_or ts i 0) shaped) by_both

        pub number_out : none' ≡ true → (switch : Bool) → answered (none_after Number i) ≡ answered (resolve switch (regular_rules set) ts)
        number_out e switch = reached_out Number shaped i half here switch (ap empty_set? (sym both-is) ∙ sym told' ∙ e)

        pub number-on : none' ≡ false → Reached set ts both Shape (i + 1)
        number-on e =
            subst (λ (x : Regular). Reached set ts x Shape (i + 1)) (sym both-is)
            (reached-on Number shaped i half here (ap empty_set? (sym both-is) ∙ sym told' ∙ e))

    module _ (rest : Regular) (i : ℕ) (reached : Reached set ts rest Shape i) where
      module _ (done : length ts ≤ i) where
        end : narrow ts 0 (number 0 (regular_rules set)) ≡ left reached.2
        end = sym reached.4 ∙ narrow-end ts i reached.2 done

        -- the first of what is left; with the switch on, of what is concrete
        pub reached-end : (switch : Bool) → switch ≡ false
            → preferred_in set (bits 13 rest.constructors.0) (bits 12 rest.scalars.0) ≡ answered (resolve switch (regular_rules set) ts)
        reached-end switch off =
            holds-preferred set rest reached.2 reached.3 callable ∙ regular-right false _ end
            ∙ ap (λ (b : Bool). answered (resolve b (regular_rules set) ts)) (sym off)

        module _ (concrete : Regular) (is : set_paper concrete ≡ set_paper (concrete_set rest)) where
          pub reached-concrete : (switch : Bool) → switch ≡ true
              → preferred_in set (bits 13 concrete.constructors.0) (bits 12 concrete.scalars.0) ≡ answered (resolve switch (regular_rules set) ts)
          reached-concrete switch on =
              ap (λ (x : Regular). preferred_in set (bits 13 x.constructors.0) (bits 12 x.scalars.0)) (set-one concrete (concrete_set rest) is)
              ∙ holds_switched set rest reached.2 reached.3 callable ∙ regular-right true _ end
              ∙ ap (λ (b : Bool). answered (resolve b (regular_rules set) ts)) (sym on)

          pub concrete-left : Known concrete
          concrete-left = subst Known (sym (set-one concrete (concrete_set rest) is)) (concrete-known rest reached.1)
