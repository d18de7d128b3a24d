-- What is asked of a List made by hand, by the tests of its form; and by the answer that making it gave. Assumes nothing.
use mathlib.Core.Path.{◌≡◌, sym, ap, ◌∙◌}
use mathlib.Core.Bool.{Bool, true, false}
use mathlib.Core.List as L
use Prim.Native.Nat.{ℕ, ◌*◌, ◌/◌, ◌%◌}
use native.Mathlib.Omega.{arith}
use lib.Dec.{eqb}
use lib.ListN.{length, get_or}
use Rattle.scalars.specs.Mask.{choose}
use Rattle.scalars.specs.Paper.{Paper, accepted, refusal, values, refused, when_accepted}
use Rattle.scalars.specs.declared.refusal.Refusal.{Refusal}
use Rattle.lists.specs.ChosenPaper.{list_values, no_list_values}
use Rattle.lists.specs.List.{accepted_list}
use Rattle.lists.specs.declared.list.List.{List}
use Rattle.lists.proofs.ChosenPapers.{list_values-one}
use Rattle.lending.specs.Masks.{mask_read}
use Rattle.c_sets.specs.Sets.{byte_rules, rules_handed, of_list}

-- the List as it was handed in
abbrev list_in : L.List ℕ → ℕ → List
list_in s members = record { rules = byte_rules s; len = rules_handed s; members = members }

-- ---- making it

module _ (s ms : L.List ℕ) where
  -- what is asked, by whether the bytes are whole rules and by the mask's paper
  abbrev asked_by : Bool → Paper → (List → Paper) → L.List ℕ → Paper
  asked_by b p ask none = choose b (when_accepted p (λ vs. ask (list_in s (get_or vs 0 0))) none) (refusal 8 (rules_handed s * 6) none)

  pub cut_short : eqb (length s % 6) 0 ≡ false → refusal 8 (length s / 6 * 6) no_list_values ≡ of_list s ms accepted_list no_list_values
  unfolding of_list
  cut_short e = sym (ap (λ (b : Bool). asked_by b (mask_read (rules_handed s) ms) accepted_list no_list_values) e)

  pub by_mask : eqb (length s % 6) 0 ≡ true → {p : Paper} → p ≡ mask_read (length s / 6) ms
      → when_accepted p (λ vs. accepted_list (list_in s (get_or vs 0 0))) no_list_values ≡ of_list s ms accepted_list no_list_values
  unfolding of_list
  by_mask e {p} is =
      ap (λ (q : Paper). asked_by true q accepted_list no_list_values) is
      ∙ sym (ap (λ (b : Bool). asked_by b (mask_read (rules_handed s) ms) accepted_list no_list_values) e)

  -- ---- asking it

  module _ (ask : List → Paper) (none : L.List ℕ) where
    refused_by : (b : Bool) (p : Paper) (why : Refusal) → refused why no_list_values ≡ asked_by b p accepted_list no_list_values
        → refused why none ≡ asked_by b p ask none
    unfolding accepted_list
    refused_by true (accepted ws) why e = let z : ◌≡◌ {A = ℕ} 0 1 = cc in absurd (omega arith)
    refused_by true (refusal n p ws) why e = cc
    refused_by false p why e = cc

    accepted_by : (b : Bool) (p : Paper) (l : List) → accepted (list_values l) ≡ asked_by b p accepted_list no_list_values → ask l ≡ asked_by b p ask none
    unfolding accepted_list
    accepted_by true (accepted ws) l e = ap ask (list_values-one l (list_in s (get_or ws 0 0)) (ap values e))
    accepted_by true (refusal n p ws) l e = let z : ◌≡◌ {A = ℕ} 0 1 = cc in absurd (omega arith)
    accepted_by false p l e = let z : ◌≡◌ {A = ℕ} 0 1 = cc in absurd (omega arith)

    pub asked-refused : (why : Refusal) → refused why no_list_values ≡ of_list s ms accepted_list no_list_values → refused why none ≡ of_list s ms ask none
    unfolding of_list
    asked-refused why e = refused_by (eqb (length s % 6) 0) (mask_read (rules_handed s) ms) why e

    pub asked-accepted : {l : List} → accepted (list_values l) ≡ of_list s ms accepted_list no_list_values → {p : Paper} → p ≡ ask l → p ≡ of_list s ms ask none
    unfolding of_list
    asked-accepted {l} e is = is ∙ accepted_by (eqb (length s % 6) 0) (mask_read (rules_handed s) ms) l e
