-- What is left of a List, as a mask of its rules, stands for the entries that are left of its full listing. Assumes nothing.
use mathlib.Core.Path.{◌≡◌, refl, sym, ap, ◌∙◌, subst⁻¹}
use mathlib.Core.Bool.{Bool, true, false}
use mathlib.Core.List as L
use mathlib.Core.List.{[], ◌∷◌, map}
use Prim.Native.Nat.{ℕ, suc, ◌/◌, ◌^◌, ◌<◌}
use native.Mathlib.Omega.{arith}
use lib.Dec.{eqb}
use lib.ListN.{length}
use lib.Seq.{take_all}
use borrow.Author.Tests.{eqb-true, eqb-false}
use Rattle.scalars.specs.Mask.{choose, cons_if, odd, select, count_from, bits, mask_of}
use Rattle.rules.specs.Signature.{Signature}
use Rattle.lists.specs.Entry.{Entry, number}
use Rattle.calls.specs.Choice.{first}
use Rattle.lists.specs.List.{signatures, listing, entries}
use Rattle.calls.specs.Call.{members_of}
use Rattle.calls.specs.private.CallSets.{Full}
use Rattle.calls.specs.private.Steps.{mask_answer}
use Rattle.scalars.specs.Paper.{accepted, refusal}
use Rattle.lists.specs.declared.list.List.{List}
use Rattle.scalars.proofs.Bits.{mask-bits}
use Rattle.lists.proofs.Entries.{number-length}
use Rattle.lists.proofs.Lists.{valid-length}
use Rattle.scalars.proofs.Masks.{select-none, select-turn}
use Rattle.scalars.proofs.Meets.{select-ones}
use Rattle.calls.proofs.Narrowing.{Some}

-- all members: every rule with its index
pub full-entries : (l : List) → Full l → entries l ≡ number 0 (signatures l)
unfolding entries
full-entries l full =
    let n : length (number 0 (signatures l)) ≡ l.len = number-length 0 (signatures l) ∙ valid-length l full.valid in
    ap (select (number 0 (signatures l))) full.all
    ∙ select-ones (number 0 (signatures l)) l.len (omega arith) ∙ take_all l.len (number 0 (signatures l)) (omega arith)

pub full-listing : (l : List) → Full l → listing l ≡ signatures l
unfolding listing
full-listing l full =
    let n : length (signatures l) ≡ l.len = valid-length l full.valid in
    ap (select (signatures l)) full.all ∙ select-ones (signatures l) l.len (omega arith) ∙ take_all l.len (signatures l) (omega arith)

-- the indices of the entries that a mask picks are the mask's own bits
indices : (i : ℕ) (rs : L.List Signature) (m : ℕ) → map (λ (x : Entry). x.index) (select (number i rs) m) ≡ select (count_from i (length rs)) m
indices i [] m = refl
indices i (r ∷ rs) m = go (odd m) ∙ ap (cons_if (odd m) i) (indices (suc i) rs (m / 2))
  where
    go : (b : Bool) → map (λ (x : Entry). x.index) (cons_if b (record { index = i; rule = r }) (select (number (suc i) rs) (m / 2))) ≡ cons_if b i (map (λ (x : Entry). x.index) (select (number (suc i) rs) (m / 2)))
    go true = refl
    go false = refl

pub mask-entries : (rs : L.List Signature) (m : ℕ) → m < 2 ^ length rs → mask_of (map (λ (x : Entry). x.index) (select (number 0 rs) m)) ≡ m
unfolding bits
mask-entries rs m h = ap mask_of (indices 0 rs m) ∙ mask-bits (length rs) m h

module _ (rs : L.List Signature) (m : ℕ) (within : m < 2 ^ length rs) where
  -- a mask that is not 0 picks some entry
  pub picks-some : (m ≡ 0 → ⊥) → Some (select (number 0 rs) m)
  picks-some h =
      let n = number-length 0 rs in
      let d : Entry = record { index = 0; rule = record { arguments = []; result = 0 } } in
      (_, _, ap first (select-turn d (number 0 rs) (length (number 0 rs)) m (omega arith) (omega arith) (subst⁻¹ (λ (k : ℕ). m < 2 ^ k) n within)))

  -- the mask of what is left, or refusal 1
  pub picked_members : mask_answer m ≡ members_of (select (number 0 rs) m)
  unfolding mask_answer
  picked_members = go (eqb m 0) refl
    where
      some : (s : L.List Entry) → Some s → mask_of (map (λ (x : Entry). x.index) s) ≡ m → accepted (m ∷ []) ≡ members_of s
      some [] f e = let z : ◌≡◌ {A = ℕ} 0 1 = cc in absurd (omega arith)
      some (x ∷ xs) f e = ap (λ (n : ℕ). accepted (n ∷ [])) (sym e)

      go : (b : Bool) → eqb m 0 ≡ b → choose b (refusal 1 0 (0 ∷ [])) (accepted (m ∷ [])) ≡ members_of (select (number 0 rs) m)
      go true e = sym (ap (λ (n : ℕ). members_of (select (number 0 rs) n)) (eqb-true _ _ e) ∙ ap members_of (select-none (number 0 rs)))
      go false e = some (select (number 0 rs) m) (picks-some (λ z. eqb-false m 0 e z)) (mask-entries rs m within)
