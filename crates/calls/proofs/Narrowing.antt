-- The argument steps leave the rules that take every operand at its index; or they name the first operand after which none is left, and
-- whether its shape or its number leaves none.
-- Assumes nothing.
use mathlib.Core.Path.{◌≡◌, refl, sym, ap, ◌∙◌}
use mathlib.Core.Bool.{Bool, true, false}
use mathlib.Core.List.{List, [], ◌∷◌}
use Prim.Native.Nat.{ℕ, zero, suc, ◌+◌, ◌<◌}
use native.Mathlib.Omega.{arith}
use lib.ListN.{length, get_or, take}
use Rattle.scalars.specs.Mask.{both}
use Rattle.rules.specs.Signature.{Signature, fits, takes, concrete}
use Rattle.rules.specs.declared.rule.Part.{Part}
use Rattle.rules.specs.declared.rule.Part.TheVariants.{Shape, Number}
use Rattle.lists.specs.Entry.{Entry, keep}
use Rattle.calls.specs.Choice.{Narrowed, left, emptied, unless_empty, part_step, narrow, chosen, first}
use Rattle.scalars.proofs.Filters.{filter_same}
use Rattle.rules.proofs.Rules.{takes-both}
use Rattle.calls.proofs.Firsts.{keep-keep, keep-every}

-- the steps of operands, from an index on, as one test of a rule
abbrev pub takes_from : ℕ → List ℕ → Signature → Bool
takes_from k [] r = true
takes_from k (t ∷ ts) r = both (takes k t r) (takes_from (suc k) ts r)

-- the concrete-only step, where the switch is on
abbrev pub permits : Bool → Signature → Bool
permits false r = true
permits true r = concrete r

-- all the steps as one test
abbrev pub passes_all : Bool → List ℕ → Signature → Bool
passes_all switch ts r = both (takes_from 0 ts r) (permits switch r)

-- some rule is left, a first one
abbrev pub Some : List Entry → Type 0
Some s = (i : ℕ) × (r : Signature) × (first s ≡ chosen i r)

-- some rule is left after each of the first n operands
abbrev Lasts : List ℕ → ℕ → List Entry → ℕ → Type 0
Lasts ts k s n = (j : ℕ) → j < n → Some (keep (takes_from k (take (suc j) ts)) s)

-- the operand m, at the index j, is the one that leaves none: by its shape, none of the rules that take those before it; by its number, some
-- of its shape, but none that takes it too
abbrev pub Stopped : Part → List ℕ → ℕ → List Entry → ℕ → ℕ → Type 0
Stopped Shape ts k s j m = keep (fits Shape j (get_or ts m 0)) (keep (takes_from k (take m ts)) s) ≡ []
Stopped Number ts k s j m = Some (keep (fits Shape j (get_or ts m 0)) (keep (takes_from k (take m ts)) s)) × (keep (takes_from k (take (suc m) ts)) s ≡ [])

abbrev pub Narrows : List ℕ → ℕ → List Entry → Narrowed → Type 0
Narrows ts k s (left s') = (s' ≡ keep (takes_from k ts) s) × Lasts ts k s (length ts)
Narrows ts k s (emptied part j) = (m : ℕ) × (j ≡ k + m) × (m < length ts) × Stopped part ts k s j m × Lasts ts k s m

-- the two steps of an operand leave what the single one leaves
pub keep_pair : (k t : ℕ) (s : List Entry) → keep (fits Number k t) (keep (fits Shape k t) s) ≡ keep (takes k t) s
keep_pair k t s =
    keep-keep (fits Shape k t) (fits Number k t) s
    ∙ filter_same (λ (x : Entry). both (fits Shape k t x.rule) (fits Number k t x.rule)) (λ (x : Entry). takes k t x.rule)
    (λ x. sym (takes-both k t x.rule)) s

module _ (t : ℕ) (ts : List ℕ) (k : ℕ) (s : List Entry) where
  once : keep (takes_from k (t ∷ [])) s ≡ keep (takes k t) s
  once = sym (keep-keep (takes k t) (λ (r : Signature). true) s) ∙ keep-every (keep (takes k t) s)

  lasts-more : (n : ℕ) → Some (keep (takes k t) s) → Lasts ts (suc k) (keep (takes k t) s) n → Lasts (t ∷ ts) k s (suc n)
  lasts-more n a h zero lt = rw once a
  lasts-more n a h (suc j) lt = rw (← keep-keep (takes k t) (takes_from (suc k) (take (suc j) ts)) s) (h j (omega arith))

  stopped_more : (part : Part) (j m : ℕ) → Stopped part ts (suc k) (keep (takes k t) s) j m → Stopped part (t ∷ ts) k s j (suc m)
  stopped_more Shape j m h = rw (← keep-keep (takes k t) (takes_from (suc k) (take m ts)) s) h
  stopped_more Number j m h = (
    rw (← keep-keep (takes k t) (takes_from (suc k) (take m ts)) s) h.0,
    rw (← keep-keep (takes k t) (takes_from (suc k) (take (suc m) ts)) s) h.1,
  )

  narrows_more : Some (keep (takes k t) s) → (y : Narrowed) → Narrows ts (suc k) (keep (takes k t) s) y → Narrows (t ∷ ts) k s y
  narrows_more a (left s') h = (h.0 ∙ keep-keep (takes k t) (takes_from (suc k) ts) s, lasts-more (length ts) a h.1)
  narrows_more a (emptied part j) h =
      let m = h.0 in
      let at : j ≡ suc k + m = h.1 in
      let lt : m < length ts = h.2 in
      (suc m, omega arith, omega arith, stopped_more part j m h.3, lasts-more m a h.4)

  -- the first operand is the one
  first_stops : (part : Part) → Stopped part (t ∷ ts) k s k 0 → Narrows (t ∷ ts) k s (emptied part k)
  first_stops part h = (0, omega arith, omega arith, h, λ j lt. absurd (omega arith))

pub narrow_narrows : (ts : List ℕ) (k : ℕ) (s : List Entry) → Narrows ts k s (narrow ts k s)
unfolding narrow
narrow_narrows [] k s = (sym (keep-every s), λ j lt. absurd (omega arith))
narrow_narrows (t ∷ ts) k s = shape (narrow_narrows ts (suc k)) (keep (fits Shape k t) s) refl
  where
    number : ((s₁ : List Entry) → Narrows ts (suc k) s₁ (narrow ts (suc k) s₁)) → Some (keep (fits Shape k t) s) → (s₂ : List Entry) → keep (takes k t) s ≡ s₂
        → Narrows (t ∷ ts) k s (unless_empty (emptied Number k) (λ (s' : List Entry). narrow ts (suc k) s') s₂)
    number ih a [] e = first_stops t ts k s Number (rw (keep-every s) a, once t ts k s ∙ e)
    number ih a (x ∷ xs) e = narrows_more t ts k s (x.index, x.rule, ap first e) (narrow ts (suc k) (x ∷ xs)) (rw e (ih (x ∷ xs)))

    shape : ((s₁ : List Entry) → Narrows ts (suc k) s₁ (narrow ts (suc k) s₁)) → (s₁ : List Entry) → keep (fits Shape k t) s ≡ s₁
        → Narrows (t ∷ ts) k s (unless_empty (emptied Shape k) (part_step Number k t (λ (s' : List Entry). narrow ts (suc k) s')) s₁)
    shape ih [] e = first_stops t ts k s Shape (rw (keep-every s) e)
    shape ih (x ∷ xs) e =
        number ih (x.index, x.rule, ap first e) (keep (fits Number k t) (x ∷ xs)) (sym (keep_pair k t s) ∙ ap (keep (fits Number k t)) e)
