-- The search for the first unknown code of a list, and the test that each code is known. Assumes nothing.
use mathlib.Core.Path.{◌≡◌, refl}
use mathlib.Core.Bool.{Bool, true, false, cond}
use mathlib.Core.List.{List, [], ◌∷◌}
use Prim.Native.Nat.{ℕ, suc, ◌+◌, ◌<◌}
use native.Mathlib.Numerals.{add-one}
use native.Mathlib.Omega.{arith}
use lib.Dec.{ltb}
use lib.ListN.{length, get_or, drop}
use lib.Seq.{drop-cons}
use borrow.Author.Tests.{le-leb, lt-leb, ltb-true, ltb-false}
use Rattle.std.specs.Prelude.{Option, Some, None, Err}
use Rattle.std.specs.List.{position_or_len}
use Rattle.std.proofs.lemmas.List.Recursion.{is_position_or_len}
use Rattle.scalars.specs.Mask.{choose}
use Rattle.scalars.specs.Paper.{Paper, accepted, refusal, refused, verdict_paper}
use Rattle.scalars.specs.declared.refusal.Refusal.{Refusal}
use Rattle.types.specs.Domain.{known?, first_unknown, last_code}
use Rattle.types.specs.Conversion.{if_known_all}

-- what is left of a list from an index on
pub from-here : (s : List ℕ) (i : ℕ) → i < length s → drop i s ≡ get_or s i 0 ∷ drop (i + 1) s
from-here s i h = rw (add-one, drop-cons s i 0)

-- the test for a code above the last one
abbrev pub unknown? : ℕ → Bool
unknown? t = ltb last_code t

position : (ts : List ℕ) → first_unknown ts ≡ position_or_len unknown? ts
unfolding first_unknown
position = is_position_or_len first_unknown unknown? refl (λ t ts. step t ts (unknown? t) refl)
  where
    step : (t : ℕ) (ts : List ℕ) (x : Bool) → unknown? t ≡ x → choose (known? t) (suc (first_unknown ts)) 0 ≡ cond x 0 (1 + first_unknown ts)
    step t ts true e = simp (lt-leb _ _ (ltb-true _ _ e))
    step t ts false e = simp (le-leb _ _ (ltb-false _ _ e)) (omega arith)

module _ (ts vs : List ℕ) (answer : Paper) where
  abbrev at : ℕ
  at = first_unknown ts

  -- what the search finds: the first unknown code, or none
  abbrev found : Option ℕ
  found = cond (ltb (position_or_len unknown? ts) (length ts)) (Some (position_or_len unknown? ts)) None

  pub found_unknown : (i : ℕ) → Some i ≡ found → refusal 7 (1 + i) vs ≡ if_known_all ts vs answer
  found_unknown i e = rw (position ts) (go (ltb (position_or_len unknown? ts) (length ts)) (position_or_len unknown? ts) e)
    where
      go : (x : Bool) (k : ℕ) → Some i ≡ cond x (Some k) None → refusal 7 (1 + i) vs ≡ choose x (refusal 7 (1 + k) vs) answer
      go true k e = cc
      go false k e = grind arith

  pub found_none : None ≡ found → answer ≡ if_known_all ts vs answer
  found_none e = rw (position ts) (go (ltb (position_or_len unknown? ts) (length ts)) (position_or_len unknown? ts) e)
    where
      go : (x : Bool) (k : ℕ) → None ≡ cond x (Some k) None → answer ≡ choose x (refusal 7 (1 + k) vs) answer
      go true k e = grind arith
      go false k e = refl

  -- what follows the test: its refusal with these values, or the answer
  pub unknown_type_refused : (why : Refusal) → verdict_paper (Err why) ≡ if_known_all ts [] (accepted []) → refused why vs ≡ if_known_all ts vs answer
  unknown_type_refused why e = go (ltb at (length ts)) e
    where
      go : (x : Bool) → verdict_paper (Err why) ≡ choose x (refusal 7 (1 + at) []) (accepted []) → refused why vs ≡ choose x (refusal 7 (1 + at) vs) answer
      go true e = cc
      go false e = let z : ◌≡◌ {A = ℕ} 0 1 = cc in absurd (omega arith)

  pub known_types_answer : accepted [] ≡ if_known_all ts [] (accepted []) → answer ≡ if_known_all ts vs answer
  known_types_answer e = go (ltb at (length ts)) e
    where
      go : (x : Bool) → accepted [] ≡ choose x (refusal 7 (1 + at) []) (accepted []) → answer ≡ choose x (refusal 7 (1 + at) vs) answer
      go true e = let z : ◌≡◌ {A = ℕ} 0 1 = cc in absurd (omega arith)
      go false e = refl
