-- Document 02's (vi), 'prove that the preferred rule is WGSL's': WGSL's scalars, its conversion ranks in the document's words, and what it
-- means that a listing's calls choose by them. The rule that a call chooses is over WGSL's scalars, and no surviving rule over them ranks
-- at most as high for every operand and lower for one. More is said: it outranks every other survivor over them. Survivors and the chosen
-- rule are those that Demand 2 speaks of: the rules of the listing that take the operands, and the first of them. Of operands there are only
-- types here: a measured one asks of a call what the switch asks.
use Rattle.std.specs.Prelude.{◌≡◌, Bool, true, false, List, [], ◌∷◌, ◌⊎◌, ℕ, ◌≤◌, ◌<◌, eqb, ltb, length, get_or}
use Rattle.scalars.specs.Mask.{choose, both, either, every}
use Rattle.scalars.specs.Domain.{abstract_int, abstract_float, i32, u32, f32, converts}
use Rattle.types.specs.Domain.{value?, scalar_part}
use Rattle.rules.specs.Signature.{Signature}
use Rattle.theorems.specs.Taking.{Taken, Best}

-- ---- the scalars that WGSL has

abbrev pub f16 : ℕ
f16 = 9

abbrev pub bool : ℕ
bool = 11

abbrev pub wgsl_scalars : List ℕ
wgsl_scalars = abstract_int ∷ abstract_float ∷ i32 ∷ u32 ∷ f32 ∷ f16 ∷ bool ∷ []

-- some element passes
abbrev pub any {ℓ} : {A : Type ℓ} → (A → Bool) → List A → Bool
any p [] = false
any p (x ∷ xs) = either (p x) (any p xs)

abbrev pub among : List ℕ → ℕ → Bool
among xs s = any (eqb s) xs

-- a scalar, vector or matrix over a scalar that WGSL has
abbrev pub wgsl? : ℕ → Bool
wgsl? t = both (value? t) (among wgsl_scalars (scalar_part t))

-- operands, or a rule's arguments, over WGSL's scalars
abbrev pub over_wgsl : List ℕ → Bool
over_wgsl ts = every wgsl? ts

-- ---- the ranks

pub record Conversion : Type 0 where
  pub from : ℕ
  pub to : ℕ
  pub rank : ℕ

abbrev pub conversion : ℕ → ℕ → ℕ → Conversion
conversion s u n = record { from = s; to = u; rank = n }

unfoldable pub conversions : List Conversion
conversions =
    conversion abstract_float f32 1 ∷ conversion abstract_float f16 2
    ∷ conversion abstract_int i32 3 ∷ conversion abstract_int u32 4 ∷ conversion abstract_int abstract_float 5
    ∷ conversion abstract_int f32 6 ∷ conversion abstract_int f16 7 ∷ []

-- what is no conversion of WGSL's has no rank; 8 stands for that, and EachRanked says that no operand of a survivor has it
abbrev pub no_rank : ℕ
no_rank = 8

abbrev pub rank_in : List Conversion → ℕ → ℕ → ℕ
rank_in [] s u = no_rank
rank_in (c ∷ cs) s u = choose (both (eqb s c.from) (eqb u c.to)) c.rank (rank_in cs s u)

-- of scalars: the same 0
unfoldable pub scalar_rank : ℕ → ℕ → ℕ
scalar_rank s u = choose (eqb s u) 0 (rank_in conversions s u)

-- of WGSL's scalars, one has a rank for another exactly where it converts to it
abbrev pub EachRanked : Type 0
EachRanked = (s u : ℕ) → among wgsl_scalars s ≡ true → among wgsl_scalars u ≡ true → ltb (scalar_rank s u) no_rank ≡ converts s u

-- a vector or matrix ranks as its scalar does
abbrev pub rank : ℕ → ℕ → ℕ
rank t a = scalar_rank (scalar_part t) (scalar_part a)

-- ---- rules by the ranks of operands

-- the rank of operand k for a rule
abbrev pub rank_at : List ℕ → Signature → ℕ → ℕ
rank_at ts r k = rank (get_or ts k 0) (get_or r.arguments k 0)

-- q ranks at most as high as p for every operand
unfoldable pub AtMost : List ℕ → Signature → Signature → Type 0
AtMost ts q p = (k : ℕ) → k < length ts → rank_at ts q k ≤ rank_at ts p k

-- and lower for one
pub record Outranks (ts : List ℕ) (q p : Signature) : Type 0 where
  pub most : AtMost ts q p
  pub operand : ℕ
  pub there : operand < length ts
  pub lower : rank_at ts q operand < rank_at ts p operand

-- ---- calls by rank

-- p is WGSL's rule for these operands
pub record ByRank (switch : Bool) (rules : List Signature) (ts : List ℕ) (p : Signature) : Type 0 where
  pub over : over_wgsl p.arguments ≡ true
  pub unbeaten : (q : Taken switch rules ts) → over_wgsl q.rule.arguments ≡ true → Outranks ts q.rule p → ⊥
  pub best : (q : Taken switch rules ts) → over_wgsl q.rule.arguments ≡ true
      → (p.arguments ≡ q.rule.arguments) ⊎ Outranks ts p q.rule

-- and so every rule of this listing that is the first to take operands over WGSL's scalars
unfoldable pub Ranked : List Signature → Type 0
Ranked rules =
    (switch : Bool) (ts : List ℕ) → over_wgsl ts ≡ true → (i : ℕ) (p : Signature) → Best switch rules ts i p → ByRank switch rules ts p
