-- The lines that bytes spell: none where there are no bytes, one that stops where there are fewer than four, and otherwise the line of
-- the first four bytes, before those behind it.
-- Assumes nothing.
use mathlib.Core.Path.{◌≡◌, refl}
use mathlib.Core.List.{List, [], ◌∷◌}
use mathlib.Core.Option.{none}
use Prim.Native.Nat.{ℕ, ◌≤◌, ◌<◌}
use native.Mathlib.Omega.{arith}
use lib.ListN.{length, get_or, drop}
use Rattle.machine.specs.Line.{line_of, lines_of}

pub lines_end : (bs : List ℕ) → length bs ≡ 0 → lines_of bs ≡ []
lines_end [] h = refl
lines_end (a ∷ bs) h = absurd (omega arith)

pub lines-partial : (bs : List ℕ) → 0 < length bs → length bs < 4 → lines_of bs ≡ none ∷ []
lines-partial [] h l = absurd (omega arith)
lines-partial (a ∷ []) h l = refl
lines-partial (a ∷ b ∷ []) h l = refl
lines-partial (a ∷ b ∷ c ∷ []) h l = refl
lines-partial (a ∷ b ∷ c ∷ d ∷ bs) h l = absurd (omega arith)

pub lines_next : (bs : List ℕ) → 4 ≤ length bs → lines_of bs ≡ line_of (get_or bs 0 0) (get_or bs 1 0) (get_or bs 2 0) (get_or bs 3 0) ∷ lines_of (drop 4 bs)
lines_next [] h = absurd (omega arith)
lines_next (a ∷ []) h = absurd (omega arith)
lines_next (a ∷ b ∷ []) h = absurd (omega arith)
lines_next (a ∷ b ∷ c ∷ []) h = absurd (omega arith)
lines_next (a ∷ b ∷ c ∷ d ∷ bs) h = refl
