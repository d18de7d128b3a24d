-- Bytes stored in a strip one after the other: those of two parts, and what then stands in front. Assumes nothing.
use mathlib.Core.Path.{◌≡◌, sym, ap, ◌∙◌}
use mathlib.Core.List.{List, [], ◌∷◌, ◌++◌}
use Prim.Native.Nat.{ℕ, suc, ◌+◌, ◌≤◌}
use native.Mathlib.Nat.{add-zero}
use native.Mathlib.Omega.{arith}
use lib.ListN.{length, take, drop, set}
use lib.Seq.{sets, sets-eq, take-append_seam}

-- two parts, the second behind the first
pub sets_append : (d : List ℕ) (i : ℕ) (a b : List ℕ) → sets d i (a ++ b) ≡ sets (sets d i a) (i + length a) b
sets_append d i [] b = ap (λ j. sets d j b) (sym (add-zero i))
sets_append d i (x ∷ a) b =
    let z : suc i + length a ≡ i + suc (length a) = omega arith in
    sets_append (set d i x) (suc i) a b ∙ ap (λ j. sets (sets (set d i x) (suc i) a) j b) z

-- bytes stored from the front on stand in front
pub stored_front : (d t : List ℕ) → length t ≤ length d → take (length t) (sets d 0 t) ≡ t
stored_front d t h = ap (take (length t)) (sets-eq t d 0 (omega arith)) ∙ take-append_seam t (drop (0 + length t) d)
