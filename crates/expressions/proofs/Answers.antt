-- What an answer of the first pass says of the expression that the definition reads: an accepted number of nodes is that of a
-- tree that was read, and a refusal is the definition's own.
-- Assumes nothing.
use mathlib.Core.Path.{◌≡◌, refl, sym}
use mathlib.Core.List.{List, [], ◌∷◌}
use Prim.Native.Nat.{ℕ}
use native.Mathlib.Omega.{arith}
use Rattle.scalars.specs.Paper.{accepted, refusal}
use Rattle.expressions.specs.Tree.{Tree, nodes}
use Rattle.expressions.specs.Reading.{Expression, read, refused_as, read_of}

-- no paper is both
pub accepted-refused : {A : Type 0} {vs ws : List ℕ} {n p : ℕ} → accepted vs ≡ refusal n p ws → A
accepted-refused e = let z : ◌≡◌ {A = ℕ} 0 1 = cc in absurd (omega arith)

pub accepted-tree : (x : Expression) (n : ℕ) → accepted (n ∷ []) ≡ read_of x → (e : Tree) × (x ≡ read e) × (nodes e ≡ n)
accepted-tree (read e) n h = let p : nodes e ≡ n = cc in (e, refl, p)
accepted-tree (refused_as k p) n h = accepted-refused h

pub refused-fault : (x : Expression) (n p : ℕ) → refusal n p (255 ∷ []) ≡ read_of x → x ≡ refused_as n p
refused-fault (read e) n p h = accepted-refused (sym h)
refused-fault (refused_as k q) n p h = cc
