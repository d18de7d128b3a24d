-- What the first pass reads has no more levels than it may. Assumes nothing.
use mathlib.Core.Path.{◌≡◌, subst}
use mathlib.Core.Bool.{Bool, true, false, not}
use mathlib.Core.List.{List}
use Prim.Native.Nat.{ℕ, zero, suc, ◌+◌, ◌≤◌}
use native.Mathlib.Omega.{arith}
use lib.Dec.{eqb, leb, ltb}
use Rattle.scalars.specs.Mask.{choose}
use Rattle.types.specs.Operand.{measured_abstract}
use Rattle.expressions.specs.Tree.{Tree, Trees, call, more, most_nodes, deepest, last_leaf, leaf_tag, call_tag, measured_tag}
use Rattle.expressions.specs.Reading.{Reading, done, refused, Expression, read, refused_as, and_then, args_at, present, byte_at, leaf_at, call_at, tagged_at, node_at, whole, expression_of}
use Rattle.expressions.proofs.Sound.{followed}
use Rattle.expressions.specs.Limits.{levels, levels_all}

-- a tree that is handed back, or trees, of at most d levels; a refusal claims nothing
abbrev Low : ℕ → Reading Tree → Type 0
Low d (done e at n) = levels e ≤ d
Low d (refused number place) = Unit

abbrev LowAll : ℕ → Reading Trees → Type 0
LowAll d (done es at n) = levels_all es ≤ d
LowAll d (refused number place) = Unit

module _ (d : ℕ) where
  choose-low : (test : Bool) (x y : Reading Tree) → Low d x → Low d y → Low d (choose test x y)
  choose-low true x y p q = p
  choose-low false x y p q = q

  more-low : (e : Tree) (others : Reading Trees) → levels e ≤ d → LowAll d others → LowAll d (and_then others (λ es. done (more e es)))
  unfolding levels
  more-low e (refused number place) p q = tt
  more-low e (done es at n) p q = omega arith

  then-low : (one : Reading Tree) (others : ℕ → ℕ → Reading Trees) → Low d one → ((at n : ℕ) → LowAll d (others at n))
      → LowAll d (followed one others)
  then-low (refused number place) others p q = tt
  then-low (done e at n) others p q = more-low e (others at n) p (q at n)

  args_low : (node : ℕ → ℕ → Reading Tree) → ((at n : ℕ) → Low d (node at n)) → (left at n : ℕ) → LowAll d (args_at node left at n)
  unfolding args_at levels
  args_low node p zero at n = omega arith
  args_low node p (suc left) at n = then-low (node at n) (args_at node left) (p at n) (args_low node p left)

  call-low : (f : ℕ) (args : Reading Trees) → LowAll d args → Low (suc d) (and_then args (λ es. done (call f es)))
  unfolding levels
  call-low f (refused number place) p = tt
  call-low f (done es at n) p = omega arith

module _ (functions : ℕ) (s : List ℕ) where
  leaf-low : (measured : Bool) (d at n : ℕ) → Low (suc d) (leaf_at measured s at n)
  unfolding leaf_at levels
  leaf-low measured d at n =
      choose-low (suc d) (present s (at + 1)) _ _
      (choose-low (suc d) (leb (byte_at s (at + 1)) last_leaf) _ _
      (choose-low (suc d) (not (measured_abstract (record { code = byte_at s (at + 1); measured = measured }))) _ _ (omega arith) tt) tt) tt

  tagged_low : (d : ℕ) (node : ℕ → ℕ → Reading Tree) → ((at n : ℕ) → Low d (node at n)) → (at n : ℕ)
      → Low (suc d) (tagged_at functions s node at n)
  unfolding tagged_at call_at
  tagged_low d node p at n =
      choose-low (suc d) (eqb (byte_at s at) leaf_tag) _ _ (leaf-low false d at n)
      (choose-low (suc d) (eqb (byte_at s at) call_tag) _ _
      (choose-low (suc d) (present s (at + 1)) _ _
      (choose-low (suc d) (ltb (byte_at s (at + 1)) functions) _ _
      (choose-low (suc d) (present s (at + 2)) _ _
      (call-low d (byte_at s (at + 1)) (args_at node (byte_at s (at + 2)) (at + 3) (n + 1)) (args_low d node p (byte_at s (at + 2)) (at + 3) (n + 1)))
      tt) tt) tt) (choose-low (suc d) (eqb (byte_at s at) measured_tag) _ _ (leaf-low true d at n) tt))

  node_low : (d at n : ℕ) → Low d (node_at functions s d at n)
  unfolding node_at
  node_low zero at n = choose-low zero (present s at) _ _ tt tt
  node_low (suc d) at n =
      choose-low (suc d) (present s at) _ _
      (choose-low (suc d) (ltb n most_nodes) _ _ (tagged_low d (node_at functions s d) (node_low d) at n) tt) tt

  abbrev LowRead : Expression → Type 0
  LowRead (read e) = levels e ≤ deepest
  LowRead (refused_as number place) = Unit

  whole-low : (r : Reading Tree) → Low deepest r → LowRead (whole s r)
  whole-low (refused number place) p = tt
  whole-low (done e at n) p = go (present s at)
    where
      go : (left : Bool) → LowRead (choose left (refused_as 8 at) (read e))
      go true = tt
      go false = p

  pub read_low : (e : Tree) → expression_of functions s ≡ read e → levels e ≤ deepest
  unfolding expression_of
  read_low e h = subst LowRead h (whole-low (node_at functions s deepest 0 0) (node_low deepest 0 0))
