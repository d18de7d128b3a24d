-- The definition of the first pass where the check does not find by itself what it comes to: into a call's arguments, behind a node that
-- was read, and at the expression's end.
-- Assumes nothing.
use mathlib.Core.Path.{◌≡◌, refl, sym, ap, ◌∙◌}
use mathlib.Core.List.{List, [], ◌∷◌}
use Prim.Native.Nat.{ℕ, suc, ◌+◌, ◌≤◌, ◌<◌}
use native.Mathlib.Omega.{arith}
use borrow.Author.Tests.{lt-ltb, le-ltb}
use lib.ListN.{length}
use Rattle.scalars.specs.Paper.{accepted}
use Rattle.expressions.specs.Tree.{Tree, Trees, call, most_nodes, deepest, call_tag}
use Rattle.expressions.specs.Reading.{Reading, done, refused, and_then, args_at, byte_at, call_at, tagged_at, node_at, whole, expression_of, read_of}
use Rattle.expressions.specs.private.Step.{step_of, levels_left}
use Rattle.expressions.proofs.Answers.{accepted-refused}
use Rattle.expressions.proofs.Bytes.{bytes-least}
use Rattle.expressions.proofs.Sound.{Sound, node_sound}

-- a call ends where its arguments end
made_ends : {A : Type 0} (make : Trees → A) (args : Reading Trees) → step_of (and_then args (λ es. done (make es))) ≡ step_of args
made_ends make (done es at n) = refl
made_ends make (refused k p) = refl

module _ (functions : ℕ) (s : List ℕ) (at n depth : ℕ) (here : at < length s) (few : n < most_nodes) (low : depth ≤ deepest)
    (tag : byte_at s at ≡ call_tag) where
  call_node : node_at functions s (levels_left depth) at n ≡ call_at functions s (node_at functions s (levels_left (depth + 1))) at n
  unfolding node_at tagged_at
  call_node =
      let e : levels_left depth ≡ suc (levels_left (depth + 1)) = omega arith in
      ap (λ d. node_at functions s d at n) e ∙ simp (lt-ltb at (length s) here, lt-ltb n most_nodes few, tag)

  pub call-read : byte_at s (at + 1) < functions → at + 2 < length s
      → step_of (args_at (node_at functions s (levels_left (depth + 1))) (byte_at s (at + 2)) (at + 3) (n + 1))
      ≡ step_of (node_at functions s (levels_left depth) at n)
  unfolding call_at
  call-read known k =
      let h : at + 1 < length s = omega arith in
      let args = args_at (node_at functions s (levels_left (depth + 1))) (byte_at s (at + 2)) (at + 3) (n + 1) in
      sym (ap step_of call_node
      ∙ simp (lt-ltb (at + 1) (length s) h, lt-ltb (byte_at s (at + 1)) functions known, lt-ltb (at + 2) (length s) k)
      (made_ends (call (byte_at s (at + 1))) args))

-- a node that is read moves the offset on, within the bytes
moves : (functions : ℕ) (s : List ℕ) (d at n next m : ℕ) (one : Reading Tree) → Sound functions s d at n one → accepted (next ∷ m ∷ []) ≡ step_of one
    → (at < next) × (next ≤ length s)
moves functions s d at n next m (refused number place) k e = accepted-refused e
moves functions s d at n next m (done tree next' m') k e =
    let p : next ≡ next' = cc in
    (omega (arith, bytes-least tree, k.ends), omega (arith, k.inside))

pub node_moves : (functions : ℕ) (s : List ℕ) (d at n next m : ℕ) → accepted (next ∷ m ∷ []) ≡ step_of (node_at functions s d at n)
    → (at < next) × (next ≤ length s)
node_moves functions s d at n next m e =
    moves functions s d at n next m (node_at functions s d at n) (node_sound functions s d at n) e

-- with no byte left over the expression is the root's tree, and its nodes are those passed
module _ (functions : ℕ) (s : List ℕ) (at n : ℕ) where
  root-whole : (root : Reading Tree) → Sound functions s deepest 0 0 root → accepted (at ∷ n ∷ []) ≡ step_of root → length s ≤ at
      → accepted (n ∷ []) ≡ read_of (whole s root)
  root-whole (refused k p) sound e h = accepted-refused e
  root-whole (done tree next m) sound e h =
      let p : at ≡ next = cc in
      let q : n ≡ m = cc in
      simp (le-ltb next (length s) (omega arith)) (ap (λ i. accepted (i ∷ [])) (omega (arith, sound.counted)))

  pub expression-whole : accepted (at ∷ n ∷ []) ≡ step_of (node_at functions s deepest 0 0) → length s ≤ at
      → accepted (n ∷ []) ≡ read_of (expression_of functions s)
  unfolding expression_of
  expression-whole e h = root-whole (node_at functions s deepest 0 0) (node_sound functions s deepest 0 0) e h
