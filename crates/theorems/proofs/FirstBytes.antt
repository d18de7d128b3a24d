-- What the first pass answers depends on no more than the first 193 bytes: 64 nodes of at most 3 bytes each, and the byte behind
-- them, which is either left over or the tag of a 65th node. So a program that holds the first 193 bytes or more of its input,
-- and drops the others, answers as if it held them all, places included. This holds for every number of known functions.
-- Assumes nothing.
use mathlib.Core.Path.{◌≡◌, refl, sym, ap, ap₂, ◌∙◌}
use mathlib.Core.Bool.{Bool, true, false}
use mathlib.Core.List.{List}
use Prim.Native.Nat.{ℕ, zero, suc, ◌+◌, ◌*◌, ◌≤◌, ◌<◌}
use native.Mathlib.Omega.{arith}
use native.Mathlib.Decide.{dec_lt}
use borrow.Author.Tests.{ltb-true, lt-ltb, le-ltb}
use lib.Dec.{ltb}
use lib.ListN.{length, take, length-append, length-take}
use lib.Seq.{get_or-take}
use Rattle.scalars.specs.Mask.{choose}
use Rattle.expressions.specs.Tree.{Tree, Trees, leaf, call, none, more, bytes_of, bytes_of_all, nodes, nodes_all, most_nodes, deepest}
use Rattle.expressions.specs.Reading.{Reading, done, refused, read, refused_as, demand, and_then, args_at, present, byte_at, leaf_at, call_at, tagged_at, node_at, whole, expression_of}
use Rattle.expressions.proofs.Sound.{followed, Sound, node_sound}
use Rattle.theorems.specs.FirstPass.{looked}

-- a tree has at most three bytes for each node
mutual
  unfolding bytes_of nodes

  bytes_most : (e : Tree) → length (bytes_of e) ≤ 3 * nodes e
  bytes_most (leaf l) = omega arith
  bytes_most (call f es) = omega (arith, bytes_most-all es)

  bytes_most-all : (es : Trees) → length (bytes_of_all es) ≤ 3 * nodes_all es
  bytes_most-all none = omega arith
  bytes_most-all (more e es) = omega (arith, length-append (bytes_of e) (bytes_of_all es), bytes_most e, bytes_most-all es)

-- two byte strings that agree on the bytes that are looked at
pub record Alike (s t : List ℕ) : Type 0 where
  pub here : (i : ℕ) → i < looked → present s i ≡ present t i
  pub byte : (i : ℕ) → i < looked → byte_at s i ≡ byte_at t i

-- two ways of reading agree at each offset that is no further than three bytes for each node before it
abbrev Same : {A : Type 0} → (ℕ → ℕ → A) → (ℕ → ℕ → A) → Type 0
Same x y = (at n : ℕ) → at ≤ 3 * n → n ≤ most_nodes → x at n ≡ y at n

under : (test : Bool) (number place : ℕ) (x y : Reading Tree) → (test ≡ true → x ≡ y)
    → demand test number place x ≡ demand test number place y
under true number place x y e = e refl
under false number place x y e = refl

module _ (functions : ℕ) (s t : List ℕ) (alike : Alike s t) where
  -- nodes of at most d levels, in either string
  abbrev node_s : ℕ → ℕ → ℕ → Reading Tree
  node_s d = node_at functions s d

  abbrev node_t : ℕ → ℕ → ℕ → Reading Tree
  node_t d = node_at functions t d

  then_same : (d at n : ℕ) (one : Reading Tree) (x y : ℕ → ℕ → Reading Trees) → at ≤ 3 * n → Sound functions s d at n one → Same x y
      → followed one x ≡ followed one y
  then_same d at n (refused number place) x y near k e = refl
  then_same d at n (done tree next m) x y near k e =
      ap (λ r. and_then r (λ es. done (more tree es))) (e next m (omega (arith, bytes_most tree, k.ends, k.counted)) k.few)

  args-same : (d left : ℕ) → Same (node_s d) (node_t d) → Same (args_at (node_s d) left) (args_at (node_t d) left)
  unfolding args_at
  args-same d zero e at n near few = refl
  args-same d (suc left) e at n near few =
      let others = args-same d left e in
      then_same d at n (node_s d at n) (args_at (node_s d) left) (args_at (node_t d) left) near (node_sound functions s d at n) others
      ∙ ap (λ r. followed r (args_at (node_t d) left)) (e at n near few)

  -- below the limit on nodes, a node's tag and the two bytes behind it are looked at in both
  tagged_same : (d at n : ℕ) → Same (node_s d) (node_t d) → at ≤ 3 * n → n < most_nodes
      → tagged_at functions s (node_s d) at n ≡ tagged_at functions t (node_t d) at n
  unfolding tagged_at leaf_at call_at
  tagged_same d at n e near few =
      let tag = alike.byte at (omega arith) in
      let first-here = alike.here (at + 1) (omega arith) in
      let first = alike.byte (at + 1) (omega arith) in
      let second-here = alike.here (at + 2) (omega arith) in
      let second = alike.byte (at + 2) (omega arith) in
      let args = args-same d (byte_at s (at + 2)) e (at + 3) (n + 1) (omega arith) (omega arith)
      ∙ ap (λ many. args_at (node_t d) many (at + 3) (n + 1)) second in
      let made = ap₂ (λ f r. and_then r (λ es. done (call f es))) first args in
      cc

  node_same : (d : ℕ) → Same (node_s d) (node_t d)
  unfolding node_at
  node_same zero at n near few = let here = alike.here at (omega arith) in cc
  node_same (suc d) at n near few =
      let here = alike.here at (omega arith) in
      let rest =
      under (ltb n most_nodes) 9 at (tagged_at functions s (node_s d) at n) (tagged_at functions t (node_t d) at n)
      (λ m. tagged_same d at n (node_same d) near (ltb-true _ _ m)) in
      cc

  whole_same : (r : Reading Tree) → Sound functions s deepest 0 0 r → whole s r ≡ whole t r
  whole_same (refused number place) k = refl
  whole_same (done e at n) k =
      let here = alike.here at (omega (arith, bytes_most e, k.ends, k.counted, k.few)) in
      ap (λ p. choose p (refused_as 8 at) (read e)) here

  pub alike_same : expression_of functions s ≡ expression_of functions t
  unfolding expression_of
  alike_same =
      whole_same (node_s deepest 0 0) (node_sound functions s deepest 0 0)
      ∙ ap (whole t) (node_same deepest 0 0 (omega arith) (omega arith))

-- a list and its front agree on what is present below the cut
present-take : (n i : ℕ) (s : List ℕ) → i < n → present (take n s) i ≡ present s i
present-take n i s h = go (dec_lt i (length s))
  where
    go : Dec (i < length s) → present (take n s) i ≡ present s i
    go (yes p) = lt-ltb i (length (take n s)) (omega (arith, length-take n s)) ∙ sym (lt-ltb i (length s) p)
    go (no p) = le-ltb i (length (take n s)) (omega (arith, length-take n s)) ∙ sym (le-ltb i (length s) (omega arith))

pub first_bytes_lem : (functions n : ℕ) (s : List ℕ) → looked ≤ n → expression_of functions (take n s) ≡ expression_of functions s
first_bytes_lem functions n s h = alike_same functions (take n s) s record {
  here = λ i b. present-take n i s (omega arith);
  byte = λ i b. get_or-take n s i 0 (omega arith);
}
