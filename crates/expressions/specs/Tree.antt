-- 'Expressions': trees, their prefix bytes and their limits, apart from any way of reading them.
use Rattle.std.specs.Prelude.{ℕ, suc, ◌+◌, Bool, true, false, List, [], ◌∷◌, ◌++◌}
use Rattle.types.specs.declared.operand.Operand.{Operand}

-- a leaf is an operand: its type, and whether it is constant or measured
mutual
  pub data Tree : Type 0 where
    leaf : Operand → Tree
    call : ℕ → Trees → Tree

  pub data Trees : Type 0 where
    none : Trees
    more : Tree → Trees → Trees

-- at most 64 nodes; the root has depth 1, the deepest 16; a leaf's type is 0 to 156
abbrev pub most_nodes : ℕ
most_nodes = 64

abbrev pub deepest : ℕ
deepest = 16

abbrev pub last_leaf : ℕ
last_leaf = 156

unfoldable pub count : Trees → ℕ
count none = 0
count (more e es) = suc (count es)

-- prefix bytes. Leaf: 0, or 2 if it is measured, type code. Call: 1, function, number of arguments, then the arguments
abbrev pub leaf_tag : ℕ
leaf_tag = 0

abbrev pub call_tag : ℕ
call_tag = 1

abbrev pub measured_tag : ℕ
measured_tag = 2

abbrev pub tag_of : Bool → ℕ
tag_of false = leaf_tag
tag_of true = measured_tag

unfoldable mutual
  unfolding count

  pub bytes_of : Tree → List ℕ
  bytes_of (leaf l) = tag_of l.measured ∷ l.code ∷ []
  bytes_of (call f es) = call_tag ∷ f ∷ count es ∷ bytes_of_all es

  pub bytes_of_all : Trees → List ℕ
  bytes_of_all none = []
  bytes_of_all (more e es) = bytes_of e ++ bytes_of_all es

-- how many nodes
unfoldable mutual
  pub nodes : Tree → ℕ
  nodes (leaf l) = 1
  nodes (call f es) = 1 + nodes_all es

  pub nodes_all : Trees → ℕ
  nodes_all none = 0
  nodes_all (more e es) = nodes e + nodes_all es
