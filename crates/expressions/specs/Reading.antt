-- 'First pass': an expression's bytes are read front to back, and the first fault answers. A node is read through its arguments
-- and the arguments through their nodes. Reading hands back the tree that it found, so that whatever is said of expressions is
-- said of trees. Offsets count from the front of the whole byte string.
use Rattle.std.specs.Prelude.{ℕ, zero, suc, ◌+◌, Bool, true, false, not, List, [], ◌∷◌, eqb, leb, ltb, length, get_or}
use Rattle.scalars.specs.Mask.{choose}
use Rattle.scalars.specs.Paper.{Paper, accepted, refusal, unused}
use Rattle.types.specs.Operand.{measured_abstract}
use Rattle.expressions.specs.Tree.{Tree, Trees, leaf, call, none, more, nodes, most_nodes, deepest, last_leaf, leaf_tag, call_tag, measured_tag}

-- what was read, a node or a call's arguments, the offset behind it and the number of nodes read so far; or the first fault, by its
-- number and place
pub data Reading (A : Type 0) : Type 0 where
  done : A → ℕ → ℕ → Reading A
  refused : ℕ → ℕ → Reading A

-- the rest where the test holds, otherwise the refusal
abbrev pub demand : Bool → ℕ → ℕ → Reading Tree → Reading Tree
demand test number place rest = choose test rest (refused number place)

-- what follows what was read; a fault ends the reading
abbrev pub and_then : {A B : Type 0} → Reading A → (A → ℕ → ℕ → Reading B) → Reading B
and_then (done x at nodes) next = next x at nodes
and_then (refused number place) next = refused number place

-- so many arguments one after the other, each read by `node`
unfoldable pub args_at : (ℕ → ℕ → Reading Tree) → ℕ → ℕ → ℕ → Reading Trees
args_at node zero at nodes = done none at nodes
args_at node (suc left) at nodes =
    and_then (node at nodes) (λ e next so_far. and_then (args_at node left next so_far) (λ es. done (more e es)))

-- the byte at an offset is present
abbrev pub present : List ℕ → ℕ → Bool
present s at = ltb at (length s)

-- the byte at an offset
abbrev pub byte_at : List ℕ → ℕ → ℕ
byte_at s at = get_or s at 0

-- a leaf whose tag is at `at`, constant or measured: its type is present (8) and known (7), and a measured one's is not abstract (17)
unfoldable pub leaf_at : Bool → List ℕ → ℕ → ℕ → Reading Tree
leaf_at measured s at nodes =
    demand (present s (at + 1)) 8 (at + 1)
    (demand (leb (byte_at s (at + 1)) last_leaf) 7 (at + 1)
    (demand (not (measured_abstract (record { code = byte_at s (at + 1); measured = measured }))) 17 (at + 1)
    (done (leaf (record { code = byte_at s (at + 1); measured = measured })) (at + 2) (nodes + 1))))

-- a call whose tag is at `at`: its function is present (8) and known (7), its number of arguments is present (8); then the arguments
unfoldable pub call_at : ℕ → List ℕ → (ℕ → ℕ → Reading Tree) → ℕ → ℕ → Reading Tree
call_at functions s node at nodes =
    demand (present s (at + 1)) 8 (at + 1)
    (demand (ltb (byte_at s (at + 1)) functions) 7 (at + 1)
    (demand (present s (at + 2)) 8 (at + 2)
    (and_then (args_at node (byte_at s (at + 2)) (at + 3) (nodes + 1)) (λ es. done (call (byte_at s (at + 1)) es)))))

-- a node by its tag, which is known (8)
unfoldable pub tagged_at : ℕ → List ℕ → (ℕ → ℕ → Reading Tree) → ℕ → ℕ → Reading Tree
tagged_at functions s node at nodes =
    choose (eqb (byte_at s at) leaf_tag) (leaf_at false s at nodes)
    (choose (eqb (byte_at s at) call_tag) (call_at functions s node at nodes)
    (choose (eqb (byte_at s at) measured_tag) (leaf_at true s at nodes)
    (refused 8 at)))

-- a node that may have so many levels, its own included, with `nodes` nodes before it: its tag is present (8), it is not the
-- 65th and not too deep (9); then by its tag
unfoldable pub node_at : ℕ → List ℕ → ℕ → ℕ → ℕ → Reading Tree
node_at functions s zero at nodes = demand (present s at) 8 at (refused 9 at)
node_at functions s (suc levels) at nodes =
    demand (present s at) 8 at
    (demand (ltb nodes most_nodes) 9 at
    (tagged_at functions s (node_at functions s levels) at nodes))

-- the expression that a byte string is, or the first fault, by its number and place
pub data Expression : Type 0 where
  read : Tree → Expression
  refused_as : ℕ → ℕ → Expression

-- after the root no byte is left over (8, the first)
abbrev pub whole : List ℕ → Reading Tree → Expression
whole s (done e at nodes) = choose (present s at) (refused_as 8 at) (read e)
whole s (refused number place) = refused_as number place

-- the first pass over a byte string, where so many functions are known; the root has depth 1
unfoldable pub expression_of : ℕ → List ℕ → Expression
expression_of functions s = whole s (node_at functions s deepest 0 0)

-- its answer: how many nodes there are, or the fault
abbrev pub read_of : Expression → Paper
read_of (read e) = accepted (nodes e ∷ [])
read_of (refused_as number place) = refusal number place (unused ∷ [])
