-- Document 02, (i), reading a text: 'the first in the text of 9 as in 01, 14 an unknown run where a node may begin, 15 anything else misplaced
-- or missing, at the token or the text's end, 9 before 14'. A node is read through its arguments and the arguments through their nodes.
-- Document 02, (v): 'Text: `measured` and a type', and 'after `measured` anything but a type is 15 at that token, or at the text's end'.
use Rattle.std.specs.Prelude.{ℕ, zero, suc, ◌+◌, ◌-◌, true, false, List, ltb, length, take, drop}
use Rattle.scalars.specs.Mask.{choose}
use Rattle.names.specs.Names.{Named, a_type, a_function, unknown, measured_name, same, named}
use Rattle.expressions.specs.Tree.{Tree, Trees, leaf, call, none, more, most_nodes, deepest}
use Rattle.expressions.specs.Reading.{Reading, done, refused, and_then, demand, Expression, read, refused_as}
use Rattle.text.specs.declared.token.Token.{Token}
use Rattle.text.specs.declared.token.Token.TheVariants.{Open, Close, Comma, Run, End}
use Rattle.text.specs.Tokens.{next, place}
use Rattle.text.specs.Grammar.{most_bytes}

-- a token that does not belong where it stands, or the end, where one is missing
abbrev pub misplaced : {A : Type 0} → Token → Reading A
misplaced t = refused 15 (place t)

-- what follows a run; anything else is misplaced
abbrev pub on_run : Token → (ℕ → ℕ → Reading Tree) → Reading Tree
on_run (Run p e) k = k p e
on_run (Open p) k = refused 15 p
on_run (Close p) k = refused 15 p
on_run (Comma p) k = refused 15 p
on_run (End p) k = refused 15 p

-- what follows an opening bracket
abbrev pub on_open : Token → (ℕ → Reading Trees) → Reading Trees
on_open (Open p) k = k (p + 1)
on_open (Close p) k = refused 15 p
on_open (Comma p) k = refused 15 p
on_open (Run p e) k = refused 15 p
on_open (End p) k = refused 15 p

-- a closing bracket, or what stands there instead
abbrev pub on_close : Token → (ℕ → Reading Trees) → Reading Trees → Reading Trees
on_close (Close p) k other = k (p + 1)
on_close (Open p) k other = other
on_close (Comma p) k other = other
on_close (Run p e) k other = other
on_close (End p) k other = other

-- behind an argument: the closing bracket, or a comma
abbrev pub on_more : Token → (ℕ → Reading Trees) → (ℕ → Reading Trees) → Reading Trees
on_more (Close p) k m = k (p + 1)
on_more (Comma p) k m = m (p + 1)
on_more (Open p) k m = refused 15 p
on_more (Run p e) k m = refused 15 p
on_more (End p) k m = refused 15 p

-- with a way of telling what a run names, in the text s
module _ (look : List ℕ → Named) (s : List ℕ) where
  -- one argument or more, each read by `node`, and the closing bracket; `left` bounds their number, and is never reached, since each is a node
  unfoldable pub args_at : (ℕ → ℕ → Reading Tree) → ℕ → ℕ → ℕ → Reading Trees
  args_at node zero at nodes = refused 9 at
  args_at node (suc left) at nodes =
      and_then (node at nodes) (λ e next_at so_far.
      on_more (next s next_at) (λ behind. done (more e none) behind so_far)
      (λ behind. and_then (args_at node left behind so_far) (λ es. done (more e es))))

  -- arguments in their brackets; the list may be empty
  unfoldable pub brackets_at : (ℕ → ℕ → Reading Tree) → ℕ → ℕ → Reading Trees
  brackets_at node at nodes =
      on_open (next s at) (λ inside. on_close (next s inside) (λ behind. done none behind nodes) (args_at node (suc most_nodes) inside nodes))

  -- a node by what its first run names, which stands from p to e
  unfoldable pub word_at : (ℕ → ℕ → Reading Tree) → ℕ → ℕ → ℕ → Named → Reading Tree
  word_at node p e nodes (a_type t) = done (leaf (record { code = t; measured = false })) e (nodes + 1)
  word_at node p e nodes (a_function f) = and_then (brackets_at node e (nodes + 1)) (λ es. done (call f es))
  word_at node p e nodes unknown = refused 14 p

  -- the run from p to e
  abbrev pub run_at : ℕ → ℕ → List ℕ
  run_at p e = take (e - p) (drop p s)

  -- a measured leaf by what the run behind `measured` names, which stands from p to e: anything but a type is misplaced
  unfoldable pub type_at : ℕ → ℕ → ℕ → Named → Reading Tree
  type_at p e nodes (a_type t) = done (leaf (record { code = t; measured = true })) e (nodes + 1)
  type_at p e nodes (a_function f) = refused 15 p
  type_at p e nodes unknown = refused 15 p

  -- a measured leaf, from behind `measured` on
  unfoldable pub measured_at : ℕ → ℕ → Reading Tree
  measured_at at nodes = on_run (next s at) (λ p e. type_at p e nodes (look (run_at p e)))

  -- a node by its first run, which stands from p to e
  unfoldable pub run_node : (ℕ → ℕ → Reading Tree) → ℕ → ℕ → ℕ → Reading Tree
  run_node node p e nodes = choose (same (run_at p e) measured_name) (measured_at e nodes) (word_at node p e nodes (look (run_at p e)))

  -- a node that may have so many levels, its own included, with `nodes` nodes before it: a run stands there (15), it is not the 65th and not
  -- too deep (9), and the run is `measured` or known (14)
  unfoldable pub node_at : ℕ → ℕ → ℕ → Reading Tree
  node_at zero at nodes = on_run (next s at) (λ p e. refused 9 p)
  node_at (suc levels) at nodes =
      on_run (next s at) (λ p e. demand (ltb nodes most_nodes) 9 p (run_node (node_at levels) p e nodes))

  -- behind the root no token is left
  abbrev pub at_end : Tree → Token → Expression
  at_end e (End p) = read e
  at_end e (Open p) = refused_as 15 p
  at_end e (Close p) = refused_as 15 p
  at_end e (Comma p) = refused_as 15 p
  at_end e (Run p q) = refused_as 15 p

  abbrev pub whole : Reading Tree → Expression
  whole (done e at nodes) = at_end e (next s at)
  whole (refused number place) = refused_as number place

-- a text longer than the limit is refused first, at the limit; the root has depth 1
unfoldable pub reading_of : (List ℕ → Named) → List ℕ → Expression
reading_of look s = choose (ltb most_bytes (length s)) (refused_as 15 most_bytes) (whole look s (node_at look s deepest 0 0))

-- with the built-in names
abbrev pub reading : List ℕ → Expression
reading s = reading_of named s
