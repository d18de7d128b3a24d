-- What the private functions of src/reader.rt require and promise. They build no tree: each answers what the definition reads, with the bytes
-- of its tree on the strip, and with what its callers need to go on: the reading moves on, stays in the text, and passes at most 64 nodes.
use Rattle.std.specs.Prelude.{ℕ, ◌+◌, ◌*◌, ◌≤◌, ◌<◌, ◌≡◌, List, [], ◌∷◌, length, Result, Ok, Err}
use Rattle.std.proofs.lemmas.List.Edits.{sets}
use Rattle.scalars.specs.Refusal.{numbered}
use Rattle.scalars.specs.declared.refusal.Refusal.{Refusal}
use Rattle.names.specs.Index.{word_in}
use Rattle.expressions.specs.Tree.{Tree, Trees, count, bytes_of, bytes_of_all, most_nodes}
use Rattle.expressions.specs.Reading.{Reading, done, refused}
use Rattle.expressions.specs.private.Step.{levels_left}
use Rattle.text.specs.declared.reader.Past.{Past}
use Rattle.text.specs.Reading.{args_at, brackets_at, measured_at, node_at}

-- what the definition reads in lent names: a node at this depth, a measured leaf from behind `measured` on, brackets whose nodes are at this
-- depth, and arguments
abbrev pub node_in : List ℕ → List ℕ → List ℕ → ℕ → ℕ → ℕ → Reading Tree
node_in names index s depth = node_at (word_in names index) s (levels_left depth)

abbrev pub measured_in : List ℕ → List ℕ → List ℕ → ℕ → ℕ → Reading Tree
measured_in names index s = measured_at (word_in names index) s

abbrev pub brackets_in : List ℕ → List ℕ → List ℕ → ℕ → ℕ → ℕ → Reading Trees
brackets_in names index s depth = brackets_at (word_in names index) s (node_in names index s depth)

abbrev pub args_in : List ℕ → List ℕ → List ℕ → ℕ → ℕ → ℕ → ℕ → Reading Trees
args_in names index s depth = args_at (word_in names index) s (node_in names index s depth)

-- the strip has three bytes for each node of the limit, and what is written stays within those of the nodes passed
abbrev pub StripRoom : ℕ → ℕ → Type 0
StripRoom nodes made = (nodes ≤ most_nodes) × (made ≤ 3 * nodes)

-- a leaf may follow so many nodes
abbrev pub LeafRoom : ℕ → ℕ → Type 0
LeafRoom nodes made = (nodes < most_nodes) × (made ≤ 3 * nodes)

-- its two bytes on the strip, and how far the reading is then
abbrev pub leaf_put : List ℕ → ℕ → ℕ → ℕ → List ℕ
leaf_put strip made tag code = sets strip made (tag ∷ code ∷ [])

abbrev pub leaf_past : ℕ → ℕ → ℕ → Past
leaf_past end nodes made = record { at = end; nodes = nodes + 1; made = made + 2; count = 1 }

-- from the offset `at`, with n nodes before it and the strip written up to m: what is read, a node or arguments, whose bytes are `bytes` of
-- it and whose number is `many` of it, and how far that is
pub record Went {A : Type 0} (bytes : A → List ℕ) (many : A → ℕ) (s : List ℕ) (at n m : ℕ) (strip strip' : List ℕ) (reading : Reading A) (p : Past) : Type 0 where
  pub tree : A
  pub is : reading ≡ done tree p.at p.nodes
  pub number_is : p.count ≡ many tree
  pub made-is : p.made ≡ m + length (bytes tree)
  pub written : strip' ≡ sets strip m (bytes tree)
  pub moves : at < p.at
  pub within : p.at ≤ length s
  pub grows : n + p.count ≤ p.nodes
  pub few : p.nodes ≤ most_nodes
  pub room : p.made ≤ 3 * p.nodes

unfoldable pub NodeRead : List ℕ → ℕ → ℕ → ℕ → List ℕ → List ℕ → Reading Tree → Result Past Refusal → Type 0
NodeRead s at n m strip strip' reading (Ok p) = Went bytes_of (λ e. 1) s at n m strip strip' reading p
NodeRead s at n m strip strip' reading (Err why) = reading ≡ refused (numbered why).0 (numbered why).1

unfoldable pub ArgsRead : List ℕ → ℕ → ℕ → ℕ → List ℕ → List ℕ → Reading Trees → Result Past Refusal → Type 0
ArgsRead s at n m strip strip' reading (Ok p) = Went bytes_of_all count s at n m strip strip' reading p
ArgsRead s at n m strip strip' reading (Err why) = reading ≡ refused (numbered why).0 (numbered why).1
