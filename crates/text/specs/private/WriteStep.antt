-- What the private functions of src/writer.rt require and promise. Each is told of every tree whose bytes stand at the offset: its text is
-- then on the strip, in the spelling of the lent names.
use Rattle.std.specs.Prelude.{ℕ, ◌+◌, ◌*◌, ◌≤◌, ◌≡◌, List, ◌++◌, length, drop}
use Rattle.std.proofs.lemmas.List.Edits.{sets}
use Rattle.names.specs.Names.{type_count}
use Rattle.names.specs.Spelling.{spelling_in}
use Rattle.expressions.specs.Tree.{Tree, Trees, count, bytes_of, bytes_of_all, most_nodes}
use Rattle.text.specs.declared.writer.Turn.{Turn}
use Rattle.text.specs.Writing.{text_with, others_with}

-- the names of types and functions in lent names
abbrev pub type_in : List ℕ → List ℕ → ℕ → List ℕ
type_in names index t = spelling_in names index t

abbrev pub function_in : List ℕ → List ℕ → ℕ → List ℕ
function_in names index f = spelling_in names index (type_count + f)

-- the strip has so many bytes for each node of the limit
abbrev pub text_room : ℕ
text_room = 33 * most_nodes

-- a tree's bytes stand at the offset, and there is room for its text from m on
pub record NodeThere (b names index : List ℕ) (at m : ℕ) : Type 0 where
  pub tree : Tree
  pub tail : List ℕ
  pub text : drop at b ≡ bytes_of tree ++ tail
  pub room : m + length (text_with (type_in names index) (function_in names index) tree) ≤ text_room

-- so many trees' bytes stand there
pub record RestThere (b names index : List ℕ) (at left m : ℕ) : Type 0 where
  pub trees : Trees
  pub tail : List ℕ
  pub many : count trees ≡ left
  pub text : drop at b ≡ bytes_of_all trees ++ tail
  pub room : m + length (others_with (type_in names index) (function_in names index) trees) ≤ text_room

-- these bytes of the expression were passed, and this text was written from m on
pub record Turned (passed : ℕ) (t : List ℕ) (at m : ℕ) (strip strip' : List ℕ) (r : Turn) : Type 0 where
  pub at-is : r.at ≡ at + passed
  pub made-is : r.made ≡ m + length t
  pub written : strip' ≡ sets strip m t

unfoldable pub NodeWritten : List ℕ → List ℕ → List ℕ → ℕ → ℕ → List ℕ → List ℕ → Turn → Type 0
NodeWritten b names index at m strip strip' r =
    (e : Tree) (tail : List ℕ) → drop at b ≡ bytes_of e ++ tail
    → Turned (length (bytes_of e)) (text_with (type_in names index) (function_in names index) e) at m strip strip' r

unfoldable pub RestWritten : List ℕ → List ℕ → List ℕ → ℕ → ℕ → ℕ → List ℕ → List ℕ → Turn → Type 0
RestWritten b names index at left m strip strip' r =
    (es : Trees) (tail : List ℕ) → count es ≡ left → drop at b ≡ bytes_of_all es ++ tail
    → Turned (length (bytes_of_all es)) (others_with (type_in names index) (function_in names index) es) at m strip strip' r
