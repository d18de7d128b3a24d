-- Document 02, (i) and (v), the grammar: which texts spell which trees, apart from any way of reading them. A node is a type's name, `measured`
-- and a type's name, or a function's name and, in brackets, its arguments with a comma between two; any number of spaces stands in front of
-- each token, and behind the last, and at least one between `measured` and its type. So no two runs stand side by side, and each name is a
-- longest run.
use Rattle.std.specs.Prelude.{ℕ, ◌≤◌, ◌≡◌, true, false, List, [], ◌∷◌, ◌++◌, length, replicate}
use Rattle.names.specs.Names.{type_name, function_name, measured_name}
use Rattle.functions.specs.Functions.{function_count}
use Rattle.expressions.specs.Tree.{Tree, Trees, leaf, call, none, more}
use Rattle.expressions.specs.Limits.{Within}
use Rattle.text.specs.Tokens.{space_byte, open_byte, close_byte, comma_byte}

-- a text has at most 4,096 bytes
abbrev pub most_bytes : ℕ
most_bytes = 4096

-- so many spaces
abbrev pub spaces : ℕ → List ℕ
spaces k = replicate k space_byte

-- a node as it is laid out: the numbers count the spaces in front of its name, of its opening bracket, and, where the list of arguments is
-- empty, of its closing one; of a measured leaf those in front of `measured`, and those beside the one in front of its type
mutual
  pub data Layout : Type 0 where
    leaf_laid : ℕ → ℕ → Layout
    measured_laid : ℕ → ℕ → ℕ → Layout
    empty_laid : ℕ → ℕ → ℕ → ℕ → Layout
    call_laid : ℕ → ℕ → ℕ → Layout → Others → Layout

  -- behind an argument: the closing bracket, or a comma and another argument; the numbers count the spaces in front of either
  pub data Others : Type 0 where
    close_laid : ℕ → Others
    comma_laid : ℕ → Layout → Others → Others

-- its text
unfoldable mutual
  pub laid : Layout → List ℕ
  laid (leaf_laid k t) = spaces k ++ type_name t
  laid (measured_laid k j t) = spaces k ++ (measured_name ++ space_byte ∷ (spaces j ++ type_name t))
  laid (empty_laid k f j i) = spaces k ++ (function_name f ++ (spaces j ++ open_byte ∷ (spaces i ++ close_byte ∷ [])))
  laid (call_laid k f j x r) = spaces k ++ (function_name f ++ (spaces j ++ open_byte ∷ (laid x ++ laid_others r)))

  pub laid_others : Others → List ℕ
  laid_others (close_laid k) = spaces k ++ close_byte ∷ []
  laid_others (comma_laid k x r) = spaces k ++ comma_byte ∷ (laid x ++ laid_others r)

-- its tree
unfoldable mutual
  pub tree_of : Layout → Tree
  tree_of (leaf_laid k t) = leaf (record { code = t; measured = false })
  tree_of (measured_laid k j t) = leaf (record { code = t; measured = true })
  tree_of (empty_laid k f j i) = call f none
  tree_of (call_laid k f j x r) = call f (more (tree_of x) (trees_of r))

  pub trees_of : Others → Trees
  trees_of (close_laid k) = none
  trees_of (comma_laid k x r) = more (tree_of x) (trees_of r)

-- the text s spells the tree e: some layout of the tree, and spaces behind it, all within the limits; that no measured leaf is abstract is
-- no matter of texts
pub record Spells (s : List ℕ) (e : Tree) : Type 0 where
  pub layout : Layout
  pub behind : ℕ
  pub tree_is : tree_of layout ≡ e
  pub text-is : s ≡ laid layout ++ spaces behind
  pub within : Within function_count e
  pub short : length s ≤ most_bytes
