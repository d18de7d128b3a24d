-- What it means that a reader's answer is right of its text: what it accepts is a layout of its tree, within the limits; what it
-- refuses begins a layout of known names up to the fault's place. Apart from the proofs that the reader's answers are so, because
-- what is concluded from them needs only these words. Assumes nothing.
use mathlib.Core.Path.{◌≡◌}
use mathlib.Core.List.{List, ◌++◌}
use Prim.Native.Nat.{ℕ, ◌+◌, ◌-◌, ◌≤◌}
use lib.ListN.{length, take, drop}
use Rattle.functions.specs.Functions.{function_count}
use Rattle.names.specs.Names.{unknown, type_name, measured_name, named}
use Rattle.expressions.specs.Tree.{Tree, Trees, more, nodes, nodes_all, most_nodes}
use Rattle.expressions.specs.Known.{Known, KnownAll}
use Rattle.expressions.specs.Limits.{levels, levels_all}
use Rattle.expressions.specs.Reading.{Reading, done, refused}
use Rattle.text.specs.declared.token.Token.TheVariants.{Run}
use Rattle.text.specs.Tokens.{next, place}
use Rattle.text.specs.Grammar.{Layout, Others, laid, laid_others, tree_of, trees_of}

-- why a text is refused at p: for 9 and 14 a run stands there, which for 14 names nothing and is not `measured`
pub data Why (s : List ℕ) (p : ℕ) : ℕ → Type 0 where
  limit : (e : ℕ) → next s p ≡ Run p e → Why s p 9
  strange : (e : ℕ) → next s p ≡ Run p e → named (take (e - p) (drop p s)) ≡ unknown → (take (e - p) (drop p s) ≡ measured_name → ⊥) → Why s p 14
  wrong : Why s p 15

-- it begins with a node
abbrev pub Node : List ℕ → Type 0
Node rest = (behind : List ℕ) × (rest ≡ type_name 0 ++ behind)

module _ (s : List ℕ) where
  -- the text from `at` to a is laid out as this tree
  pub record NodeSpelt (d at n : ℕ) (x : Tree) (a m : ℕ) : Type 0 where
    pub layout : Layout
    pub tree_is : tree_of layout ≡ x
    pub text : drop at s ≡ laid layout ++ drop a s
    pub known : Known function_count x
    pub low : levels x ≤ d
    pub nodes-is : m ≡ n + nodes x
    pub few : m ≤ most_nodes
    pub later : at ≤ a
    pub first : place (next s at) ≤ a
    pub within : a ≤ length s

  -- and from `at` to a as these, with the closing bracket
  pub record ArgsSpelt (d at n : ℕ) (q : Trees) (a m : ℕ) : Type 0 where
    pub layout : Layout
    pub others : Others
    pub trees_are : more (tree_of layout) (trees_of others) ≡ q
    pub text : drop at s ≡ laid layout ++ (laid_others others ++ drop a s)
    pub known : KnownAll function_count q
    pub low : levels_all q ≤ d
    pub nodes_are : m ≡ n + nodes_all q
    pub few : m ≤ most_nodes
    pub later : at ≤ a
    pub first : place (next s at) ≤ a
    pub within : a ≤ length s

  -- the text from `at` to p begins a layout; for 9 and 14 one in which a node begins at p, for 14 one within the limits
  pub record NodeFault (d at n k p : ℕ) : Type 0 where
    pub why : Why s p k
    pub later : at ≤ p
    pub first : place (next s at) ≤ p
    pub within : p ≤ length s
    pub before : List ℕ
    pub text : drop at s ≡ before ++ drop p s
    pub rest : List ℕ
    pub may : (k ≡ 15 → ⊥) → Node rest
    pub layout : Layout
    pub completes : before ++ rest ≡ laid layout
    pub known : Known function_count (tree_of layout)
    pub small : k ≡ 14 → (levels (tree_of layout) ≤ d) × (n + nodes (tree_of layout) ≤ most_nodes)

  pub record ArgsFault (d at n k p : ℕ) : Type 0 where
    pub why : Why s p k
    pub later : at ≤ p
    pub first : place (next s at) ≤ p
    pub within : p ≤ length s
    pub before : List ℕ
    pub text : drop at s ≡ before ++ drop p s
    pub rest : List ℕ
    pub may : (k ≡ 15 → ⊥) → Node rest
    pub layout : Layout
    pub others : Others
    pub completes : before ++ rest ≡ laid layout ++ laid_others others
    pub known : Known function_count (tree_of layout)
    pub all_known : KnownAll function_count (trees_of others)
    pub small : k ≡ 14 → (levels (tree_of layout) ≤ d) × (levels_all (trees_of others) ≤ d)
        × (n + nodes (tree_of layout) + nodes_all (trees_of others) ≤ most_nodes)

  abbrev pub NodeOk : ℕ → ℕ → ℕ → Reading Tree → Type 0
  NodeOk d at n (done x a m) = NodeSpelt d at n x a m
  NodeOk d at n (refused k p) = NodeFault d at n k p

  abbrev pub ArgsOk : ℕ → ℕ → ℕ → Reading Trees → Type 0
  ArgsOk d at n (done q a m) = ArgsSpelt d at n q a m
  ArgsOk d at n (refused k p) = ArgsFault d at n k p
