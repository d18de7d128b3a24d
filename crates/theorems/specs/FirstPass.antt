-- 'First pass', of the definition that the contract of `read_expression` cites, with any number of known functions.
--
-- * The first pass reads the tree e from bytes exactly when they are the bytes of e, e is within the limits and no measured leaf of it is
--   abstract.
-- * Where e is within the limits and a measured leaf of it is abstract, the bytes of e are refused with 17, at the type of the first such leaf.
-- * A byte string is the bytes of at most one tree.
-- * The first 193 bytes decide, places included: three for each of 64 nodes, and the one behind them, which is left over or the tag of a
--   65th node. So a program that holds so many bytes of its input, and drops the others, answers as if it held them all.
use Rattle.std.specs.Prelude.{◌≡◌, ◌↔◌, true, List, ℕ, ◌+◌, ◌*◌, ◌≤◌, length, take}
use Rattle.types.specs.Operand.{measured_abstract}
use Rattle.types.specs.declared.operand.Operand.{Operand}
use Rattle.expressions.specs.Tree.{Tree, Trees, leaf, call, more, bytes_of, most_nodes}
use Rattle.expressions.specs.Reading.{read, refused_as, expression_of}
use Rattle.expressions.specs.Limits.{Within, Measurable, WellFormed}

-- the bytes that are looked at
abbrev pub looked : ℕ
looked = 3 * most_nodes + 1

-- of a tree whose bytes begin at an offset: where the type of its first measured leaf that is abstract stands, left to right
mutual
  pub data AbstractAt : Tree → ℕ → ℕ → Type 0 where
    abstract_leaf : {l : Operand} {at p : ℕ} → measured_abstract l ≡ true → p ≡ at + 1 → AbstractAt (leaf l) at p
    abstract_inside : {f at p : ℕ} {es : Trees} → AbstractAmong es (at + 3) p → AbstractAt (call f es) at p

  pub data AbstractAmong : Trees → ℕ → ℕ → Type 0 where
    abstract_first : {e : Tree} {es : Trees} {at p : ℕ} → AbstractAt e at p → AbstractAmong (more e es) at p
    abstract_later : {e : Tree} {es : Trees} {at p : ℕ} → Measurable e → AbstractAmong es (at + length (bytes_of e)) p
        → AbstractAmong (more e es) at p

pub record Theorem : Type 0 where
  pub exactly : (functions : ℕ) (s : List ℕ) (e : Tree) → expression_of functions s ≡ read e ↔ ((s ≡ bytes_of e) × WellFormed functions e)
  pub measured : (functions : ℕ) (e : Tree) → Within functions e → (Measurable e → ⊥)
      → (p : ℕ) × AbstractAt e 0 p × (expression_of functions (bytes_of e) ≡ refused_as 17 p)
  pub one_tree : (e e' : Tree) → bytes_of e ≡ bytes_of e' → e ≡ e'
  pub first_bytes : (functions n : ℕ) (s : List ℕ) → looked ≤ n → expression_of functions (take n s) ≡ expression_of functions s
