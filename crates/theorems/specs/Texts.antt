-- Document 02, (i), with the measured leaves of (v), of the definitions that the contracts of `read_text` and `write_text` cite.
--
-- * Reading a text gives the tree e exactly when the text spells e: some layout of e, with spaces behind it, e being within the limits and the
--   text at most 4,096 bytes long. A text spells at most one tree.
-- * A tree that the first pass reads from bytes is written as a text of at most 4,096 bytes, and that text is read back to the same tree, whose
--   bytes are those bytes. A tree that is read from a text is one that the first pass reads from its bytes, or a measured leaf of it is
--   abstract; then the first pass refuses its bytes with 17, at the type of the first such leaf.
-- * A text that spells no tree is refused, with 9, 14 or 15, at a place within it; one that is too long with 15, at 4,096.
-- * The first fault. Up to its place, a text that is not too long begins a text of the grammar, limits apart. With 15 inside the text, no text of
--   the grammar begins with the byte there as well; but where a run stands there right behind `measured`, some may, and none begins with the
--   whole run and the byte behind it. With 15 at the text's end, the text is no text of the grammar. With 14 a run stands at the place that
--   names nothing and is not `measured`, where a node may begin within the limits; with the byte behind it no text of the grammar begins so.
--   With 9 a run stands at the place, where a node may begin, limits apart; no text within the limits begins with its first byte as well.
use Rattle.std.specs.Prelude.{◌≡◌, ◌↔◌, ◌⊎◌, List, ◌++◌, ℕ, ◌+◌, ◌-◌, ◌≤◌, ◌<◌, length, take, drop}
use Rattle.functions.specs.Functions.{function_count}
use Rattle.names.specs.Names.{unknown, type_name, measured_name, named}
use Rattle.expressions.specs.Tree.{Tree, bytes_of}
use Rattle.expressions.specs.Known.{Known}
use Rattle.expressions.specs.Limits.{Within, Measurable}
use Rattle.expressions.specs.Reading.{read, refused_as, expression_of}
use Rattle.text.specs.declared.token.Token.TheVariants.{Run}
use Rattle.text.specs.Tokens.{next}
use Rattle.text.specs.Grammar.{most_bytes, spaces, Layout, laid, tree_of, Spells}
use Rattle.text.specs.Reading.{reading}
use Rattle.text.specs.Writing.{text_of}
use Rattle.theorems.specs.FirstPass.{AbstractAt}

-- refused, and where
pub record Refused (s : List ℕ) : Type 0 where
  pub number : ℕ
  pub place : ℕ
  pub answer : reading s ≡ refused_as number place
  pub one_of : (number ≡ 9) ⊎ (number ≡ 14) ⊎ (number ≡ 15)
  pub within : place ≤ most_bytes
  pub inside : length s ≤ most_bytes → place ≤ length s

-- a text of the grammar, limits apart
pub record Laid (s : List ℕ) : Type 0 where
  pub layout : Layout
  pub behind : ℕ
  pub known : Known function_count (tree_of layout)
  pub text-is : s ≡ laid layout ++ spaces behind

-- a text that begins one
pub record Begins (s : List ℕ) : Type 0 where
  pub rest : List ℕ
  pub laid-is : Laid (s ++ rest)

-- a text that begins one whose tree is within the limits
pub record BeginsWithin (s : List ℕ) : Type 0 where
  pub rest : List ℕ
  pub laid-is : Laid (s ++ rest)
  pub within : Within function_count (tree_of laid-is.layout)

-- a run stands at p, right behind `measured`
pub record BehindMeasured (s : List ℕ) (p : ℕ) : Type 0 where
  pub start : ℕ
  pub end : ℕ
  pub word : next s start ≡ Run start end
  pub word-is : take (end - start) (drop start s) ≡ measured_name
  pub last : ℕ
  pub run : next s end ≡ Run p last

-- 14 at p: a run stands there, names nothing and is not `measured`; a type's name in its place begins a text within the limits; with the
-- byte behind the run, where there is one, no text of the grammar begins so
pub record Strange (s : List ℕ) (p : ℕ) : Type 0 where
  pub end : ℕ
  pub run : next s p ≡ Run p end
  pub nothing : named (take (end - p) (drop p s)) ≡ unknown
  pub other : take (end - p) (drop p s) ≡ measured_name → ⊥
  pub node_here : BeginsWithin (take p s ++ type_name 0)
  pub no_other : end < length s → Begins (take (end + 1) s) → ⊥

-- 9 at p: a run stands there; a type's name in its place begins a text of the grammar; no text within the limits begins with the bytes up to
-- the one at p
pub record Limit (s : List ℕ) (p : ℕ) : Type 0 where
  pub end : ℕ
  pub run : next s p ≡ Run p end
  pub node_here : Begins (take p s ++ type_name 0)
  pub none_within : BeginsWithin (take (p + 1) s) → ⊥

-- the fault n at p is the first
pub record FirstFault (s : List ℕ) (n p : ℕ) : Type 0 where
  pub begins : Begins (take p s)
  pub no_text : (n ≡ 9 → ⊥) → Laid s → ⊥
  pub misplaced : n ≡ 15 → p < length s → (BehindMeasured s p → ⊥) → Begins (take (p + 1) s) → ⊥
  pub misplaced_run : n ≡ 15 → (end : ℕ) → next s p ≡ Run p end → end < length s → Begins (take (end + 1) s) → ⊥
  pub strange : n ≡ 14 → Strange s p
  pub limit : n ≡ 9 → Limit s p

pub record Theorem : Type 0 where
  pub exactly : (s : List ℕ) (e : Tree) → reading s ≡ read e ↔ Spells s e
  pub one_tree : (s : List ℕ) (e f : Tree) → Spells s e → Spells s f → e ≡ f
  pub there_and_back : (b : List ℕ) (e : Tree) → expression_of function_count b ≡ read e
      → (reading (text_of e) ≡ read e) × (bytes_of e ≡ b) × (length (text_of e) ≤ most_bytes)
  pub passes : (s : List ℕ) (e : Tree) → reading s ≡ read e → Measurable e → expression_of function_count (bytes_of e) ≡ read e
  pub stopped : (s : List ℕ) (e : Tree) → reading s ≡ read e → (Measurable e → ⊥)
      → (p : ℕ) × AbstractAt e 0 p × (expression_of function_count (bytes_of e) ≡ refused_as 17 p)
  pub refused : (s : List ℕ) → ((e : Tree) → Spells s e → ⊥) → Refused s
  pub too_long : (s : List ℕ) → most_bytes < length s → reading s ≡ refused_as 15 most_bytes
  pub first_fault : (s : List ℕ) (n p : ℕ) → length s ≤ most_bytes → reading s ≡ refused_as n p → FirstFault s n p
