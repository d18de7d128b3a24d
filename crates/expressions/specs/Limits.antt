-- 'Expressions': which trees are within the limits, and which are well formed, said without reading them: the theorem on texts says that
-- exactly the former are read, those on the first pass and on the typer that exactly the latter are accepted.
use Rattle.std.specs.Prelude.{◌≡◌, false, ℕ, ◌+◌, ◌≤◌, max}
use Rattle.types.specs.Operand.{measured_abstract}
use Rattle.expressions.specs.Tree.{Tree, Trees, leaf, call, none, more, most_nodes, deepest, nodes}
use Rattle.expressions.specs.Known.{Known}

-- how many levels
unfoldable mutual
  pub levels : Tree → ℕ
  levels (leaf l) = 1
  levels (call f es) = 1 + levels_all es

  pub levels_all : Trees → ℕ
  levels_all none = 0
  levels_all (more e es) = max (levels e) (levels_all es)

-- the expressions within the limits
pub record Within (functions : ℕ) (e : Tree) : Type 0 where
  pub known : Known functions e
  pub few : nodes e ≤ most_nodes
  pub low : levels e ≤ deepest

-- document 02, (v): no measured leaf is abstract
unfoldable mutual
  pub Measurable : Tree → Type 0
  Measurable (leaf l) = measured_abstract l ≡ false
  Measurable (call f es) = MeasurableAll es

  pub MeasurableAll : Trees → Type 0
  MeasurableAll none = Unit
  MeasurableAll (more e es) = Measurable e × MeasurableAll es

-- the expressions within the limits, none of whose measured leaves is abstract
pub record WellFormed (functions : ℕ) (e : Tree) : Type 0 where
  pub within : Within functions e
  pub measurable : Measurable e
