-- 'Expressions': trees in which every type code and function is known.
use Rattle.std.specs.Prelude.{ℕ, ◌≤◌, ◌<◌}
use Rattle.expressions.specs.Tree.{Tree, Trees, leaf, call, none, more, last_leaf}

-- with so many functions; any number of arguments is known
unfoldable mutual
  pub Known : ℕ → Tree → Type 0
  Known functions (leaf l) = l.code ≤ last_leaf
  Known functions (call f es) = (f < functions) × KnownAll functions es

  pub KnownAll : ℕ → Trees → Type 0
  KnownAll functions none = Unit
  KnownAll functions (more e es) = Known functions e × KnownAll functions es
