-- Places in an expression: the byte offsets at which a call's arguments begin.
use Rattle.std.specs.Prelude.{List, [], ◌∷◌, ℕ, ◌+◌, length}
use Rattle.expressions.specs.Tree.{Tree, Trees, none, more, bytes_of}

-- the first argument begins behind the call's tag, its function and the number of its arguments
abbrev pub inside : ℕ → ℕ
inside at = at + 3

-- each further one begins behind the one before it
abbrev pub behind : Tree → ℕ → ℕ
behind e at = at + length (bytes_of e)

unfoldable pub starts : Trees → ℕ → List ℕ
starts none at = []
starts (more e es) at = at ∷ starts es (behind e at)
