-- 'Second pass': arguments before their call, left to right; each call by its function's listing, or the first fault with its place. A call is
-- measured if any operand is.
use Rattle.std.specs.Prelude.{Bool, List, [], ◌∷◌, ◌++◌, ℕ, get_or}
use Rattle.types.specs.Operand.{codes}
use Rattle.types.specs.declared.operand.Operand.{Operand}
use Rattle.rules.specs.Signature.{Signature}
use Rattle.calls.specs.Choice.{none_left, Choice, chosen, wrong_count, none_after, none_concrete, resolve_of}
use Rattle.expressions.specs.Tree.{Tree, Trees, leaf, call, none, more}
use Rattle.worksheet.specs.Places.{inside, behind, starts}
use Rattle.machine.specs.Line.{Line, leaf_line, call_lines}
use Rattle.machine.specs.Machine.{concluded}

-- the operand that an expression makes, or a call's operands, and their lines; or the first refusal, by its number and place
pub data Typed (A : Type 0) : Type 0 where
  typed : A → List Line → Typed A
  refused : ℕ → ℕ → Typed A

-- what follows what was typed; a refusal ends the pass
abbrev pub and_then : {A B : Type 0} → Typed A → (A → List Line → Typed B) → Typed B
and_then (typed x ls) next = next x ls
and_then (refused number place) next = refused number place

-- a wrong count (5) and an empty set (1) stand at the call's tag, an operand of a wrong shape (6) or number (16) at its first byte
abbrev pub conclude : ℕ → ℕ → List ℕ → List Operand → List Line → Choice → Typed Operand
conclude f at places os ls (chosen i r) = typed (concluded r os) (ls ++ call_lines f i (codes os) r)
conclude f at places os ls wrong_count = refused 5 at
conclude f at places os ls (none_after part k) = refused (none_left part) (get_or places k 0)
conclude f at places os ls none_concrete = refused 1 at

module _ (listing_of : ℕ → List Signature) (switch : Bool) where
  -- the expression whose first byte is at this offset, and expressions one behind the other
  unfoldable mutual
    pub type_of : Tree → ℕ → Typed Operand
    type_of (leaf l) at = typed l (leaf_line l ∷ [])
    type_of (call f es) at =
        and_then (type_all es (inside at)) (λ os ls. conclude f at (starts es (inside at)) os ls (resolve_of switch (listing_of f) os))

    pub type_all : Trees → ℕ → Typed (List Operand)
    type_all none at = typed [] []
    type_all (more e es) at =
        and_then (type_of e at) (λ o ls. and_then (type_all es (behind e at)) (λ os ls'. typed (o ∷ os) (ls ++ ls')))
