-- What demand 3 speaks of, said without the steps that find it out. An expression's own leaves and calls, and those of a worksheet
-- (`order`, `own_of`). An expression gives an operand and lines (`Gives`) when each call in it has a rule that takes its operands, and goes by
-- the first one. It is stuck (`Stuck`) when some call in it, whose arguments all give operands, has no rule for their number, types and
-- marks. Which rules take operands, and which of them is the first, Taking says; with the switch on, or for a measured operand, a rule with
-- an abstract argument takes none.
use Rattle.std.specs.Prelude.{Bool, List, [], ◌∷◌, ◌++◌, ℕ}
use Rattle.types.specs.Operand.{codes, any_measured, concrete_only}
use Rattle.types.specs.declared.operand.Operand.{Operand}
use Rattle.rules.specs.Signature.{Signature}
use Rattle.theorems.specs.Taking.{NoRule, Best}
use Rattle.expressions.specs.Tree.{Tree, Trees, leaf, call, none, more, count}
use Rattle.machine.specs.Line.{Line, leaf_line, conversion_line, call_line, call_lines}
use Rattle.machine.specs.Machine.{concluded}

-- an expression's own leaves and calls, arguments before their call, and those of a worksheet
pub data Node : Type 0 where
  leaf_node : Operand → Node
  call_node : ℕ → ℕ → Node

unfoldable mutual
  pub order : Tree → List Node
  order (leaf l) = leaf_node l ∷ []
  order (call f es) = order_all es ++ (call_node f (count es) ∷ [])

  pub order_all : Trees → List Node
  order_all none = []
  order_all (more e es) = order e ++ order_all es

unfoldable pub own_of : List Line → List Node
own_of [] = []
own_of (leaf_line l ∷ ls) = leaf_node l ∷ own_of ls
own_of (conversion_line d a ∷ ls) = own_of ls
own_of (call_line f i n ∷ ls) = call_node f n ∷ own_of ls

module _ (listing_of : ℕ → List Signature) (switch : Bool) where
  -- an expression gives an operand and lines: a leaf its own; a call the result of the first rule that takes its operands, measured if any
  -- of them is, with the operands' lines, their conversions where types differ, and its own line
  mutual
    pub data Gives : Tree → Operand → List Line → Type 0 where
      leaf_gives : {l : Operand} → Gives (leaf l) l (leaf_line l ∷ [])
      call_gives : {f i : ℕ} {es : Trees} {os : List Operand} {ls : List Line} {r : Signature} → GiveAll es os ls
          → Best (concrete_only switch (any_measured os)) (listing_of f) (codes os) i r → Gives (call f es) (concluded r os) (ls ++ call_lines f i (codes os) r)

    pub data GiveAll : Trees → List Operand → List Line → Type 0 where
      none_give : GiveAll none [] []
      more_give : {e : Tree} {es : Trees} {o : Operand} {os : List Operand} {ls ls' : List Line} → Gives e o ls → GiveAll es os ls'
          → GiveAll (more e es) (o ∷ os) (ls ++ ls')

  -- an expression is stuck: some call in it, whose arguments all give operands, has no rule for their number, types and marks
  mutual
    pub data Stuck : Tree → Type 0 where
      at_argument : {f : ℕ} {es : Trees} → StuckAmong es → Stuck (call f es)
      at_call : {f : ℕ} {es : Trees} {os : List Operand} {ls : List Line} → GiveAll es os ls
          → NoRule (concrete_only switch (any_measured os)) (listing_of f) (codes os) → Stuck (call f es)

    pub data StuckAmong : Trees → Type 0 where
      first_stuck : {e : Tree} {es : Trees} → Stuck e → StuckAmong (more e es)
      later_stuck : {e : Tree} {es : Trees} → StuckAmong es → StuckAmong (more e es)
