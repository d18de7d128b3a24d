-- The leaf lines and call lines of a worksheet are the expression's own leaves and calls, in order.
-- Assumes nothing.
use mathlib.Core.Path.{◌≡◌, refl, ap, ◌∙◌}
use mathlib.Core.Bool.{Bool, true, false}
use mathlib.Core.List.{List, [], ◌∷◌, ◌++◌}
use Prim.Native.Nat.{ℕ, suc}
use lib.Dec.{eqb}
use lib.ListN.{length}
use Rattle.scalars.specs.Mask.{choose}
use Rattle.types.specs.Operand.{codes}
use Rattle.types.specs.declared.operand.Operand.{Operand}
use Rattle.types.proofs.Operands.{codes-length}
use Rattle.rules.specs.Signature.{Signature}
use Rattle.expressions.specs.Tree.{Tree, Trees, leaf, call, none, more, count}
use Rattle.machine.specs.Line.{Line, leaf_line, conversion_line, call_line, conversions, call_lines}
use Rattle.theorems.specs.Meaning.{Node, leaf_node, call_node, order, order_all, own_of, Gives, leaf_gives, call_gives, GiveAll, none_give, more_give}

own_append : (v w : List Line) → own_of (v ++ w) ≡ own_of v ++ own_of w
unfolding own_of
own_append [] w = refl
own_append (leaf_line l ∷ v) w = ap (λ (ns : List Node). leaf_node l ∷ ns) (own_append v w)
own_append (conversion_line d a ∷ v) w = own_append v w
own_append (call_line f i n ∷ v) w = ap (λ (ns : List Node). call_node f n ∷ ns) (own_append v w)

own-conversions : (ts az : List ℕ) → own_of (conversions ts az) ≡ []
unfolding own_of
own-conversions [] az = refl
own-conversions (t ∷ ts) [] = refl
own-conversions (t ∷ ts) (a ∷ az) = go (own-conversions ts az) (eqb t a)
  where
    go : own_of (conversions ts az) ≡ [] → (b : Bool) → own_of (choose b (conversions ts az) (conversion_line (length ts) a ∷ conversions ts az)) ≡ []
    go ih true = ih
    go ih false = ih

own-call : (f i : ℕ) (ls : List Line) (ts : List ℕ) (r : Signature)
    → own_of (ls ++ call_lines f i ts r) ≡ own_of ls ++ (call_node f (length ts) ∷ [])
unfolding own_of
own-call f i ls ts r = simp (own_append, own-conversions)

module _ (listing_of : ℕ → List Signature) (switch : Bool) where
  mutual
    unfolding order own_of count

    pub own : (e : Tree) {o : Operand} {ls : List Line} → Gives listing_of switch e o ls → own_of ls ≡ order e
    own (leaf l) leaf_gives = refl
    own (call f es) (call_gives {i = i} {os = os} {ls = ls} {r = r} g b) =
        own-call f i ls (codes os) r ∙ rw (codes-length os, (own-all es g).0, (own-all es g).1)

    own-all : (es : Trees) {os : List Operand} {ls : List Line} → GiveAll listing_of switch es os ls
        → (own_of ls ≡ order_all es) × (length os ≡ count es)
    own-all none none_give = (refl, refl)
    own-all (more e es) (more_give {ls = ls} {ls' = ls'} g h) =
        (own_append ls ls' ∙ rw (own e g, (own-all es h).0), ap suc (own-all es h).1)
