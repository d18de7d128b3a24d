-- A worksheet has fewer than twice as many lines as the expression has nodes, and four bytes for each line; so 508 bytes hold the
-- worksheet of any expression of at most 64 nodes.
-- Assumes nothing.
use mathlib.Core.Bool.{Bool}
use mathlib.Core.List.{List}
use Prim.Native.Nat.{ℕ, ◌+◌, ◌*◌, ◌≤◌}
use native.Mathlib.Omega.{arith}
use lib.ListN.{length, length-append}
use Rattle.types.specs.Operand.{codes}
use Rattle.types.specs.declared.operand.Operand.{Operand}
use Rattle.types.proofs.Operands.{codes-length}
use Rattle.rules.specs.Signature.{Signature}
use Rattle.expressions.specs.Tree.{Tree, Trees, leaf, call, none, more, nodes, nodes_all, most_nodes}
use Rattle.machine.specs.Line.{Line, encode}
use Rattle.worksheet.specs.private.Sheet.{enough_bytes}
use Rattle.worksheet.proofs.Room.{four-each, few-conversions}
use Rattle.theorems.specs.Meaning.{Gives, leaf_gives, call_gives, GiveAll, none_give, more_give}

module _ (listing_of : ℕ → List Signature) (switch : Bool) where
  mutual
    unfolding nodes

    few-lines : (e : Tree) {o : Operand} {ls : List Line} → Gives listing_of switch e o ls → length ls + 1 ≤ 2 * nodes e
    few-lines (leaf l) leaf_gives = omega arith
    few-lines (call f es) (call_gives {os = os} {r = r} g b) =
        let h = few-lines-all es g in simp length-append (omega (arith, few-conversions (codes os) r.arguments, codes-length os))

    pub few-lines-all : (es : Trees) {os : List Operand} {ls : List Line} → GiveAll listing_of switch es os ls
        → length ls + length os ≤ 2 * nodes_all es
    few-lines-all none none_give = omega arith
    few-lines-all (more e es) (more_give g h) =
        let a = few-lines e g in
        let b = few-lines-all es h in
        simp length-append (omega arith)

  pub enough : (e : Tree) {o : Operand} {ls : List Line} → nodes e ≤ most_nodes → Gives listing_of switch e o ls
      → length (encode ls) ≤ enough_bytes
  enough e {ls = ls} few g = omega (arith, four-each ls, few-lines e g)
