-- What the methods of src/stack.rt answer. A stack there is an array of operands with a count: the operands are its front, the
-- topmost last, and a line leaves other operands on it or stops.
use Rattle.std.specs.Prelude.{Bool, not, List, reverse, ℕ, ◌-◌, leb, take, drop, Some, None}
use Rattle.std.specs.declared.option.Option as answer
use Rattle.std.proofs.Math.Option.{Option, none, some}
use Rattle.scalars.specs.Paper.{Paper}
use Rattle.types.specs.Operand.{measured_abstract}
use Rattle.types.specs.declared.operand.Operand.{Operand}
use Rattle.rules.specs.Rule.{arguments_of}
use Rattle.rules.specs.declared.rule.Rule.{Rule}
use Rattle.machine.specs.declared.stack.Stack.{Stack}
use Rattle.expressions.specs.Tree.{last_leaf}
use Rattle.machine.specs.Line.{only_if}
use Rattle.machine.specs.Machine.{ended, same}
use Rattle.machine.specs.private.TopLast.{push_last}
use Rattle.machine.specs.Run.{ran_of}

-- the operands on a stack, the topmost last
abbrev pub operands_on : Stack → List Operand
operands_on k = take k.top k.operands

-- the operands that a line left on the stack, or that it stopped
abbrev pub left : answer.Option Unit → Stack → Option (List Operand)
left (Some done) k = some (operands_on k)
left None k = none

-- a leaf's line, behind the test of its mark and its spare byte
abbrev pub leaf_done : Operand → List Operand → Option (List Operand)
leaf_done o s = only_if (leb o.code last_leaf) (only_if (not (measured_abstract o)) (push_last o s))

-- the end of a run with this stack, whose top is last
abbrev pub ran_last : List Operand → Paper
ran_last s = ran_of (ended (reverse s))

-- the topmost operands are exactly of the rule's types, from argument i on
abbrev pub alike_from : ℕ → Stack → Rule → Bool
alike_from i k q = same (drop i (drop (k.top - q.count) (operands_on k))) (drop i (arguments_of q))
