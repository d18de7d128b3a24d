-- The loop's invariant: what is left of the operands and of the arguments is the same if and only if the whole is.
use mathlib.Core.Path.{◌≡◌}
use Rattle.machine.specs.private.MachineStack.{alike_from}
use Rattle.machine.proofs.stack.Stack.matches.Given as goal

abbrev pub invariant-loop-i : goal.invariant-loop-i
invariant-loop-i l = alike_from l.i l.self l.rule ≡ alike_from 0 l.self l.rule
