-- `is_same` meets its contract. The loop's invariant: what is left decides. Assumes nothing.
use native.Mathlib.Omega.{arith}
use Rattle.names.proofs.SameBytes.{other_length, byte-differs, byte-agrees, none_left}
use Rattle.names.proofs.index.is_same.Goals as goal

pub returns-then-a-b : goal.returns-then-a-b
returns-then-a-b c = other_length _ _ c.if-a-b.true

pub returns-then-a-i : goal.returns-then-a-i
returns-then-a-i c = byte-differs _ _ _ c.if-a-b.false c.loop-i.invariant (omega arith) c.if-a-i.true

pub loop-i-preserved : goal.loop-i-preserved
loop-i-preserved c = byte-agrees _ _ _ c.if-a-b.false c.loop-i.invariant (omega arith) c.if-a-i.false

pub returns : goal.returns
returns c = none_left _ _ c.loop-i.i c.if-a-b.false c.loop-i.invariant (omega arith)
