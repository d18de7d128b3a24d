-- `combine_by` meets its contract: it reads an entry of the lent table.
-- Assumes nothing.
use native.Mathlib.Omega.{arith}
use Rattle.types.proofs.Combinations.{in_table, reads_nothing, reads-left, reads-right}
use Rattle.types.proofs.conversion.combine_by.Goals as goal

pub bounds-table-from : goal.bounds-table-from
bounds-table-from c = let (e, h, k) = c.requires in in_table _ _ _ _ e h k (omega arith)

pub returns-then-c : goal.returns-then-c
returns-then-c c = let (e, h, k) = c.requires in reads_nothing _ _ _ _ e h k (omega arith) c.if-c.true

pub returns-then-c-a : goal.returns-then-c-a
returns-then-c-a c = let (e, h, k) = c.requires in reads-left _ _ _ _ e h k (omega arith) c.if-c.false c.if-c-a.true

pub returns : goal.returns
returns c = let (e, h, k) = c.requires in reads-right _ _ _ _ e h k (omega arith) c.if-c.false c.if-c-a.false
