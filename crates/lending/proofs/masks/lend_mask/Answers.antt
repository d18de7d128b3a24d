-- `lend_mask` meets its contract: each byte written is the next of the mask's, and lent bytes that are too few keep theirs. Assumes nothing.
use lib.ListN.{length-set}
use Rattle.scalars.proofs.Fills.{fill_step, fill_end}
use Rattle.lending.proofs.ByteMasks.{write_next, write_end, too_short, in_front}
use Rattle.lending.proofs.masks.lend_mask.Goals as goal

pub returns-then-out-needed : goal.returns-then-out-needed
returns-then-out-needed c =
    let k = too_short _ _ c.bytes_for-needed.ensures _ c.if-out-needed.true in
    record { room = k.0; lent = k.1 }

pub loop-i-preserved : goal.loop-i-preserved
loop-i-preserved c = (
  simp length-set c.loop-i.invariant.0,
  fill_step _ _ (write_next _ _ _ c.loop-i-test.true) c.loop-i.invariant.1,
)

pub returns : goal.returns
returns c =
    let k =
    in_front _ _ c.bytes_for-needed.ensures _ _ c.if-out-needed.false
    (fill_end _ _ (write_end _ _ _ c.loop-i-test.false) c.loop-i.invariant.1) in
    record { room = k.0; lent = k.1 }
