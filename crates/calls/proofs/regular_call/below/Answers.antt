-- `below` meets its contract: the ones of the mask below the bit are counted.
-- Assumes nothing.
use Rattle.calls.proofs.Positions.{rank-ones}
use Rattle.calls.proofs.regular_call.below.Goals as goal

pub returns : goal.returns
returns c = rank-ones 16 _ _ c.requires
