-- `mask_in` meets its contract: its tests are those that `mask_read` makes. Assumes nothing.
use Rattle.lending.proofs.ByteMasks.{read_short, read-stray, read-mask}
use Rattle.lending.proofs.masks.mask_in.Goals as goal

pub returns-then-bytes-needed : goal.returns-then-bytes-needed
returns-then-bytes-needed c = read_short _ _ c.bytes_for-needed.ensures c.if-bytes-needed.true

pub returns-then-stray : goal.returns-then-stray
returns-then-stray c =
    read-stray _ _ c.bytes_for-needed.ensures c.if-bytes-needed.false c.stray.ensures c.if-stray.true

pub returns : goal.returns
returns c =
    read-mask _ _ c.bytes_for-needed.ensures c.if-bytes-needed.false c.stray.ensures c.if-stray.false
    c.min.result c.min.ensures c.word_in.ensures
