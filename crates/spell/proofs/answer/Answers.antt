-- The text's length, as `write_text` promises it, is at most that of the buffer that was lent.
use Rattle.std.proofs.Common.{length, arith}
use Rattle.text.proofs.Fits.{written-fits}
use Rattle.spell.proofs.answer.Goals as goal

pub slice_bounds-write_all-end : goal.slice_bounds-write_all-end
slice_bounds-write_all-end g c =
    omega (arith, written-fits c.args.input.now (length c.args.text.now) _ c.in-Ok.ensures.answer)
