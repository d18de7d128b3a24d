-- `lend_bytes` meets its contract: the front takes the bytes, and a buffer that is too short keeps its own. Assumes nothing.
use mathlib.Core.Path.{refl, sym, ap, ◌∙◌}
use mathlib.Core.List.{◌++◌}
use lib.ListN.{length, drop}
use Rattle.lending.proofs.Placed.{placed-short, placed-fits}
use Rattle.lending.proofs.bytes.lend_bytes.Goals as goal

pub returns-then-out-bytes-clause-lent : goal.returns-then-out-bytes-clause-lent
returns-then-out-bytes-clause-lent c = sym (placed-short _ _ c.if-out-bytes.true)

pub returns-clause-lent : goal.returns-clause-lent
returns-clause-lent c =
    let bytes = c.args.bytes.now in
    ap (λ l. l ++ drop (length bytes) c.args.out.now) c.copy_from_slice.ensures.after
    ∙ sym (placed-fits bytes c.args.out.now (length bytes) refl c.if-out-bytes.false)
