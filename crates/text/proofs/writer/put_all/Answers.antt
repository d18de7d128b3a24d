-- `put_all` meets its contract: when no byte is left, the whole is stored. Assumes nothing.
use mathlib.Core.Path.{◌≡◌, refl, ap, ◌∙◌}
use Prim.Native.Nat.{◌+◌}
use native.Mathlib.Nat.{add-zero}
use native.Mathlib.Omega.{arith}
use lib.ListN.{get_or, drop, set, drop_of_length-le}
use lib.Seq.{sets}
use Rattle.scalars.proofs.Fills.{fill_step, fill_end}
use Rattle.expressions.proofs.Bytes.{head_at}
use Rattle.text.proofs.writer.put_all.Goals as goal

pub loop-i-init : goal.loop-i-init
loop-i-init c =
    let start = c.args in
    ap (λ j. sets start.strip.now j start.bytes.now) (add-zero start.at)

pub loop-i-preserved : goal.loop-i-preserved
loop-i-preserved c =
    let here = c.loop-i in
    let start = c.args in
    let bytes = start.bytes.now in
    let next : start.at + (here.i + 1) ≡ start.at + here.i + 1 = omega arith in
    ap (λ j. sets (set here.strip (start.at + here.i) (get_or bytes here.i 0)) j (drop (here.i + 1) bytes)) next
    ∙ fill_step here.strip (start.at + here.i) (head_at bytes here.i (here.i + 1) c.loop-i-test.true refl) here.invariant

pub returns-clause-written : goal.returns-clause-written
returns-clause-written c =
    let here = c.loop-i in
    fill_end here.strip (c.args.at + here.i) (drop_of_length-le c.args.bytes.now c.loop-i-test.false) here.invariant
