-- `stray` meets its contract: a bit beyond the rules is one of the last byte. Assumes nothing.
use native.Mathlib.Omega.{arith}
use Prim.Native.Nat.{◌-◌, ◌*◌, ◌/◌}
use Rattle.scalars.proofs.Masks.{bit_is}
use Rattle.lending.specs.Masks.{bytes_for}
use Rattle.lending.proofs.ByteMasks.{no_stray, stray-last}
use Rattle.lending.proofs.masks.stray.Goals as goal

pub returns-then-rules-eq0 : goal.returns-then-rules-eq0
returns-then-rules-eq0 c = no_stray _ _ c.if-rules-eq0.true

pub bounds-bytes-last : goal.bounds-bytes-last
unfolding bytes_for
bounds-bytes-last c = omega arith

pub returns : goal.returns
returns c =
    rw (c.from.ensures, bit_is 16 (c.args.rules - (c.args.rules - 1) / 8 * 8) (omega arith))
    (stray-last c.args.bytes.now c.type_inv.bytes c.args.rules (omega arith) c.requires)
