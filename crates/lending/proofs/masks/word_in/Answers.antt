-- `word_in` meets its contract: no word is passed, as the bytes read are at most eight. Assumes nothing.
use mathlib.Core.Path.{refl}
use Prim.Native.Nat.{◌-◌}
use native.Mathlib.Omega.{arith}
use Rattle.lending.proofs.ByteMasks.{read_none, read_next, read_below}
use Rattle.lending.proofs.masks.word_in.Goals as goal

pub loop-i-init : goal.loop-i-init
loop-i-init c = read_none _ _ c.requires.1 refl

pub overflow_mul-mask : goal.overflow_mul-mask
overflow_mul-mask c =
    omega (
      arith,
      c.loop-i.invariant,
      read_below c.args.bytes.now c.args.n c.requires.1 c.type_inv.bytes c.loop-i.i c.requires.0 (omega arith) (omega arith),
    )

pub overflow_add-mask : goal.overflow_add-mask
overflow_add-mask c =
    omega (
      arith,
      c.loop-i.invariant,
      c.from.ensures,
      c.type_inv.bytes (c.loop-i.i - 1),
      read_below c.args.bytes.now c.args.n c.requires.1 c.type_inv.bytes c.loop-i.i c.requires.0 (omega arith) (omega arith),
    )

pub loop-i-preserved : goal.loop-i-preserved
loop-i-preserved c =
    rw (c.loop-i.invariant, c.from.ensures) (read_next c.args.bytes.now c.args.n c.requires.1 c.loop-i.i (omega arith) (omega arith))
