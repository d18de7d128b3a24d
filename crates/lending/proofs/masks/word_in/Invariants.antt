-- The loop's invariant: the mask so far is that of the bytes from i on.
use mathlib.Core.Path.{◌≡◌}
use lib.ListN.{take, drop}
use Rattle.lending.specs.Masks.{mask_in}
use Rattle.lending.proofs.masks.word_in.Given as goal

abbrev pub invariant-loop-i : goal.invariant-loop-i
invariant-loop-i l = l.mask ≡ mask_in (drop l.i (take l.n l.bytes))
