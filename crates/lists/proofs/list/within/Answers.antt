-- `within` meets its contract: every mask of 64 bits is below the power of more than 63 bits. Assumes nothing.
use mathlib.Core.Path.{sym, ◌∙◌}
use native.Mathlib.Nat.{lt_of_lt_of_le}
use native.Mathlib.Omega.{arith}
use lib.Pow.{pow_mono}
use borrow.Author.Tests.{lt-ltb}
use Rattle.lists.proofs.list.within.Goals as goal

pub returns-then-n-gt-MOST_RULES : goal.returns-then-n-gt-MOST_RULES
returns-then-n-gt-MOST_RULES c =
    lt-ltb _ _ c.if-n-gt-MOST_RULES.true ∙ sym (lt-ltb _ _ (lt_of_lt_of_le (omega arith) (pow_mono c.if-n-gt-MOST_RULES.true)))
