-- `is_separator` answers whether the definition has the byte in no run. Assumes nothing.
use Rattle.std.proofs.Common.{arith}
use Rattle.std.proofs.lemmas.Bool.Decides.{nat_tests}
use Rattle.text.specs.Tokens.{separates}
use Rattle.text.proofs.token.is_separator.Goals as goal

pub returns-then-byte-eq-CLOSE : goal.returns-then-byte-eq-CLOSE
unfolding separates
returns-then-byte-eq-CLOSE c = grind (arith, nat_tests)

pub returns-else-byte-eq-CLOSE : goal.returns-else-byte-eq-CLOSE
unfolding separates
returns-else-byte-eq-CLOSE c = grind (arith, nat_tests)
