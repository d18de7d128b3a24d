-- `measured_name` meets its contract: its bytes are the word's. Assumes nothing.
use mathlib.Core.Path.{refl}
use Rattle.names.specs.Names.{bytes, measured_name}
use Rattle.names.proofs.measured.measured_name.Goals as goal

pub returns : goal.returns
unfolding measured_name bytes
returns c = refl
