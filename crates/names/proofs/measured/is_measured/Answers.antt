-- `is_measured` meets its contract: the run is compared with the word's own bytes. Assumes nothing.
use mathlib.Core.Path.{ap, ◌∙◌}
use Rattle.names.specs.Names.{same}
use Rattle.names.proofs.measured.is_measured.Goals as goal

pub returns : goal.returns
returns c = c.is_same.ensures ∙ ap (same _) c.measured_name.ensures
