-- `built_in_names` meets its contract: its bytes are the words, each with a space behind it. Assumes nothing.
use mathlib.Core.Path.{refl}
use Rattle.names.specs.Names.{bytes, function_names, scalar_names, shape_names, shaped, shaped_all, type_names, words}
use Rattle.names.specs.Spelling.{joined, built_in_names}
use Rattle.names.proofs.names.built_in_names.Goals as goal

pub returns : goal.returns
unfolding built_in_names joined words type_names shaped_all shaped shape_names scalar_names function_names bytes
returns c = refl
