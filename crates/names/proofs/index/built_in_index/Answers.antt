-- `built_in_index` meets its contract: its bytes are the index that the definition makes of the words. Assumes nothing.
use mathlib.Core.Path.{refl}
use Rattle.names.specs.Names.{bytes, function_names, scalar_names, shape_names, shaped, shaped_all, type_names, words}
use Rattle.names.specs.Index.{key_from, key_of, place_in, shifts, slotted, begins, built_in_index}
use Rattle.names.proofs.index.built_in_index.Goals as goal

pub returns : goal.returns
unfolding built_in_index shifts slotted place_in key_of key_from begins words type_names shaped_all shaped shape_names scalar_names function_names bytes
returns c = refl
