-- The readings of specs/TextReadings.antt hold. Assumes nothing.
use mathlib.Core.Path.{◌≡◌, refl}
use Rattle.names.specs.Names.{bytes, function_names, scalar_names, shape_names, shaped, shaped_all, type_names, type_name, function_name, words, measured_name, same, find, named}
use Rattle.text.specs.Tokens.{separates, gap, extent, token_at, next}
use Rattle.text.specs.Reading.{args_at, brackets_at, word_at, type_at, measured_at, run_node, node_at, reading_of}
use Rattle.text.specs.Writing.{text_with}
use Rattle.theorems.specs.TextReadings.{asked, paper, written, paper_text}

pub text-readings : asked ≡ paper
unfolding asked paper bytes function_names scalar_names shape_names shaped shaped_all type_names words measured_name same find named separates gap extent token_at next args_at brackets_at word_at type_at measured_at run_node node_at reading_of
text-readings = refl

pub text_writings : written ≡ paper_text
unfolding written paper_text bytes function_names scalar_names shape_names shaped shaped_all type_names type_name function_name measured_name text_with
text_writings = refl
