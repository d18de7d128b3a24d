-- Every name is a run, and so is `measured`: it has a byte, and none that separates. Assumes nothing.
use mathlib.Core.Path.{◌≡◌, refl}
use mathlib.Core.Bool.{Bool, true, false}
use mathlib.Core.List.{List}
use Prim.Native.Nat.{ℕ, ◌<◌}
use borrow.Author.Tests.{ltb-true}
use lib.ListN.{length}
use lib.Dec.{ltb}
use Rattle.scalars.specs.Mask.{both, every}
use Rattle.functions.specs.Functions.{function_count}
use Rattle.names.specs.Names.{bytes, function_names, scalar_names, shape_names, shaped, shaped_all, type_names, type_count, type_name, function_name, words, measured_name}
use Rattle.names.proofs.Named.{each_type, each-function}
use Rattle.text.specs.Tokens.{separates}
use Rattle.theorems.proofs.TextTokens.{clash, clean}

abbrev run? : List ℕ → Bool
run? w = both (ltb 0 (length w)) (clean w)

all_runs : every run? words ≡ true
unfolding separates words type_names shaped_all shaped shape_names scalar_names function_names bytes
all_runs = refl

pub record Word (w : List ℕ) : Type 0 where
  pub some : 0 < length w
  pub clean_is : clean w ≡ true

word_of : (w : List ℕ) → run? w ≡ true → Word w
word_of w h = go (ltb 0 (length w)) (clean w) refl refl h
  where
    go : (a b : Bool) → ltb 0 (length w) ≡ a → clean w ≡ b → both a b ≡ true → Word w
    go false b p q x = clash x
    go true false p q x = clash x
    go true true p q x = record { some = ltb-true 0 (length w) p; clean_is = q }

pub type_word : (t : ℕ) → t < type_count → Word (type_name t)
type_word t h = word_of (type_name t) (each_type run? all_runs t h)

pub function-word : (f : ℕ) → f < function_count → Word (function_name f)
function-word f h = word_of (function_name f) (each-function run? all_runs f h)

measured-run : run? measured_name ≡ true
unfolding separates measured_name bytes
measured-run = refl

pub measured-word : Word measured_name
measured-word = word_of measured_name measured-run
