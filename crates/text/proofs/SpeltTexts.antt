-- The text of a known tree: in the built-in names with their index it is the tree's text, and it has fewer than 33 bytes for each node.
-- Assumes nothing.
use mathlib.Core.Path.{◌≡◌, refl, ap, ap₂}
use mathlib.Core.Bool.{Bool, true, false}
use mathlib.Core.List.{List, ◌∷◌, ◌++◌}
use Prim.Native.Nat.{ℕ, ◌+◌, ◌*◌, ◌≤◌, ◌<◌}
use native.Mathlib.Omega.{arith}
use borrow.Author.Tests.{leb-true}
use lib.Dec.{leb}
use lib.ListN.{length, length-append}
use Rattle.scalars.specs.Mask.{every}
use Rattle.functions.specs.Functions.{function_count}
use Rattle.names.specs.Names.{bytes, function_names, scalar_names, shape_names, shaped, shaped_all, type_names, type_count, type_name, function_name, words, measured_name}
use Rattle.names.specs.Spelling.{built_in_names}
use Rattle.names.specs.Index.{built_in_index}
use Rattle.names.proofs.Named.{each_type, each-function}
use Rattle.names.proofs.BuiltIn.{built_in_type_spelling, built_in_function-spelling}
use Rattle.expressions.specs.Tree.{Tree, Trees, leaf, call, none, more, nodes, nodes_all}
use Rattle.expressions.specs.Known.{Known, KnownAll}
use Rattle.text.specs.Tokens.{space_byte, open_byte, comma_byte}
use Rattle.text.specs.Writing.{leaf_text, text_with, inside_with, others_with, text_of}
use Rattle.text.specs.private.WriteStep.{type_in, function_in}

-- ---- the spelling

mutual
  unfolding text_with Known

  pub spelt-text : (e : Tree) → Known function_count e
      → text_with (type_in built_in_names built_in_index) (function_in built_in_names built_in_index) e ≡ text_of e
  spelt-text (leaf l) k = ap (leaf_text l.measured) (built_in_type_spelling l.code (omega arith))
  spelt-text (call f es) k = ap₂ (λ x y. x ++ open_byte ∷ y) (built_in_function-spelling f k.0) (spelt-inside es k.1)

  spelt-inside : (es : Trees) → KnownAll function_count es
      → inside_with (type_in built_in_names built_in_index) (function_in built_in_names built_in_index) es ≡ inside_with type_name function_name es
  spelt-inside none k = refl
  spelt-inside (more e es) k = ap₂ ◌++◌ (spelt-text e k.0) (spelt-others es k.1)

  spelt-others : (es : Trees) → KnownAll function_count es
      → others_with (type_in built_in_names built_in_index) (function_in built_in_names built_in_index) es ≡ others_with type_name function_name es
  spelt-others none k = refl
  spelt-others (more e es) k = ap₂ (λ x y. comma_byte ∷ space_byte ∷ x ++ y) (spelt-text e k.0) (spelt-others es k.1)

-- ---- the length

abbrev short? : List ℕ → Bool
short? x = leb (length x) 22

all_short : every short? words ≡ true
unfolding words type_names shaped_all shaped shape_names scalar_names function_names bytes
all_short = refl

short_type : (t : ℕ) → t < type_count → length (type_name t) ≤ 22
short_type t h = leb-true (length (type_name t)) 22 (each_type short? all_short t h)

short-function : (f : ℕ) → f < function_count → length (function_name f) ≤ 22
short-function f h = leb-true (length (function_name f)) 22 (each-function short? all_short f h)

-- `measured` and a space take nine
measured-long : length measured_name ≡ 8
unfolding measured_name bytes
measured-long = refl

short-leaf : (measured : Bool) (name : List ℕ) → length name ≤ 22 → length (leaf_text measured name) ≤ 31
short-leaf false name h = omega arith
short-leaf true name h = omega (arith, length-append measured_name (space_byte ∷ name), measured-long)

mutual
  unfolding text_with Known nodes

  pub text-short : (e : Tree) → Known function_count e → length (text_of e) + 2 ≤ 33 * nodes e
  text-short (leaf l) k = omega (arith, short-leaf l.measured (type_name l.code) (short_type l.code (omega arith)))
  text-short (call f es) k =
      omega
      (arith, short-function f k.0, inside-short es k.1, length-append (function_name f) (open_byte ∷ inside_with type_name function_name es))

  inside-short : (es : Trees) → KnownAll function_count es → length (inside_with type_name function_name es) ≤ 33 * nodes_all es + 1
  inside-short none k = omega arith
  inside-short (more e es) k =
      omega (arith, text-short e k.0, others-short es k.1, length-append (text_of e) (others_with type_name function_name es))

  others-short : (es : Trees) → KnownAll function_count es → length (others_with type_name function_name es) ≤ 33 * nodes_all es + 1
  others-short none k = omega arith
  others-short (more e es) k =
      omega (arith, text-short e k.0, others-short es k.1, length-append (text_of e) (others_with type_name function_name es))
