-- In the built-in names with their index each word stands in its own slot and is its own spelling, so that a run names there what it
-- names. Assumes nothing.
use mathlib.Core.Path.{◌≡◌, refl, sym, ap, ◌∙◌}
use mathlib.Core.Bool.{Bool, true, false}
use mathlib.Core.List.{List, []}
use Prim.Native.Nat.{ℕ, ◌+◌, ◌≤◌, ◌<◌}
use native.Mathlib.Omega.{arith}
use borrow.Author.Tests.{ltb-true, ltb-false, eqb-true}
use lib.Dec.{eqb, ltb}
use lib.ListN.{get_or}
use Rattle.scalars.specs.Mask.{choose, every, up_to}
use Rattle.functions.specs.Functions.{function_count}
use Rattle.names.specs.Names.{bytes, function_names, scalar_names, shape_names, shaped, shaped_all, type_names, type_count, type_name, function_name, words, word_count, same, find, unknown, numbered, named}
use Rattle.names.specs.Spelling.{joined, built_in_names, start_in, between, spelling_in}
use Rattle.names.specs.Index.{key_from, key_of, place_in, slot_in, word_in, shifts, slotted, begins, built_in_index}
use Rattle.names.proofs.SameBytes.{same-is, same_self}
use Rattle.names.proofs.Tests.{at-number}
use Rattle.names.proofs.Named.{type_word, function-word, own-number, found-is, number-none}

abbrev spelled? : ℕ → Bool
spelled? w = same (spelling_in built_in_names built_in_index w) (get_or words w [])

all-spelled : every spelled? (up_to word_count) ≡ true
unfolding spelling_in between start_in built_in_names joined built_in_index shifts slotted place_in key_of key_from begins same words type_names shaped_all shaped shape_names scalar_names function_names bytes
all-spelled = refl

spelled : (w : ℕ) → w < word_count → spelling_in built_in_names built_in_index w ≡ get_or words w []
spelled w h = same-is (spelling_in built_in_names built_in_index w) (get_or words w []) (at-number spelled? word_count all-spelled w h)

abbrev slotted? : ℕ → Bool
slotted? w = eqb (slot_in built_in_index (get_or words w [])) w

all-slotted : every slotted? (up_to word_count) ≡ true
unfolding slot_in built_in_index shifts slotted place_in key_of key_from begins words type_names shaped_all shaped shape_names scalar_names function_names bytes
all-slotted = refl

own-slot : (w : ℕ) → w < word_count → slot_in built_in_index (get_or words w []) ≡ w
own-slot w h = eqb-true (slot_in built_in_index (get_or words w [])) w (at-number slotted? word_count all-slotted w h)

pub built_in_type_spelling : (t : ℕ) → t < type_count → spelling_in built_in_names built_in_index t ≡ type_name t
built_in_type_spelling t h = spelled t (omega arith) ∙ type_word t h

pub built_in_function-spelling : (f : ℕ) → f < function_count → spelling_in built_in_names built_in_index (type_count + f) ≡ function_name f
built_in_function-spelling f h = spelled (type_count + f) (omega arith) ∙ function-word f

-- ---- what a run names

module _ (run : List ℕ) where
  -- a run that is a word stands in the slot that it leads to
  known-run : find run words 0 < word_count → word_in built_in_names built_in_index run ≡ numbered (find run words 0)
  unfolding word_in
  known-run h =
      let w = find run words 0 in
      let is : run ≡ get_or words w [] = found-is run h in
      let slot : slot_in built_in_index run ≡ w = ap (slot_in built_in_index) is ∙ own-slot w h in
      let spelling : spelling_in built_in_names built_in_index w ≡ run = spelled w h ∙ sym is in
      ap (λ s. choose (same run (spelling_in built_in_names built_in_index s)) (numbered s) unknown) slot
      ∙ ap (λ b. choose (same run b) (numbered w) unknown) spelling
      ∙ ap (λ b. choose b (numbered w) unknown) (same_self run)

  -- a run that is no word is not the one in its slot
  unknown-run : word_count ≤ find run words 0 → word_in built_in_names built_in_index run ≡ unknown
  unfolding word_in
  unknown-run h = go (same run (spelling_in built_in_names built_in_index (slot_in built_in_index run))) refl
    where
      taken : (s : ℕ) → run ≡ spelling_in built_in_names built_in_index s → (b : Bool) → ltb s word_count ≡ b → numbered s ≡ unknown
      taken s e true k =
          let l = ltb-true s word_count k in
          let own : find run words 0 ≡ s = ap (λ r. find r words 0) (e ∙ spelled s l) ∙ own-number s l in
          absurd (omega arith)
      taken s e false k = number-none s (ltb-false s word_count k)

      go : (b : Bool) → same run (spelling_in built_in_names built_in_index (slot_in built_in_index run)) ≡ b
          → choose b (numbered (slot_in built_in_index run)) unknown ≡ unknown
      go true e =
          let s = slot_in built_in_index run in
          taken s (same-is run (spelling_in built_in_names built_in_index s) e) (ltb s word_count) refl
      go false e = refl

  pub built_in_word : word_in built_in_names built_in_index run ≡ named run
  unfolding named
  built_in_word = go (ltb (find run words 0) word_count) refl
    where
      go : (b : Bool) → ltb (find run words 0) word_count ≡ b → word_in built_in_names built_in_index run ≡ numbered (find run words 0)
      go true k = known-run (ltb-true (find run words 0) word_count k)
      go false k =
          let least = ltb-false (find run words 0) word_count k in
          unknown-run least ∙ sym (number-none (find run words 0) least)
