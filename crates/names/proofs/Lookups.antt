-- The key of a run byte by byte, where a name begins and ends, and what a lookup answers. Assumes nothing.
use mathlib.Core.Path.{◌≡◌, refl, sym, ap, ap₂, ◌∙◌}
use mathlib.Core.Bool.{Bool, true, false}
use mathlib.Core.List.{List, [], ◌∷◌}
use Prim.Native.Nat.{ℕ, ◌+◌, ◌*◌, ◌-◌, ◌/◌, ◌%◌, ◌≤◌, ◌<◌}
use native.Mathlib.Omega.{arith}
use native.Mathlib.Numerals.{add-one}
use borrow.Author.Tests.{lt-ltb, le-ltb, le-leb, lt-leb}
use lib.ListN.{length, get_or, take, drop, drop_of_length-le}
use lib.Seq.{drop-cons}
use Rattle.scalars.specs.Mask.{choose}
use Rattle.scalars.specs.Paper.{Paper, accepted}
use Rattle.names.specs.Names.{word_count, same, unknown, numbered, named_paper}
use Rattle.names.specs.Spelling.{shift_count, slot_count, starts_from, start_in, between, spelling_in}
use Rattle.names.specs.Index.{key_count, key_from, key_of, place_in, slot_in, word_in}

-- ---- the key

below : (k : ℕ) (run : List ℕ) → k < key_count → key_from k run < key_count
unfolding key_from
below k [] h = h
below k (b ∷ run) h = below ((k * 17 + b) % key_count) run (omega arith)

pub key_below : (run : List ℕ) → key_of run < key_count
unfolding key_of
key_below run = below 0 run (omega arith)

module _ (run : List ℕ) (k i : ℕ) (rest : key_from k (drop i run) ≡ key_of run) where
  pub key_next : i < length run → key_from ((k * 17 + get_or run i 0) % key_count) (drop (i + 1) run) ≡ key_of run
  unfolding key_from
  key_next h = sym (rw (add-one, drop-cons run i 0)) ∙ rest

  pub key_end : length run ≤ i → k ≡ key_of run
  unfolding key_from
  key_end h = sym (ap (key_from k) (drop_of_length-le run h)) ∙ rest

pub key_start : (run : List ℕ) → key_from 0 run ≡ key_of run
unfolding key_of
key_start run = refl

pub slot_at : (index run : List ℕ) {k shift word : ℕ} → k ≡ key_of run → shift ≡ get_or index (k / slot_count) 0
    → word ≡ get_or index (shift_count + (k + shift) % slot_count) 0 → word ≡ slot_in index run
unfolding slot_in place_in
slot_at index run {k} {shift} {word} e f g =
    g
    ∙ ap (λ s. get_or index (shift_count + (k + s) % slot_count) 0) f
    ∙ ap (λ k. get_or index (shift_count + (k + get_or index (k / slot_count) 0) % slot_count) 0) e

-- ---- where a name begins

module _ (index : List ℕ) (w : ℕ) where
  pub start_none : word_count < w → 0 ≡ start_in index w
  unfolding start_in
  start_none h = rw (lt-leb w word_count h) refl

  pub start-bytes : {low high : ℕ} → w ≤ word_count → low ≡ get_or index (starts_from + 2 * w) 0 → high ≡ get_or index (starts_from + 2 * w + 1) 0
      → low + 256 * high ≡ start_in index w
  unfolding start_in
  start-bytes h l g = rw (le-leb w word_count h) (ap₂ (λ (a b : ℕ). a + 256 * b) l g)

-- ---- a name

module _ (names index : List ℕ) (w : ℕ) where
  pub no_word : word_count ≤ w → [] ≡ spelling_in names index w
  unfolding spelling_in
  no_word h = rw (le-ltb w word_count h) refl

  module _ {start behind : ℕ} (h : w < word_count) (s : start ≡ start_in index w) (b : behind ≡ start_in index (w + 1)) where
    part-is : between names start behind ≡ spelling_in names index w
    unfolding spelling_in
    part-is = rw (lt-ltb w word_count h) (ap₂ (between names) s b)

    pub part_reversed : behind ≤ start → [] ≡ spelling_in names index w
    unfolding between
    part_reversed k = sym (rw (le-ltb start behind k) refl) ∙ part-is

    pub part_outside : start < behind → length names < behind → [] ≡ spelling_in names index w
    unfolding between
    part_outside k l = sym (rw (lt-ltb start behind k, lt-leb behind (length names) l) refl) ∙ part-is

    pub part-inside : start < behind → behind ≤ length names → take (behind - 1 - start) (drop start names) ≡ spelling_in names index w
    unfolding between
    part-inside k l = sym (rw (lt-ltb start behind k, le-leb behind (length names) l) refl) ∙ part-is

-- ---- the lookup

module _ (names index run : List ℕ) {w : ℕ} {spelling : List ℕ} {is : Bool} (slot : w ≡ slot_in index run) (spelt : spelling ≡ spelling_in names index w) (test : is ≡ same run spelling) where
  looked : choose is (numbered w) unknown ≡ word_in names index run
  unfolding word_in
  looked =
      ap (λ b. choose b (numbered w) unknown) (test ∙ ap (same run) spelt)
      ∙ ap (λ v. choose (same run (spelling_in names index v)) (numbered v) unknown) slot

  pub word-there : {p : Paper} → is ≡ true → p ≡ named_paper (numbered w) → p ≡ named_paper (word_in names index run)
  word-there t e = e ∙ ap named_paper (ap (λ b. choose b (numbered w) unknown) (sym t) ∙ looked)

  pub word-not-there : is ≡ false → accepted [] ≡ named_paper (word_in names index run)
  word-not-there t = ap named_paper (ap (λ b. choose b (numbered w) unknown) (sym t) ∙ looked)
