-- The names end to end, each with a space behind it; the name of a word in lent names with a lent index.
use Rattle.std.specs.Prelude.{ℕ, ◌+◌, ◌*◌, ◌-◌, List, [], ◌∷◌, ◌++◌, length, get_or, take, drop, ltb, leb}
use Rattle.scalars.specs.Mask.{choose}
use Rattle.names.specs.Names.{words, word_count}

abbrev pub space : ℕ
space = 32

unfoldable pub joined : List (List ℕ) → List ℕ
joined [] = []
joined (w ∷ ws) = w ++ space ∷ joined ws

unfoldable pub built_in_names : List ℕ
built_in_names = joined words

-- where the starts of names stand in an index: behind its shifts and slots
abbrev pub shift_count : ℕ
shift_count = 64

abbrev pub slot_count : ℕ
slot_count = 256

abbrev pub starts_from : ℕ
starts_from = shift_count + slot_count

-- where a word's name begins, from two bytes, low byte first; 0 for what is no word's
unfoldable pub start_in : List ℕ → ℕ → ℕ
start_in index w =
    choose (leb w word_count) (get_or index (starts_from + 2 * w) 0 + 256 * get_or index (starts_from + 2 * w + 1) 0) 0

-- the bytes from a start to the space before the next one; none where they are not there
unfoldable pub between : List ℕ → ℕ → ℕ → List ℕ
between names start behind =
    choose (ltb start behind) (choose (leb behind (length names)) (take (behind - 1 - start) (drop start names)) []) []

-- the name of a word; of what is no word, empty
unfoldable pub spelling_in : List ℕ → List ℕ → ℕ → List ℕ
spelling_in names index w = choose (ltb w word_count) (between names (start_in index w) (start_in index (w + 1))) []
