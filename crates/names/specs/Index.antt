-- The index: from a run's key to the one word that the run can be.
use Rattle.std.specs.Prelude.{ℕ, suc, ◌+◌, ◌*◌, ◌/◌, ◌%◌, List, [], ◌∷◌, ◌++◌, length, get_or, replicate, set}
use Rattle.scalars.specs.Mask.{choose}
use Rattle.scalars.specs.Paper.{unused}
use Rattle.names.specs.Names.{Named, unknown, numbered, same, words}
use Rattle.names.specs.Spelling.{shift_count, slot_count, spelling_in}

abbrev pub key_count : ℕ
key_count = 16384

-- a number made of the run's bytes, from k on
unfoldable pub key_from : ℕ → List ℕ → ℕ
key_from k [] = k
key_from k (b ∷ s) = key_from ((k * 17 + b) % key_count) s

unfoldable pub key_of : List ℕ → ℕ
key_of run = key_from 0 run

-- a key's slot among the slots
unfoldable pub place_in : List ℕ → ℕ → ℕ
place_in index k = (k + get_or index (k / slot_count) 0) % slot_count

-- the word in a run's slot
unfoldable pub slot_in : List ℕ → List ℕ → ℕ
slot_in index run = get_or index (shift_count + place_in index (key_of run)) 0

-- what a run names in lent names with a lent index
unfoldable pub word_in : List ℕ → List ℕ → List ℕ → Named
word_in names index run =
    choose (same run (spelling_in names index (slot_in index run))) (numbered (slot_in index run)) unknown

-- the built-in index: these shifts give each word a slot of its own
unfoldable pub shifts : List ℕ
shifts =
    19 ∷ 5 ∷ 4 ∷ 27 ∷ 0 ∷ 5 ∷ 135 ∷ 2 ∷ 41 ∷ 0 ∷ 26 ∷ 76 ∷ 2 ∷ 68 ∷ 10 ∷ 1 ∷ 24 ∷ 6 ∷ 13 ∷ 0 ∷ 13 ∷ 19 ∷ 17 ∷ 11 ∷ 223 ∷ 0 ∷ 0 ∷ 25 ∷ 0 ∷
    20 ∷ 31 ∷ 12 ∷ 13 ∷ 0 ∷ 95 ∷ 1 ∷ 199 ∷ 2 ∷ 19 ∷ 1 ∷ 140 ∷ 0 ∷ 150 ∷ 31 ∷ 76 ∷ 4 ∷ 16 ∷ 51 ∷ 24 ∷ 8 ∷ 199 ∷ 13 ∷ 11 ∷ 3 ∷ 1 ∷ 13 ∷ 7 ∷
    3 ∷ 0 ∷ 0 ∷ 2 ∷ 3 ∷ 27 ∷ 7 ∷ []

-- the words from w on in their slots
unfoldable pub slotted : List (List ℕ) → ℕ → List ℕ → List ℕ
slotted [] w slots = slots
slotted (x ∷ xs) w slots = slotted xs (suc w) (set slots (place_in shifts (key_of x)) w)

-- where each word begins, from n on, and where all end, in two bytes each
unfoldable pub begins : List (List ℕ) → ℕ → List ℕ
begins [] n = (n % 256) ∷ (n / 256) ∷ []
begins (w ∷ ws) n = (n % 256) ∷ (n / 256) ∷ begins ws (n + length w + 1)

unfoldable pub built_in_index : List ℕ
built_in_index = shifts ++ slotted words 0 (replicate slot_count unused) ++ begins words 0
