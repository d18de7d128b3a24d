-- Bytes in front of a lent buffer: 'An accepted worksheet fills the front of the buffer; the bytes behind it keep theirs', and refusal 10.
use Rattle.std.specs.Prelude.{List, [], ◌++◌, ℕ, ltb, length, drop}
use Rattle.scalars.specs.Mask.{choose}
use Rattle.scalars.specs.Paper.{Paper, accepted, refusal}

-- whether so many bytes fit a buffer of so many; if not, refusal 10 at the bytes needed
abbrev pub room_for : ℕ → ℕ → Paper
room_for needed have = choose (ltb have needed) (refusal 10 needed []) (accepted [])

-- a buffer with the bytes in front of it, where they fit; the buffer itself where they do not
unfoldable pub placed : List ℕ → List ℕ → List ℕ
placed bs buffer = choose (ltb (length buffer) (length bs)) buffer (bs ++ drop (length bs) buffer)
