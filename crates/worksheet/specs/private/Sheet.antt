-- What the functions of src/sheet.rt promise: bytes behind those written so far.
use Rattle.std.specs.Prelude.{◌≡◌, List, ◌++◌, ℕ, ◌+◌, length, take}
use Rattle.worksheet.specs.declared.sheet.Sheet.{Sheet}
pub use Rattle.worksheet.specs.private.Room.{enough_bytes}

-- the bytes written so far
abbrev pub written : Sheet → List ℕ
written h = take h.len h.bytes

-- these bytes were written behind those of h
pub record Wrote (h : Sheet) (bs : List ℕ) (r : Sheet) : Type 0 where
  pub bytes_are : written r ≡ written h ++ bs
  pub len_is : r.len ≡ h.len + length bs
