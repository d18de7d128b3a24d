-- How many bytes the sheet has room for.
use Rattle.std.specs.Prelude.{ℕ}

-- 'a 508-byte buffer, which always suffices': the size of the sheet
abbrev pub enough_bytes : ℕ
enough_bytes = 508
