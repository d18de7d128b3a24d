-- Known types: the codes 0 to 180.
use Rattle.std.specs.Prelude.{ℕ, ◌≤◌, ◌<◌, List, length, get_or}
use Rattle.types.specs.Domain.{last_code}

abbrev pub AllKnown : List ℕ → Type 0
AllKnown ts = (k : ℕ) → k < length ts → get_or ts k 0 ≤ last_code

-- the code at this place is unknown, and each before it is known
pub record FirstUnknown (ts : List ℕ) (i : ℕ) : Type 0 where
  pub there : i < length ts
  pub unknown : last_code < get_or ts i 0
  pub before : (k : ℕ) → k < i → get_or ts k 0 ≤ last_code
