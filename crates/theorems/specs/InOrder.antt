-- Operands in order: a known type, 0 to 180, a known mark, 0 or 1, and none measured and abstract; and the first that is not.
use Rattle.std.specs.Prelude.{◌≡◌, true, false, List, ℕ, ◌≤◌, ◌<◌, length, get_or}
use Rattle.types.specs.Domain.{last_code}
use Rattle.types.specs.Operand.{measured_mark, operand_of, measured_abstract}

-- an operand of this type and mark is in order
pub record Right (t m : ℕ) : Type 0 where
  pub known_type : t ≤ last_code
  pub known-mark : m ≤ measured_mark
  pub not_abstract : measured_abstract (operand_of t m) ≡ false

-- what is wrong with it, by the refusal's number: the type, then the mark, then that it is measured and abstract
pub data Wrong (t m : ℕ) : ℕ → Type 0 where
  unknown_type : last_code < t → Wrong t m 7
  unknown_mark : t ≤ last_code → measured_mark < m → Wrong t m 7
  measured_and_abstract : t ≤ last_code → m ≤ measured_mark → measured_abstract (operand_of t m) ≡ true → Wrong t m 17

-- as many types as marks, each in order
pub record AllRight (ts ms : List ℕ) : Type 0 where
  pub beside : length ts ≡ length ms
  pub right : (k : ℕ) → k < length ts → Right (get_or ts k 0) (get_or ms k 0)

-- the operand at this place is wrong, by this number, and each before it is in order
pub record FirstWrong (ts ms : List ℕ) (n i : ℕ) : Type 0 where
  pub beside : length ts ≡ length ms
  pub there : i < length ts
  pub wrong : Wrong (get_or ts i 0) (get_or ms i 0) n
  pub before : (k : ℕ) → k < i → Right (get_or ts k 0) (get_or ms k 0)
