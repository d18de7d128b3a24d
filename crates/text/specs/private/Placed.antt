-- What `next_token` of src/token.rt promises of the place of a token, besides which one it is.
use Rattle.std.specs.Prelude.{ℕ, ◌≤◌, ◌<◌, List, length}
use Rattle.text.specs.declared.token.Token.{Token}
use Rattle.text.specs.declared.token.Token.TheVariants.{Open, Close, Comma, Run, End}

-- from the offset on, and within the text
abbrev pub Placed : List ℕ → ℕ → Token → Type 0
Placed s at (Open p) = (at ≤ p) × (p < length s)
Placed s at (Close p) = (at ≤ p) × (p < length s)
Placed s at (Comma p) = (at ≤ p) × (p < length s)
Placed s at (Run p e) = (at ≤ p) × (p < e) × (e ≤ length s)
Placed s at (End p) = at ≤ p
