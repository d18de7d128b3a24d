-- Document 02, (i): 'A token is `(`, `)`, `,` or a longest run of other bytes but space; spaces may stand between tokens'.
use Rattle.std.specs.Prelude.{ℕ, suc, ◌+◌, Bool, List, [], ◌∷◌, length, get_or, drop, leb, eqb}
use Rattle.scalars.specs.Mask.{choose, either}
use Rattle.text.specs.declared.token.Token.{Token}
use Rattle.text.specs.declared.token.Token.TheVariants.{Open, Close, Comma, Run, End}

abbrev pub space_byte : ℕ
space_byte = 32

abbrev pub open_byte : ℕ
open_byte = 40

abbrev pub close_byte : ℕ
close_byte = 41

abbrev pub comma_byte : ℕ
comma_byte = 44

-- a byte that no run has
unfoldable pub separates : ℕ → Bool
separates b = either (eqb b space_byte) (either (eqb b open_byte) (either (eqb b close_byte) (eqb b comma_byte)))

-- the spaces in front
unfoldable pub gap : List ℕ → ℕ
gap [] = 0
gap (b ∷ s) = choose (eqb b space_byte) (suc (gap s)) 0

-- the bytes of the longest run in front
unfoldable pub extent : List ℕ → ℕ
extent [] = 0
extent (b ∷ s) = choose (separates b) 0 (suc (extent s))

-- the token at an offset that has no space; the end has none
unfoldable pub token_at : List ℕ → ℕ → Token
token_at s p =
    choose (leb (length s) p) (End p)
    (choose (eqb (get_or s p 0) open_byte) (Open p)
    (choose (eqb (get_or s p 0) close_byte) (Close p)
    (choose (eqb (get_or s p 0) comma_byte) (Comma p)
    (Run p (p + extent (drop p s))))))

-- the first token from an offset on
unfoldable pub next : List ℕ → ℕ → Token
next s at = token_at s (at + gap (drop at s))

-- where a token stands
abbrev pub place : Token → ℕ
place (Open p) = p
place (Close p) = p
place (Comma p) = p
place (Run p e) = p
place (End p) = p
