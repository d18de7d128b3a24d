-- 'Sets': the walk over set bits yields masks, lowest first; a set's members are listed by their numbers.
use Rattle.std.specs.Prelude.{List, [], ◌∷◌, ℕ, ◌^◌, ltb, length, replicate}
use Rattle.scalars.specs.Mask.{choose, bits, mask_of, padded}
use Rattle.scalars.specs.Paper.{Paper, accepted, refusal, unused}

-- the first bit's mask, and the mask of the others; at the end, done
abbrev pub step_of : List ℕ → Paper
step_of [] = accepted []
step_of (k ∷ ks) = accepted (2 ^ k ∷ mask_of ks ∷ [])

-- these members, and behind them the entries not in use
unfoldable pub listed : List ℕ → Paper
listed ks = accepted (length ks ∷ padded 16 unused ks)

-- the answer to an unknown bit
unfoldable pub unlisted : Paper
unlisted = refusal 7 0 (replicate 17 unused)

-- the members of a set of at most n
unfoldable pub members_within : ℕ → ℕ → Paper
members_within n m = choose (ltb m (2 ^ n)) (listed (bits n m)) unlisted
