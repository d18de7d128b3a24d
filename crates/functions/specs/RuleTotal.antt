-- How many rules a function has.
use Rattle.std.specs.Prelude.{[], ◌∷◌, ℕ, ltb, length}
use Rattle.scalars.specs.Mask.{choose}
use Rattle.scalars.specs.Paper.{Paper, accepted, refusal, unused}
use Rattle.functions.specs.Functions.{function_count, listing_of}

-- the length of the full listing; of an unknown function, refusal 7 at place 0
unfoldable pub rule_total : ℕ → Paper
rule_total f = choose (ltb f function_count) (accepted (length (listing_of f) ∷ [])) (refusal 7 0 (unused ∷ []))
