-- The table of combinations, and a consensus on its way through the components.
use Rattle.std.specs.Prelude.{List, ℕ, ◌+◌, ◌/◌, ◌%◌, eqb}
use Rattle.scalars.specs.Mask.{choose}
use Rattle.scalars.specs.Domain.{scalar_count}
use Rattle.scalars.specs.Paper.{Paper}
use Rattle.scalars.proofs.Table.{tabulate}
use Rattle.types.specs.TypePaper.{left, by_base, by_component}
use Rattle.types.specs.Conversion.{combination, agree, first_of, with_giver}

-- how many ordered pairs of scalars there are
abbrev pub pair_count : ℕ
pair_count = 144

-- one result for each of them, a row for each left scalar
unfoldable pub combinations : List ℕ
combinations = tabulate (λ k. combination (k / scalar_count) (k % scalar_count)) pair_count 0

-- the consensus of the best so far and the components from index i on. If it is the best, whoever gave the best gave it; otherwise the
-- first of these components whose scalar it is did
unfoldable pub agree_from : ℕ → List ℕ → ℕ → List ℕ → Paper
agree_from best giver i ts = with_giver (λ s. choose (eqb best s) giver (by_component (i + first_of s ts))) (agree best i ts)

-- which component gave the best after component i: whichever gave it before, if the left side did
abbrev pub giver_after : ℕ → ℕ → ℕ → ℕ
giver_after giver by i = choose (eqb by left) giver i

-- a giver by its number among n components: behind the last stands the base
abbrev pub giver_in : ℕ → ℕ → List ℕ
giver_in n giver = choose (eqb giver n) by_base (by_component giver)
