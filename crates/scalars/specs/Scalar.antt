-- Sets of scalars: the sets that the Rust names, what a scalar converts to as a set, and the preferred scalar, which is the lowest.
use Rattle.std.specs.Prelude.{Bool, not, List, [], ◌∷◌, ℕ, ◌/◌, ◌^◌, ltb}
use Rattle.scalars.specs.Mask.{choose, both, odd, filter, bits, mask_of}
use Rattle.scalars.specs.Paper.{Paper, accepted, refusal, unused}
use Rattle.scalars.specs.Domain.{scalars, abstract?, integer?, float?, numeric?, converts, concrete_integer?, concrete_float?, scalar_count}
use Rattle.scalars.specs.declared.scalar_set.NamedSets.{NamedSets}
use Rattle.scalars.specs.declared.scalar_set.ScalarSet.{ScalarSet}

-- the mask of the scalars that pass
abbrev pub scalars_that : (ℕ → Bool) → ℕ
scalars_that p = mask_of (filter p scalars)

-- the set of the one scalar, and of those that it converts to; of an unknown one, empty
unfoldable pub singleton_of : ℕ → ℕ
singleton_of k = choose (ltb k scalar_count) (2 ^ k) 0

unfoldable pub convertible_from : ℕ → ℕ
convertible_from k = choose (ltb k scalar_count) (scalars_that (converts k)) 0

-- a scalar is a member of a set
unfoldable pub member : ℕ → ℕ → Bool
member k m = both (ltb k scalar_count) (odd (m / 2 ^ k))

-- the first of a set's members; of none, refusal 1
abbrev pub first_scalar : List ℕ → Paper
first_scalar [] = refusal 1 0 (unused ∷ [])
first_scalar (k ∷ ks) = accepted (k ∷ [])

-- the lowest bit set; an unknown bit is refusal 7
unfoldable pub most_general : ℕ → Paper
most_general m = choose (ltb m (2 ^ scalar_count)) (first_scalar (bits scalar_count m)) (refusal 7 0 (unused ∷ []))

-- the sets that the Rust names
abbrev pub set_of : (ℕ → Bool) → ScalarSet
set_of p = record { 0 = scalars_that p }

unfoldable pub named_sets : NamedSets
named_sets = record {
  float = set_of float?;
  integer = set_of integer?;
  numeric = set_of numeric?;
  abstracts = set_of abstract?;
  concrete = set_of (λ k. not (abstract? k));
  concrete_integer = set_of concrete_integer?;
  concrete_float = set_of concrete_float?;
  float_abstract_unimplemented = set_of concrete_float?;
}
