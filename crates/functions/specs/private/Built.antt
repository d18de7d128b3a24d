-- What a function's Regular set is. `regular_rule` of src/full_listing.rt finds a rule by its index in such a set.
use Rattle.std.specs.Prelude.{◌≡◌, true, ◌<◌}
use Rattle.regular.specs.Regular.{all_conclude}
use Rattle.regular.specs.private.Tested.{Known}
use Rattle.regular.specs.declared.regular.Regular.{Regular}

-- known, not without a scalar, and each rule has a conclusion, so that refusal 13 never arises
pub record Built (r : Regular) : Type 0 where
  pub known : Known r
  pub some : 0 < r.scalars.0
  pub concludes : all_conclude r ≡ true
