-- A Regular set that was tested; and its argument types in an array, as its loops fill it.
use Rattle.std.specs.Prelude.{◌≡◌, List, ℕ, ◌+◌, ◌^◌, ◌≤◌, ◌<◌, length, get_or}
use Rattle.std.proofs.lemmas.List.Edits.{sets}
use Rattle.scalars.specs.Mask.{choose, bits, padded}
use Rattle.scalars.specs.Paper.{Paper, refusal, when_accepted, unused}
use Rattle.types.specs.Constructor.{inner_of}
use Rattle.rules.specs.Rule.{most_arguments, predeclared_of}
use Rattle.rules.specs.RulePaper.{no_rule}
use Rattle.rules.specs.Listing.{most_listed, accepted_listing, no_listing}
use Rattle.regular.specs.Regular.{regular_rules, all_conclude, rule_for}
use Rattle.regular.specs.declared.regular.ConclusionRule.{ConclusionRule}
use Rattle.regular.specs.declared.regular.ConclusionRule.TheVariants as conclusion
use Rattle.rules.specs.declared.rule.Predeclared.TheVariants as predeclared
use Rattle.types.specs.declared.constructor_set.ConstructorSize.{ConstructorSize}
use Rattle.types.specs.declared.constructor_set.ConstructorSize.TheVariants as size
use Rattle.regular.specs.declared.regular.Regular.{Regular}
use Rattle.rules.specs.declared.listing.AllowedArgs.{AllowedArgs}
use Rattle.scalars.specs.Domain.{scalar_count, i32, u32, f32}
use Rattle.types.specs.Domain.{constructor_count, bi, quad}

-- no unknown bit, and no more than four arguments
pub record Known (r : Regular) : Type 0 where
  pub constructors : r.constructors.0 < 2 ^ constructor_count
  pub scalars : r.scalars.0 < 2 ^ scalar_count
  pub arity : r.arity ≤ most_arguments

-- the result of a rule whose arguments have this size and scalar
unfoldable pub concluded_for : ConclusionRule → ConstructorSize → ℕ → Paper
concluded_for conclusion.ArgumentType z s = inner_of z s
concluded_for conclusion.Scalar z s = inner_of size.Scalar s
concluded_for conclusion.Frexp z s = predeclared_of predeclared.Frexp z s
concluded_for conclusion.Modf z s = predeclared_of predeclared.Modf z s
concluded_for conclusion.U32 z s = inner_of size.Scalar u32
concluded_for conclusion.I32 z s = inner_of size.Scalar i32
concluded_for conclusion.Vec2F z s = inner_of (size.Vector bi) f32
concluded_for conclusion.Vec4F z s = inner_of (size.Vector quad) f32
concluded_for conclusion.Vec4I z s = inner_of (size.Vector quad) i32
concluded_for conclusion.Vec4U z s = inner_of (size.Vector quad) u32

-- the rule of the type of this size and scalar
unfoldable pub sized_rule : Regular → ConstructorSize → ℕ → Paper
sized_rule r z s = when_accepted (inner_of z s) (λ vs. rule_for r (get_or vs 0 unused)) no_rule

-- all rules of such a set; where one has no conclusion, refusal 13
unfoldable pub concluded_listing : Regular → Paper
concluded_listing r = choose (all_conclude r) (accepted_listing (regular_rules r)) (refusal 13 0 no_listing)

-- the argument types in an array
unfoldable pub codes_found : List ℕ → AllowedArgs
codes_found ts = record { codes = padded most_listed unused ts; count = length ts }

-- types put behind those that an array holds
unfoldable pub put : AllowedArgs → List ℕ → AllowedArgs
put found ts = record { codes = sets found.codes found.count ts; count = found.count + length ts }

pub record RowFits (found : AllowedArgs) (constructor scalars : ℕ) : Type 0 where
  pub known : constructor < constructor_count
  pub masked : scalars < 2 ^ scalar_count
  pub room : found.count + length (bits scalar_count scalars) ≤ most_listed
  pub long : length found.codes ≡ most_listed
