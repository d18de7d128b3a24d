-- What a set lists: rules, or the types that they allow at an argument, behind a count; entries not in use hold `unused`.
use Rattle.std.specs.Prelude.{List, ◌∷◌, map, ℕ, length}
use Rattle.scalars.specs.Mask.{padded}
use Rattle.rules.specs.Signature.{Signature}
use Rattle.rules.specs.Rule.{rule_of}
use Rattle.scalars.specs.Paper.{Paper, accepted, unused}
use Rattle.rules.specs.RulePaper.{blank_rule, rules_values}
pub use Rattle.rules.specs.RulePaper.{most_listed, no_listing, no_types}

unfoldable pub accepted_listing : List Signature → Paper
accepted_listing rs = accepted (length rs ∷ rules_values (padded most_listed blank_rule (map rule_of rs)))

unfoldable pub accepted_types : List ℕ → Paper
accepted_types ts = accepted (length ts ∷ padded most_listed unused ts)
