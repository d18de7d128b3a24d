-- The paper's number, place and values for an answer about a rule, and for what a set lists; and what a refusal lists.
use Rattle.std.specs.Prelude.{List, [], ◌∷◌, ◌++◌, ℕ, replicate, Result}
use Rattle.scalars.specs.Paper.{Paper, answer_paper, unused}
use Rattle.scalars.specs.declared.refusal.Refusal.{Refusal}
use Rattle.rules.specs.declared.rule.Rule.{Rule}
use Rattle.rules.specs.declared.listing.Listing.{Listing}
use Rattle.rules.specs.declared.listing.AllowedArgs.{AllowedArgs}

-- a rule: four argument codes, their count, the result

abbrev pub rule_values : Rule → List ℕ
rule_values r = r.a0 ∷ r.a1 ∷ r.a2 ∷ r.a3 ∷ r.count ∷ r.result ∷ []

abbrev pub no_rule : List ℕ
no_rule = unused ∷ unused ∷ unused ∷ unused ∷ unused ∷ unused ∷ []

abbrev pub blank_rule : Rule
blank_rule = record { a0 = unused; a1 = unused; a2 = unused; a3 = unused; count = unused; result = unused }

abbrev pub rule_paper : Result Rule Refusal → Paper
rule_paper = answer_paper rule_values no_rule

-- a listing: how many rules, or types, and the 156 entries

unfoldable pub rules_values : List Rule → List ℕ
rules_values [] = []
rules_values (r ∷ rs) = rule_values r ++ rules_values rs

-- a Regular set of 13 constructors and 12 scalars has the longest listing
abbrev pub most_listed : ℕ
most_listed = 156

-- what a refusal lists
unfoldable pub no_listing : List ℕ
no_listing = unused ∷ rules_values (replicate most_listed blank_rule)

unfoldable pub no_types : List ℕ
no_types = unused ∷ replicate most_listed unused

abbrev pub listing_paper : Result Listing Refusal → Paper
listing_paper = answer_paper (λ l. l.count ∷ rules_values l.rules) no_listing

abbrev pub types_paper : Result AllowedArgs Refusal → Paper
types_paper = answer_paper (λ a. a.count ∷ a.codes) no_types
