-- The paper's numbers determine each answer about a rule, and each listing: two answers with the same number, place and values are
-- equal. Assumes nothing.
use mathlib.Core.Path.{◌≡◌, refl, sym, ap, ◌∙◌}
use mathlib.Core.List.{List, [], ◌∷◌}
use Prim.Native.Nat.{ℕ}
use lib.ListN.{get_or, drop}
use Rattle.std.specs.Prelude.{Result}
use Rattle.scalars.specs.declared.refusal.Refusal.{Refusal}
use Rattle.scalars.proofs.Papers.{answer-one}
use Rattle.rules.specs.RulePaper.{rule_values, rule_paper, no_rule, rules_values, no_listing, no_types, listing_paper, types_paper}
use Rattle.rules.specs.declared.listing.Listing.{Listing}
use Rattle.rules.specs.declared.listing.AllowedArgs.{AllowedArgs}
use Rattle.rules.specs.declared.rule.Rule.{Rule}

-- the rule of its six values
abbrev pub rule_named : List ℕ → Rule
rule_named vs = record { a0 = get_or vs 0 0; a1 = get_or vs 1 0; a2 = get_or vs 2 0; a3 = get_or vs 3 0; count = get_or vs 4 0; result = get_or vs 5 0 }

pub rule-one : (a b : Result Rule Refusal) → rule_paper a ≡ rule_paper b → a ≡ b
rule-one = answer-one rule_values no_rule rule_named (λ r. refl)

-- ---- listings

-- the rules that these values name, six values to a rule
abbrev pub rules_named : List ℕ → List Rule
rules_named (a ∷ b ∷ c ∷ d ∷ n ∷ t ∷ vs) = record { a0 = a; a1 = b; a2 = c; a3 = d; count = n; result = t } ∷ rules_named vs
rules_named [] = []
rules_named (a ∷ []) = []
rules_named (a ∷ b ∷ []) = []
rules_named (a ∷ b ∷ c ∷ []) = []
rules_named (a ∷ b ∷ c ∷ d ∷ []) = []
rules_named (a ∷ b ∷ c ∷ d ∷ n ∷ []) = []

pub rules-back : (rs : List Rule) → rules_named (rules_values rs) ≡ rs
unfolding rules_values
rules-back [] = refl
rules-back (r ∷ rs) = ap (λ (ss : List Rule). r ∷ ss) (rules-back rs)

pub rules-one : (rs ss : List Rule) → rules_values rs ≡ rules_values ss → rs ≡ ss
rules-one rs ss e = sym (rules-back rs) ∙ ap rules_named e ∙ rules-back ss

pub listing-one : (a b : Result Listing Refusal) → listing_paper a ≡ listing_paper b → a ≡ b
listing-one =
    answer-one (λ l. l.count ∷ rules_values l.rules) no_listing (λ vs. record { count = get_or vs 0 0; rules = rules_named (drop 1 vs) })
    (λ l. ap (λ (rs : List Rule). record { count = l.count; rules = rs }) (rules-back l.rules))

pub types-one : (a b : Result AllowedArgs Refusal) → types_paper a ≡ types_paper b → a ≡ b
types-one = answer-one (λ a. a.count ∷ a.codes) no_types (λ vs. record { count = get_or vs 0 0; codes = drop 1 vs }) (λ a. refl)
