-- The listing of a Regular set in an array, rule by rule. Assumes nothing.
use mathlib.Core.Path.{◌≡◌, refl, sym, ap, ap₂, ◌∙◌}
use mathlib.Core.Bool.{Bool}
use mathlib.Core.List.{List, [], ◌∷◌, map}
use Prim.Native.Nat.{ℕ, ◌+◌, ◌-◌, ◌≤◌, ◌<◌}
use native.Mathlib.Omega.{arith}
use lib.ListN.{length, get_or, take, drop, set, replicate, length-map, length-set, length-replicate, get_or-append, drop_of_length-le}
use lib.Seq.{sets, get_or-take}
use Rattle.scalars.specs.Mask.{choose, both, every, padded}
use Rattle.rules.specs.Rule.{blank_rule, rule_of}
use Rattle.scalars.specs.Paper.{accepted, refusal, refused, unused}
use Rattle.scalars.specs.declared.refusal.Refusal.{Refusal}
use Rattle.rules.specs.RulePaper.{rule_values, no_rule, rules_values}
use Rattle.rules.specs.Listing.{most_listed, accepted_listing, no_listing}
use Rattle.types.specs.Domain.{constructor_part, scalar_part, other_type}
use Rattle.regular.specs.Regular.{codes_of, regular_rules, signature_for, all_conclude, rule_for, regular_rule}
use Rattle.regular.proofs.RegularRules.{concludes}
use Rattle.regular.specs.private.Tested.{Known, codes_found, concluded_listing}
use Rattle.rules.specs.declared.listing.AllowedArgs.{AllowedArgs}
use Rattle.regular.specs.declared.regular.Regular.{Regular}
use Rattle.rules.specs.declared.rule.Rule.{Rule}
use Rattle.regular.proofs.Regulars.{pairs-most, known_rule, accepted-known, empty-masks, empty-digit}
use Rattle.regular.proofs.Conclusions.{code_below, rule-refused, rule-concluded}
use Rattle.types.proofs.Codes.{from-here}
use Rattle.scalars.proofs.Fills.{filled, fill_step, fill_end}

pub codes-few : (r : Regular) → length (codes_of r) ≤ most_listed
unfolding codes_of
codes-few r = pairs-most r.constructors.0 r.scalars.0

pub found-few : (r : Regular) → (codes_found (codes_of r)).count ≤ most_listed
unfolding codes_found
found-few r = codes-few r

-- an array that holds the argument types
module _ (r : Regular) {found : AllowedArgs} (e : found ≡ codes_found (codes_of r)) where
  pub found-count : found.count ≡ length (codes_of r)
  unfolding codes_found
  found-count = ap (λ (f : AllowedArgs). f.count) e

  pub found-codes : found.codes ≡ padded most_listed unused (codes_of r)
  unfolding codes_found
  found-codes = ap (λ (f : AllowedArgs). f.codes) e

  found_at : (n k : ℕ) → n ≡ found.count → k < length (codes_of r) → get_or (take n found.codes) k 0 ≡ get_or (codes_of r) k 0
  found_at n k i h =
      get_or-take n found.codes k 0 (omega (arith, found-count)) ∙ ap (λ (a : List ℕ). get_or a k 0) found-codes
      ∙ get_or-append (codes_of r) (replicate (most_listed - length (codes_of r)) unused) 0 k h

  -- the rule of a type that the front of the array holds
  pub found-rule : Known r → (n k : ℕ) → n ≡ found.count → k < length (codes_of r)
      → regular_rule (constructor_part (get_or (take n found.codes) k 0)) (scalar_part (get_or (take n found.codes) k 0)) r ≡ rule_for r (get_or (codes_of r) k 0)
  found-rule known n k i h =
      ap (λ (t : ℕ). regular_rule (constructor_part t) (scalar_part t) r) (found_at n k i h)
      ∙ by_parts (get_or (codes_of r) k 0) (code_below r k h)
    where
      by_parts : (t : ℕ) → t < other_type → regular_rule (constructor_part t) (scalar_part t) r ≡ rule_for r t
      by_parts t l = known_rule r (constructor_part t) (scalar_part t) known (omega arith) (omega arith) ∙ ap (rule_for r) (omega arith)

twice : (r : Regular) (ts : List ℕ) → map (λ t. rule_of (signature_for r t)) ts ≡ map rule_of (map (signature_for r) ts)
twice r [] = refl
twice r (t ∷ ts) = ap (λ (rs : List Rule). rule_of (signature_for r t) ∷ rs) (twice r ts)

pub rules-count : (r : Regular) → length (regular_rules r) ≡ length (codes_of r)
unfolding regular_rules
rules-count r = length-map (codes_of r) (signature_for r)

-- the rules listed so far all have a conclusion, and with those that are left they are the whole listing
pub record Listed (r : Regular) (rules : List Rule) (k : ℕ) : Type 0 where
  pub few : k ≤ length (codes_of r)
  pub long : length rules ≡ most_listed
  pub concluded : every (concludes r) (drop k (codes_of r)) ≡ all_conclude r
  pub whole : sets rules k (map (λ t. rule_of (signature_for r t)) (drop k (codes_of r))) ≡ padded most_listed blank_rule (map rule_of (regular_rules r))

pub listed_start : (r : Regular) {a : List Rule} → a ≡ replicate most_listed blank_rule → Listed r a 0
unfolding all_conclude regular_rules
listed_start r {a} e = record {
  few = omega arith;
  long = ap length e ∙ length-replicate most_listed blank_rule;
  concluded = refl;
  whole =
      ap (λ (b : List Rule). sets b 0 (map (λ t. rule_of (signature_for r t)) (codes_of r))) e
      ∙ filled most_listed blank_rule (map (λ t. rule_of (signature_for r t)) (codes_of r)) (omega (arith, length-map (codes_of r) (λ t. rule_of (signature_for r t)), codes-few r))
      ∙ ap (padded most_listed blank_rule) (twice r (codes_of r));
}

-- the next rule, or its refusal
module _ (r : Regular) (rules : List Rule) (k : ℕ) (l : Listed r rules k) (h : k < length (codes_of r)) where
  abbrev t : ℕ
  t = get_or (codes_of r) k 0

  all_conclude_lem : {b : Bool} → concludes r t ≡ b → both b (every (concludes r) (drop (k + 1) (codes_of r))) ≡ all_conclude r
  all_conclude_lem c =
      sym (ap (every (concludes r)) (from-here (codes_of r) k h) ∙ ap (λ (b : Bool). both b (every (concludes r) (drop (k + 1) (codes_of r)))) c) ∙ l.concluded

  pub listed_next : {x : Rule} → rule_for r t ≡ accepted (rule_values x) → Listed r (set rules k x) (k + 1)
  listed_next {x} e =
      let c = rule-concluded r t x e in
      record {
        few = omega arith;
        long = simp length-set l.long;
        concluded = all_conclude_lem c.1;
        whole =
            ap (λ (y : Rule). sets (set rules k y) (k + 1) (map (λ t. rule_of (signature_for r t)) (drop (k + 1) (codes_of r)))) c.0
            ∙ fill_step rules k (ap (map (λ t. rule_of (signature_for r t))) (from-here (codes_of r) k h)) l.whole;
      }

  pub listed-stops : (why : Refusal) → rule_for r t ≡ refused why no_rule → refused why no_listing ≡ concluded_listing r
  unfolding concluded_listing
  listed-stops why e =
      let c = rule-refused r t (code_below r k h) why e in
      c.0 no_listing ∙ ap (λ (b : Bool). choose b (accepted_listing (regular_rules r)) (refusal 13 0 no_listing)) (all_conclude_lem c.1)

pub listed-end : (r : Regular) (rules : List Rule) (k n : ℕ) → Listed r rules k → length (codes_of r) ≤ k → n ≡ length (codes_of r) → accepted (n ∷ rules_values rules) ≡ concluded_listing r
unfolding concluded_listing accepted_listing
listed-end r rules k n l h e =
    let none : drop k (codes_of r) ≡ [] = drop_of_length-le (codes_of r) h in
    ap₂ (λ (m : ℕ) (b : List Rule). accepted (m ∷ rules_values b)) (e ∙ sym (rules-count r))
    (fill_end rules k (ap (map (λ t. rule_of (signature_for r t))) none) l.whole)
    ∙ ap (λ (b : Bool). choose b (accepted_listing (regular_rules r)) (refusal 13 0 no_listing)) (sym (ap (every (concludes r)) none) ∙ l.concluded)

-- what the check may use of a set
pub ruleset of_sets = (empty-masks, empty-digit, accepted-known, found-count, found-codes, found-few)
