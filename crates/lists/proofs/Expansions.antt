-- A List made of rules, in their order and all of them members, holds these rules and is valid, if none has more than four arguments; and
-- it is what a Regular set of at most 63 rules, each with a conclusion, expands to. Assumes nothing.
use mathlib.Core.Path.{◌≡◌, refl, ap, ap₂, ◌∙◌}
use mathlib.Core.Bool.{true}
use mathlib.Core.List as L
use mathlib.Core.List.{[], ◌∷◌, map}
use Prim.Native.Nat.{◌-◌, ◌^◌, ◌≤◌}
use native.Mathlib.Omega.{arith}
use lib.ListN.{length, replicate, length-map}
use lib.Pow.{pow_pos}
use lib.Seq.{take_at}
use borrow.Author.Tests.{le-leb, leb-true}
use Rattle.scalars.specs.Mask.{every, padded}
use Rattle.scalars.specs.Paper.{accepted}
use Rattle.rules.specs.Signature.{Signature}
use Rattle.rules.specs.Rule.{blank_rule, signature_of, rule_of}
use Rattle.regular.specs.Regular.{regular_verdict, regular_rules, all_conclude}
use Rattle.regular.specs.declared.regular.Regular.{Regular}
use Rattle.lists.specs.List.{most_rules, held, signatures, clean_list, accepted_list}
use Rattle.lists.specs.Expansion.{list_of, expanded}
use Rattle.lists.specs.private.Tested.{Valid}
use Rattle.rules.proofs.Records.{record_says, short?}
use Rattle.scalars.proofs.Filters.{both_left, both_right}

-- ---- what the List of these rules holds

says-each : (rs : L.List Signature) → every short? rs ≡ true → map signature_of (map rule_of rs) ≡ rs
says-each [] e = refl
says-each (s ∷ rs) e =
    ap₂ (λ (x : Signature) (xs : L.List Signature). x ∷ xs) (record_says s (leb-true _ _ (both_left (short? s) _ e))) (says-each rs (both_right (short? s) _ e))

pub held_of : (rs : L.List Signature) → held (list_of rs) ≡ map rule_of rs
unfolding list_of
held_of rs = take_at (map rule_of rs) (replicate (most_rules - length (map rule_of rs)) blank_rule) (length rs) (length-map rs rule_of)

module _ (rs : L.List Signature) (short : every short? rs ≡ true) where
  pub signatures_of : signatures (list_of rs) ≡ rs
  unfolding signatures
  signatures_of = ap (map signature_of) (held_of rs) ∙ says-each rs short

  module _ (few : length rs ≤ most_rules) where
    pub valid_of : Valid (list_of rs)
    unfolding list_of clean_list
    valid_of = record {
      few = few;
      within = omega (arith, pow_pos (length rs));
      clean = ap (λ (xs : L.List Signature). record { rules = padded most_rules blank_rule (map rule_of xs); len = length rs; members = 2 ^ length rs - 1 }) signatures_of;
    }

-- a Regular set of at most 63 rules, each with a conclusion, expands to the List of them
pub expands : (r : Regular) → regular_verdict r ≡ accepted [] → length (regular_rules r) ≤ most_rules → all_conclude r ≡ true
    → expanded r ≡ accepted_list (list_of (regular_rules r))
unfolding expanded
expands r known few concludes = simp (known, le-leb _ _ few, concludes)
