-- The rules that bytes hold, one by one: an array that is filled with them from the front is the array of a List.
-- Assumes nothing.
use mathlib.Core.Path.{◌≡◌, refl, ap, ◌∙◌}
use mathlib.Core.List.{List, [], ◌∷◌, ◌++◌, append-nil}
use Prim.Native.Nat.{ℕ, ◌+◌, ◌-◌, ◌≤◌, ◌<◌}
use native.Mathlib.Omega.{arith}
use lib.ListN.{length, drop, replicate, length-map}
use lib.Seq.{sets}
use Rattle.scalars.specs.Mask.{up_to}
use Rattle.scalars.proofs.Bits.{up_to-length}
use Rattle.scalars.proofs.Fills.{filled}
use Rattle.rules.specs.Rule.{blank_rule}
use Rattle.rules.specs.declared.rule.Rule.{Rule}
use Rattle.functions.proofs.Runs.{numbered, next_at, past-at}
use Rattle.c_sets.specs.Sets.{byte_rule, byte_rules}

module _ (s : List ℕ) where
  pub rules-length : length (byte_rules s) ≡ 63
  unfolding byte_rules
  rules-length = length-map (up_to 63) (byte_rule s) ∙ up_to-length 63

  -- the k-th, then what is left
  pub rules-next : (k : ℕ) → k < 63 → drop k (byte_rules s) ≡ byte_rule s k ∷ drop (k + 1) (byte_rules s)
  unfolding byte_rules
  rules-next k h =
      next_at blank_rule (byte_rules s) k (omega (arith, rules-length))
      ∙ ap (λ (r : Rule). r ∷ drop (k + 1) (byte_rules s)) (numbered blank_rule (byte_rules s) (byte_rule s) 63 k refl h)

  pub rules-filled : sets (replicate 63 blank_rule) 0 (byte_rules s) ≡ byte_rules s
  rules-filled =
      filled 63 blank_rule (byte_rules s) (omega (arith, rules-length))
      ∙ ap (λ (n : ℕ). byte_rules s ++ replicate (63 - n) blank_rule) rules-length
      ∙ append-nil (byte_rules s)

  pub rules-past : (k : ℕ) → 63 ≤ k → drop k (byte_rules s) ≡ []
  rules-past k h = past-at blank_rule (byte_rules s) k (omega (arith, rules-length))
