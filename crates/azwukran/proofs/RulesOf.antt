-- How many rules a function has, by what `rule_total` answers. Assumes nothing.
use mathlib.Core.Path.{◌≡◌, refl, sym, ap}
use mathlib.Core.Bool.{Bool, true, false}
use mathlib.Core.List.{List, [], ◌∷◌}
use Prim.Native.Nat.{ℕ}
use native.Mathlib.Omega.{arith}
use lib.Dec.{ltb}
use lib.ListN.{length}
use borrow.Author.Tests.{ltb-false}
use Rattle.scalars.specs.Mask.{choose}
use Rattle.scalars.specs.Paper.{accepted, refusal}
use Rattle.functions.specs.Functions.{function_count, listing_of}
use Rattle.functions.specs.RuleTotal.{rule_total}
use Rattle.functions.proofs.Database.{unknown-none}

-- an unknown function has no rules
pub no_total : (f n p : ℕ) (vs : List ℕ) → refusal n p vs ≡ rule_total f → 0 ≡ length (listing_of f)
unfolding rule_total
no_total f n p vs e = go (ltb f function_count) refl (sym e)
  where
    go : (b : Bool) → ltb f function_count ≡ b → choose b (accepted (length (listing_of f) ∷ [])) (refusal 7 0 (255 ∷ [])) ≡ refusal n p vs → 0 ≡ length (listing_of f)
    go true h g = let z : ◌≡◌ {A = ℕ} 0 1 = cc in absurd (omega arith)
    go false h g = sym (ap length (unknown-none f (ltb-false f function_count h)))

pub total_is : (f n : ℕ) → accepted (n ∷ []) ≡ rule_total f → n ≡ length (listing_of f)
unfolding rule_total
total_is f n e = go (ltb f function_count) (sym e)
  where
    go : (b : Bool) → choose b (accepted (length (listing_of f) ∷ [])) (refusal 7 0 (255 ∷ [])) ≡ accepted (n ∷ []) → n ≡ length (listing_of f)
    go true g = cc
    go false g = let z : ◌≡◌ {A = ℕ} 0 1 = cc in absurd (omega arith)
