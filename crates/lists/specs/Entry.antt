-- Rules with their indices in a listing.
use Rattle.std.specs.Prelude.{Bool, List, [], ◌∷◌, ℕ, suc}
use Rattle.scalars.specs.Mask.{filter}
use Rattle.rules.specs.Signature.{Signature}

-- a rule with its index
pub record Entry : Type 0 where
  pub index : ℕ
  pub rule : Signature

abbrev pub number : ℕ → List Signature → List Entry
number i [] = []
number i (r ∷ rs) = record { index = i; rule = r } ∷ number (suc i) rs

-- the rules that pass a test, with their indices, in order
abbrev pub keep : (Signature → Bool) → List Entry → List Entry
keep p xs = filter (λ (x : Entry). p x.rule) xs
