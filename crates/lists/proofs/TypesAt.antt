-- The types that rules allow at an argument, one rule further. Assumes nothing.
use mathlib.Core.Path.{◌≡◌, sym, ap, ◌∙◌}
use mathlib.Core.Bool.{true, false}
use mathlib.Core.List.{List, [], ◌∷◌, map}
use Prim.Native.Nat.{ℕ, ◌≤◌, ◌<◌}
use lib.ListN.{length}
use borrow.Author.Tests.{lt-ltb, le-ltb}
use Rattle.scalars.specs.Mask.{every}
use Rattle.rules.specs.Signature.{Signature, type_at}
use Rattle.rules.specs.Listing.{accepted_types, no_types}
use Rattle.rules.proofs.Records.{has_at}
use Rattle.lists.specs.List.{allowed_of}
use Rattle.scalars.specs.Paper.{refusal}

module _ (i : ℕ) (rs : List Signature) {rest : List Signature} (left : every (has_at i) rest ≡ every (has_at i) rs) where
  pub lacks : {s : Signature} {ss : List Signature} → rest ≡ s ∷ ss → length s.arguments ≤ i → refusal 4 i no_types ≡ allowed_of i rs
  unfolding allowed_of
  lacks e h =
      let f : every (has_at i) rs ≡ false = sym left ∙ ap (every (has_at i)) e ∙ simp (le-ltb _ _ h) in
      rw f

  pub has : {s : Signature} {ss : List Signature} → rest ≡ s ∷ ss → i < length s.arguments → every (has_at i) ss ≡ every (has_at i) rs
  has e h = sym (ap (every (has_at i)) e ∙ simp (lt-ltb _ _ h)) ∙ left

  pub all_have : rest ≡ [] → accepted_types (map (type_at i) rs) ≡ allowed_of i rs
  unfolding allowed_of
  all_have e =
      let f : every (has_at i) rs ≡ true = sym left ∙ ap (every (has_at i)) e in
      rw f
