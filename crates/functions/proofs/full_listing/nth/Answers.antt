-- `nth` meets its contract: what passing over the first n bits of the walk gives, by its number. Assumes nothing.
use mathlib.Core.Path.{◌≡◌, ap, ap₂, ◌∙◌}
use Prim.Native.Nat.{ℕ}
use Rattle.std.specs.Prelude.{Option, Some, None, MatchOption, IsSomeAnd, slice_get}
use Rattle.std.specs.Option.{option_map}
use Rattle.scalars.specs.Mask.{bits, head_or}
use Rattle.scalars.specs.declared.one_bits_iter.BitNumber.{BitNumber}
use Rattle.scalars.specs.declared.one_bits_iter.OneBit.{OneBit}
use Rattle.functions.proofs.NthBits.{skipped}
use Rattle.functions.proofs.full_listing.nth.Goals as goal

numbered : (o : Option OneBit) (r : Option BitNumber) → MatchOption o (r ≡ None) (λ b. IsSomeAnd r (λ k. k.0 ≡ head_or 64 (bits 64 b.0)))
    → option_map (λ (k : BitNumber). k.0) r ≡ option_map (λ (b : OneBit). head_or 64 (bits 64 b.0)) o
numbered None r h = ap (option_map (λ (k : BitNumber). k.0)) h
numbered (Some b) None h = absurd h
numbered (Some b) (Some k) h = ap Some h

pub returns : goal.returns
returns c =
    numbered _ _ c.map.ensures.cases ∙ skipped _ _ _ _ c.nth.ensures.ran
    ∙ ap₂ (λ (m n : ℕ). slice_get (bits 64 m) n) c.from.ensures c.from-2.ensures
