-- Rules with their indices: picked and tested as the rules are. Assumes nothing.
use mathlib.Core.Path.{◌≡◌, refl, sym, ap, ◌∙◌}
use mathlib.Core.Bool.{Bool}
use mathlib.Core.List.{List, [], ◌∷◌}
use Prim.Native.Nat.{ℕ, zero, suc, ◌+◌, ◌*◌, ◌/◌, ◌<◌}
use native.Mathlib.Nat.{add-zero, zero-add, add-suc, suc-add, le_of_suc-le-suc, not-suc-le-zero}
use lib.ListN.{length, get_or}
use Rattle.scalars.specs.Mask.{both, odd, digit, select, sift}
use Rattle.rules.specs.Signature.{Signature}
use Rattle.lists.specs.Entry.{Entry, number, keep}
use Rattle.scalars.proofs.Sifts.{select-sift}

pub number-length : (i : ℕ) (rs : List Signature) → length (number i rs) ≡ length rs
number-length i [] = refl
number-length i (r ∷ rs) = ap suc (number-length (suc i) rs)

number-from : (i : ℕ) (rs : List Signature) (n : ℕ) (e : Entry) (d : Signature) → n < length rs → get_or (number i rs) n e ≡ record { index = i + n; rule = get_or rs n d }
number-from i [] n e d h = absurd (not-suc-le-zero h)
number-from i (r ∷ rs) zero e d h = ap (λ (k : ℕ). record { index = k; rule = r }) (sym (add-zero i))
number-from i (r ∷ rs) (suc n) e d h =
    number-from (suc i) rs n e d (le_of_suc-le-suc h) ∙ ap (λ (k : ℕ). record { index = k; rule = get_or rs n d }) (suc-add i n ∙ sym (add-suc i n))

-- the rule at its own index
pub number_at : (rs : List Signature) (n : ℕ) (e : Entry) (d : Signature) → n < length rs → get_or (number 0 rs) n e ≡ record { index = n; rule = get_or rs n d }
number_at rs n e d h = number-from 0 rs n e d h ∙ ap (λ (k : ℕ). record { index = k; rule = get_or rs n d }) (zero-add n)

-- a test looks at the rule alone
sift-number : (p : Signature → Bool) (i : ℕ) (rs : List Signature) (m : ℕ) → sift (λ (x : Entry). p x.rule) (number i rs) m ≡ sift p rs m
unfolding sift
sift-number p i [] m = refl
sift-number p i (r ∷ rs) m = ap (λ (s : ℕ). s * 2 + digit (both (odd m) (p r))) (sift-number p (suc i) rs (m / 2))

pub select-keep : (p : Signature → Bool) (i : ℕ) (rs : List Signature) (m : ℕ) → select (number i rs) (sift p rs m) ≡ keep p (select (number i rs) m)
select-keep p i rs m =
    ap (select (number i rs)) (sym (sift-number p i rs m))
    ∙ select-sift (λ (x : Entry). p x.rule) (number i rs) m
