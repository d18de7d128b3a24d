-- Constructor sets: the size of the one member, and that several are told apart by counting. Assumes nothing.
use mathlib.Core.Path.{◌≡◌, refl, sym, ap, ◌∙◌, subst⁻¹}
use mathlib.Core.Bool.{Bool, true, false}
use mathlib.Core.List.{List, [], ◌∷◌}
use Prim.Native.Nat.{ℕ, suc, ◌+◌, ◌-◌, ◌/◌, ◌%◌, ◌^◌, ◌≤◌, ◌<◌}
use native.Mathlib.Nat.{lt_of_lt_of_le}
use native.Mathlib.Omega.{arith}
use lib.Dec.{eqb, ltb, lit≤}
use lib.ListN.{length, get_or}
use borrow.Author.Tests.{lt-ltb, le-ltb, eqb-true, ne_eqb}
use Rattle.scalars.specs.Mask.{choose, bits, head_or, mask_of}
use Rattle.types.specs.Domain.{constructor_count}
use Rattle.types.specs.Constructor.{set_size, sizes, size_of_one}
use Rattle.scalars.specs.Paper.{accepted, refusal, unused}
use Rattle.scalars.proofs.Bits.{bits-within, bits-lowest, mask-bits}
use Rattle.scalars.proofs.Masks.{trailing_lt}
use Rattle.scalars.proofs.Table.{entry}

-- there is one member
abbrev pub is_one : List ℕ → Bool
is_one ks = eqb (length ks) 1

-- the size of one member, and of several
one_size : (ks : List ℕ) → is_one ks ≡ true → size_of_one ks ≡ accepted (get_or sizes (head_or 64 ks) [])
one_size [] e = let z : ◌≡◌ {A = ℕ} 0 1 = cc in absurd (omega arith)
one_size (k ∷ []) e = refl
one_size (k ∷ l ∷ ks) e = let z : suc (suc (length ks)) ≡ 1 = eqb-true _ _ e in absurd (omega arith)

several_size : (ks : List ℕ) → (ks ≡ [] → ⊥) → is_one ks ≡ false → size_of_one ks ≡ refusal 2 0 (unused ∷ unused ∷ unused ∷ [])
several_size [] n e = absurd (n refl)
several_size (k ∷ []) n e = let z : ◌≡◌ {A = ℕ} 0 1 = cc in absurd (omega arith)
several_size (k ∷ l ∷ ks) n e = refl

module _ (m : ℕ) (p : 0 < m) (h : m < 2 ^ constructor_count) where
  -- a wider word has the same members
  wider : (w : ℕ) → constructor_count ≤ w → bits w m ≡ bits constructor_count m
  wider w l = bits-within constructor_count w m l h

  size-of_list : set_size m ≡ size_of_one (bits constructor_count m)
  unfolding set_size
  size-of_list = simp (lt-ltb _ _ h)

  pub number-below : head_or 64 (bits 64 m) < constructor_count
  number-below = subst⁻¹ (λ (k : ℕ). k < constructor_count) (bits-lowest 64 m (lt_of_lt_of_le h (lit≤ tt))) (trailing_lt constructor_count 64 m (lit≤ tt) p h)

  pub size-one : is_one (bits 16 m) ≡ true → set_size m ≡ accepted (get_or sizes (head_or 64 (bits 64 m)) [])
  size-one e =
      size-of_list ∙ one_size (bits constructor_count m) (ap is_one (sym (wider 16 (lit≤ tt))) ∙ e)
      ∙ ap (λ (ks : List ℕ). accepted (get_or sizes (head_or 64 ks) [])) (sym (wider 64 (lit≤ tt)))

  pub size_several : is_one (bits 16 m) ≡ false → set_size m ≡ refusal 2 0 (unused ∷ unused ∷ unused ∷ [])
  size_several e =
      size-of_list
      ∙ several_size (bits constructor_count m) (λ n. let z : 0 ≡ m = ap mask_of (sym n) ∙ mask-bits constructor_count m h in absurd (omega arith)) (ap is_one (sym (wider 16 (lit≤ tt))) ∙ e)

-- the thirteen sizes by their numbers: VECn has n components, and after the vectors come three matrices for each number of columns
abbrev row : ℕ → List ℕ
row k = choose (eqb k 0) (0 ∷ unused ∷ unused ∷ []) (choose (ltb k 4) (1 ∷ (k - 1 + 2) ∷ unused ∷ []) (2 ∷ ((k - 4) / 3 + 2) ∷ ((k - 4) % 3 + 2) ∷ []))

size-row : (k : ℕ) → k < constructor_count → get_or sizes k [] ≡ row k
unfolding sizes
size-row k h = entry [] row constructor_count k h

pub scalar_size : (k : ℕ) → k ≡ 0 → get_or sizes k [] ≡ 0 ∷ unused ∷ unused ∷ []
unfolding sizes
scalar_size k e = ap (λ (n : ℕ). get_or sizes n []) e

pub vector-size : (k : ℕ) → (k ≡ 0 → ⊥) → k < 4 → get_or sizes k [] ≡ 1 ∷ (k - 1 + 2) ∷ unused ∷ []
vector-size k n h = size-row k (omega arith) ∙ simp (ne_eqb _ _ n, lt-ltb _ _ h)

pub matrix-size : (k : ℕ) → 4 ≤ k → k < constructor_count → get_or sizes k [] ≡ 2 ∷ ((k - 4) / 3 + 2) ∷ ((k - 4) % 3 + 2) ∷ []
matrix-size k l h = size-row k h ∙ simp (ne_eqb k 0 (λ z. absurd (omega arith)), le-ltb _ _ l)
