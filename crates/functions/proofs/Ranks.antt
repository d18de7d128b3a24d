-- The n-th rule of a Regular set, from the rank of its constructor and of its scalar. Assumes nothing.
use mathlib.Core.Path.{◌≡◌, sym, ap, ap₂, ◌∙◌, subst, subst⁻¹}
use mathlib.Core.List.{List, [], ◌∷◌}
use Prim.Native.Nat.{ℕ, zero, suc, ◌+◌, ◌*◌, ◌/◌, ◌%◌, ◌≤◌, ◌<◌}
use native.Mathlib.Nat.{le_refl, mul-le-mul, mod-lt, div-add-mod'}
use native.Mathlib.Omega.{arith}
use lib.Arith.{digits_lt}
use lib.Count.{ones}
use lib.Dec.{lit≤}
use lib.ListN.{length, get_or}
use Rattle.std.specs.Prelude.{Some, None, slice_get}
use Rattle.std.proofs.lemmas.Option.{none-some, slice_get_within, get_or_from_slice_get}
use Rattle.scalars.specs.Domain.{scalar_count}
use Rattle.scalars.specs.Mask.{bits}
use Rattle.types.specs.Domain.{constructor_count}
use Rattle.types.specs.TypeCode.{type_code}
use Rattle.regular.specs.Regular.{pairs, codes_of, regular_rules, regular_rule, rule_for}
use Rattle.functions.specs.Functions.{rule_in}
use Rattle.functions.specs.private.Built.{Built}
use Rattle.scalars.specs.Paper.{refusal}
use Rattle.rules.specs.RulePaper.{no_rule}
use Rattle.regular.specs.declared.regular.Regular.{Regular}
use Rattle.scalars.proofs.Bits.{bits-next, bits-within, bits-count}
use Rattle.regular.proofs.Regulars.{codes-count, known_rule}
use Rattle.functions.proofs.NthBits.{bits_below}
use Rattle.functions.proofs.Indices.{pairs-at, regular-here, regular-past}

-- behind the last element
got-none : (xs : List ℕ) (k : ℕ) → slice_get xs k ≡ None → length xs ≤ k
got-none [] k e = omega arith
got-none (x ∷ xs) zero e = absurd (none-some x (sym e))
got-none (x ∷ xs) (suc k) e = omega (arith, got-none xs k e)

-- ---- the rules of a Regular set: n scalars make a row, and i is the index of a rule

module _ (r : Regular) (b : Built r) (i : ℕ) where
  abbrev n : ℕ
  n = ones r.scalars.0

  abbrev row : List ℕ
  row = bits scalar_count r.scalars.0

  abbrev rows : List ℕ
  rows = bits constructor_count r.constructors.0

  scalars : n ≡ length row
  scalars = bits-count scalar_count r.scalars.0 b.known.scalars

  constructors : ones r.constructors.0 ≡ length rows
  constructors = bits-count constructor_count r.constructors.0 b.known.constructors

  wide_scalars : bits 64 r.scalars.0 ≡ row
  wide_scalars = bits-within scalar_count 64 r.scalars.0 (lit≤ tt) b.known.scalars

  wide_constructors : bits 64 r.constructors.0 ≡ rows
  wide_constructors = bits-within constructor_count 64 r.constructors.0 (lit≤ tt) b.known.constructors

  pub some-scalar : 0 < n
  some-scalar = omega (arith, scalars, ap length (bits-next 16 scalar_count r.scalars.0 (lit≤ tt) b.some b.known.scalars))

  listed : length (codes_of r) ≡ ones r.constructors.0 * n
  listed = codes-count r b.known

  split : i / n * n + i % n ≡ i
  split = div-add-mod' i n

  pub rank-past : slice_get (bits 64 r.constructors.0) (i / n) ≡ None → refusal 7 1 no_rule ≡ rule_in (regular_rules r) i
  rank-past e =
      let h : ones r.constructors.0 ≤ i / n = omega (arith, constructors, got-none rows (i / n) (sym (ap (λ (ks : List ℕ). slice_get ks (i / n)) wide_constructors) ∙ e)) in
      sym (regular-past r i (omega (arith, listed, split, mul-le-mul h (le_refl n))))

  -- each remainder is the rank of a scalar
  pub rank-within : slice_get (bits 64 r.scalars.0) (i % n) ≡ None → ⊥
  rank-within e =
      omega (arith, mod-lt i some-scalar, scalars, got-none row (i % n) (sym (ap (λ (ss : List ℕ). slice_get ss (i % n)) wide_scalars) ∙ e))

  module _ {k s : ℕ} (constructor : slice_get (bits 64 r.constructors.0) (i / n) ≡ Some k) (scalar : slice_get (bits 64 r.scalars.0) (i % n) ≡ Some s) where
    in_rows : slice_get rows (i / n) ≡ Some k
    in_rows = sym (ap (λ (ks : List ℕ). slice_get ks (i / n)) wide_constructors) ∙ constructor

    in_row : slice_get row (i % n) ≡ Some s
    in_row = sym (ap (λ (ss : List ℕ). slice_get ss (i % n)) wide_scalars) ∙ scalar

    few-rows : i / n < length rows
    few-rows = slice_get_within rows (i / n) k in_rows

    constructor-is : get_or rows (i / n) 64 ≡ k
    constructor-is = get_or_from_slice_get rows (i / n) k 64 in_rows

    scalar-is : get_or row (i % n) 64 ≡ s
    scalar-is = get_or_from_slice_get row (i % n) s 64 in_row

    constructor-below : k < constructor_count
    constructor-below = subst (λ (j : ℕ). j < constructor_count) constructor-is (bits_below 64 constructor_count r.constructors.0 (i / n) few-rows)

    scalar_below : s < scalar_count
    scalar_below = subst (λ (j : ℕ). j < scalar_count) scalar-is (bits_below 64 scalar_count r.scalars.0 (i % n) (slice_get_within row (i % n) s in_row))

    code_at : type_code k s ≡ get_or (codes_of r) i 0
    unfolding codes_of
    code_at =
        sym (ap₂ type_code constructor-is scalar-is)
        ∙ sym (pairs-at 64 rows row (i / n) (i % n) (slice_get_within row (i % n) s in_row) few-rows)
        ∙ ap (λ (j : ℕ). get_or (pairs rows row) j 0) (ap (λ (m : ℕ). i / n * m + i % n) (sym scalars) ∙ split)

    -- the rule of the constructor and the scalar at the ranks is the rule at the index
    pub rank-here : regular_rule k s r ≡ rule_in (regular_rules r) i
    rank-here =
        let h : i / n < ones r.constructors.0 = omega (arith, few-rows, constructors) in
        known_rule r k s b.known constructor-below scalar_below
        ∙ ap (rule_for r) code_at
        ∙ regular-here r i b.concludes
        (subst⁻¹ (λ (m : ℕ). i < m) listed (subst (λ (j : ℕ). j < ones r.constructors.0 * n) split (digits_lt h (mod-lt i some-scalar))))
