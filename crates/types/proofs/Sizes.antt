-- Sizes and type codes: the size of a constructor has that constructor, and a code made of a size and a scalar has both as its parts.
-- Assumes nothing.
use mathlib.Core.Path.{◌≡◌, refl, sym, ap, ◌∙◌}
use mathlib.Core.List.{List, [], ◌∷◌}
use Prim.Native.Nat.{ℕ, ◌<◌}
use native.Mathlib.Omega.{arith}
use lib.Dec.{eqb}
use lib.ListN.{get_or}
use borrow.Author.Tests.{lt-ltb}
use Rattle.scalars.specs.Mask.{choose, up_to}
use Rattle.scalars.specs.Domain.{scalar_count}
use Rattle.scalars.specs.Paper.{Paper, accepted, refusal, when_accepted, unused}
use Rattle.types.specs.Domain.{constructor_count}
use Rattle.types.specs.TypePaper.{size_values}
use Rattle.types.specs.TypeCode.{type_code, value_code}
use Rattle.types.specs.Constructor.{sizes, outside_sizes, constructor_of, inner_of}
use Rattle.types.specs.declared.constructor_set.ConstructorSize.{ConstructorSize}
use Rattle.types.specs.declared.constructor_set.ConstructorSize.TheVariants.{Scalar, Vector, Matrix}
use Rattle.scalars.proofs.Table.{at}
use Rattle.types.proofs.TypeCodes.{is_code, is_code_lem, if_known}

-- ---- a size by its values

abbrev pub size_named : List ℕ → ConstructorSize
size_named vs = choose (eqb (get_or vs 0 0) 0) Scalar (choose (eqb (get_or vs 0 0) 1) (Vector (get_or vs 1 0)) (Matrix (get_or vs 1 0) (get_or vs 2 0)))

pub size_named_lem : (z : ConstructorSize) → size_named (size_values z) ≡ z
size_named_lem Scalar = refl
size_named_lem (Vector n) = refl
size_named_lem (Matrix c r) = refl

size-constructor : (z : ConstructorSize) (k : ℕ) → k < constructor_count → size_values z ≡ get_or sizes k [] → constructor_of z ≡ accepted (k ∷ [])
unfolding sizes constructor_of outside_sizes
size-constructor z k h e =
    ap constructor_of (sym (size_named_lem z)) ∙ ap (λ (vs : List ℕ). constructor_of (size_named vs)) e
    ∙ is_code_lem k _ (at (λ k _. is_code k (constructor_of (size_named (get_or sizes k [])))) (up_to constructor_count) tt k h)

-- the type of a constructor's size and a scalar
pub size-inner : (z : ConstructorSize) (k s : ℕ) → k < constructor_count → s < scalar_count → size_values z ≡ get_or sizes k []
    → inner_of z s ≡ accepted (type_code k s ∷ [])
unfolding inner_of value_code
size-inner z k s h l e =
    ap (λ (p : Paper). when_accepted p (λ vs. value_code (get_or vs 0 unused) s) (unused ∷ [])) (size-constructor z k h e)
    ∙ simp (lt-ltb _ _ h, lt-ltb _ _ l)

-- ---- a code made of a size and a scalar

pub record Inner (z : ConstructorSize) (s t : ℕ) : Type 0 where
  pub parts : List ℕ
  pub made : constructor_of z ≡ accepted parts
  pub kind : get_or parts 0 unused < constructor_count
  pub scalar : s < scalar_count
  pub code : type_code (get_or parts 0 unused) s ≡ t

pub inner-parts : (z : ConstructorSize) (s t : ℕ) → inner_of z s ≡ accepted (t ∷ []) → Inner z s t
unfolding inner_of value_code
inner-parts z s t e = go (constructor_of z) refl e
  where
    go : (p : Paper) → constructor_of z ≡ p → when_accepted p (λ vs. value_code (get_or vs 0 unused) s) (unused ∷ []) ≡ accepted (t ∷ []) → Inner z s t
    go (accepted vs) q e =
        let f = if_known (get_or vs 0 unused) s t (accepted (type_code (get_or vs 0 unused) s ∷ [])) e in
        let g = f.2 in
        record { parts = vs; made = q; kind = f.0; scalar = f.1; code = cc }
    go (refusal n p vs) q e = let z : ◌≡◌ {A = ℕ} 0 1 = cc in absurd (omega arith)
