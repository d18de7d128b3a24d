-- Which Regular sets choose by WGSL's ranks: a law of a set's scalars alone, whatever its constructors, arity and conclusion. Its scalars are
-- fair:
--
-- * with ABSTRACT_FLOAT and one of I32, U32 they have ABSTRACT_INT: else ABSTRACT_INT would take ABSTRACT_FLOAT, which ranks above both;
-- * with a scalar that WGSL lacks they have a concrete one that WGSL has, of lower number, to which WGSL's scalars convert as well.
--
-- Of a set with some constructor and an arity of 1 or more this is exact: of any that is not fair the operand ABSTRACT_INT, for F64
-- ABSTRACT_FLOAT, shows a call, with the switch off or on, whose rule is not WGSL's.
use Rattle.std.specs.Prelude.{◌≡◌, Bool, true, List, [], ◌∷◌, ℕ, ◌<◌}
use Rattle.scalars.specs.Mask.{choose, both, either, every, bits}
use Rattle.scalars.specs.Domain.{scalar_count, abstract_int, abstract_float, i32, u32, u64, f32, f64}
use Rattle.types.specs.Domain.{constructor_count}
use Rattle.regular.specs.Regular.{regular_rules}
use Rattle.regular.specs.declared.regular.Regular.{Regular}
use Rattle.theorems.specs.Wgsl.{f16, wgsl_scalars, any, among, Ranked}
use Rattle.theorems.specs.WgslLists.{implies}

-- the others that WGSL lacks are U64 and F64
abbrev pub i16 : ℕ
i16 = 3

abbrev pub i64 : ℕ
i64 = 4

abbrev pub u16 : ℕ
u16 = 6

abbrev pub scalars_of : Regular → List ℕ
scalars_of r = bits scalar_count r.scalars.0

abbrev pub constructors_of : Regular → List ℕ
constructors_of r = bits constructor_count r.constructors.0

-- those of WGSL's that stand in for a scalar that it lacks
abbrev pub stand_ins : ℕ → List ℕ
stand_ins s =
    choose (among (i16 ∷ i64 ∷ []) s) (i32 ∷ [])
    (choose (among (u16 ∷ u64 ∷ []) s) (i32 ∷ u32 ∷ [])
    (choose (among (f64 ∷ []) s) (f32 ∷ f16 ∷ []) []))

-- a scalar of a set is WGSL's, or one that stands in for it is in the set
abbrev pub stood_for : List ℕ → ℕ → Bool
stood_for ss s = either (among wgsl_scalars s) (any (among ss) (stand_ins s))

abbrev pub with_int : List ℕ → Bool
with_int ss = implies (both (among ss abstract_float) (either (among ss i32) (among ss u32))) (among ss abstract_int)

unfoldable pub fair? : Regular → Bool
fair? r = both (with_int (scalars_of r)) (every (stood_for (scalars_of r)) (scalars_of r))

pub record Exact (r : Regular) : Type 0 where
  pub enough : fair? r ≡ true → Ranked (regular_rules r)
  pub needed : 0 < r.arity → (k : ℕ) → among (constructors_of r) k ≡ true → Ranked (regular_rules r) → fair? r ≡ true

-- of any Regular set
abbrev pub RegularLaw : Type 0
RegularLaw = (r : Regular) → Exact r
