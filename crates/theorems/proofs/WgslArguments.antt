-- What the tests of specs/WgslLists.antt say of every scalar of WGSL's, argument by argument, holds of each operand over them that reaches
-- the arguments; and the ranks themselves, computed: where there are any, and that they tell types apart. Assumes nothing.
use mathlib.Core.Path.{◌≡◌, refl, sym, ap, ◌∙◌, subst}
use mathlib.Core.Bool.{Bool, true, false, not, true≢false}
use mathlib.Core.List.{List, [], ◌∷◌}
use mathlib.Core.Logic.{◌⊎◌, inl, inr, ⊎_elim}
use Prim.Native.Nat.{ℕ, zero, suc, ◌/◌, ◌%◌, ◌≤◌, ◌<◌}
use native.Mathlib.Omega.{arith}
use lib.Dec.{T, eqb, leb, ltb}
use lib.ListN.{length, get_or}
use borrow.Author.Tests.{eqb-true, leb-true, eq-eqb, ltb-true, lt-ltb}
use Rattle.scalars.specs.Mask.{both, every}
use Rattle.scalars.specs.Domain.{converts}
use Rattle.types.specs.Domain.{other_type, value?, constructor_part, scalar_part}
use Rattle.types.proofs.Conversions.{yes_either}
use Rattle.rules.specs.Signature.{same_shape, same_number, reaches}
use Rattle.scalars.proofs.Filters.{both_left, both_right, both_true}
use Rattle.scalars.proofs.Table.{same, same→eq}
use Rattle.theorems.specs.Wgsl.{wgsl_scalars, among, wgsl?, over_wgsl, conversions, no_rank, scalar_rank, rank, EachRanked}
use Rattle.theorems.specs.WgslLists.{implies, to_both, same_constructor, apart_at, most_at, cover_at, apart, most, cover_all}

-- ---- truth values

pub then : {a b : Bool} → implies a b ≡ true → a ≡ true → b ≡ true
then {b = b} e h = rw h at e

pub never : {a : Bool} → not a ≡ true → a ≡ true → ⊥
never {a} e h = let z : false ≡ true = rw h at e in true≢false (sym z)

-- what every scalar of a list passes, one among them does
pub among-passes : (xs : List ℕ) (p : ℕ → Bool) (s : ℕ) → every p xs ≡ true → among xs s ≡ true → p s ≡ true
among-passes [] p s e h = absurd (true≢false (sym h))
among-passes (x ∷ xs) p s e h =
    ⊎_elim (λ f. ap p (eqb-true s x f) ∙ both_left (p x) (every p xs) e) (λ f. among-passes xs p s (both_right (p x) (every p xs) e) f)
    (yes_either (eqb s x) (among xs s) h)

-- and so of two scalars, and of three
pub two_pass : (p : ℕ → ℕ → Bool) → every (λ s. every (p s) wgsl_scalars) wgsl_scalars ≡ true
    → (s u : ℕ) → among wgsl_scalars s ≡ true → among wgsl_scalars u ≡ true → p s u ≡ true
two_pass p e s u a b = among-passes wgsl_scalars (p s) u (among-passes wgsl_scalars (λ s. every (p s) wgsl_scalars) s e a) b

pub three_pass : (p : ℕ → ℕ → ℕ → Bool) → every (λ s. every (λ u. every (p s u) wgsl_scalars) wgsl_scalars) wgsl_scalars ≡ true
    → (s u v : ℕ) → among wgsl_scalars s ≡ true → among wgsl_scalars u ≡ true → among wgsl_scalars v ≡ true → p s u v ≡ true
three_pass p e s u v a b c =
    two_pass (p s) (among-passes wgsl_scalars (λ s. every (λ u. every (p s u) wgsl_scalars) wgsl_scalars) s e a) u v b c

-- ---- an operand and an argument

pub record Reaches (t a : ℕ) : Type 0 where
  pub value : value? t ≡ true
  pub constructor : constructor_part t ≡ constructor_part a
  pub scalar : converts (scalar_part t) (scalar_part a) ≡ true

pub reaches_of : {t a : ℕ} → reaches t a ≡ true → Reaches t a
unfolding reaches
reaches_of {t} {a} e =
    let s = both_left (same_shape t a) (same_number t a) e in
    let n = both_right (same_shape t a) (same_number t a) e in
    record {
      value = both_left (value? t) _ s;
      constructor = eqb-true _ _ (both_right (value? t) _ s);
      scalar = both_right (both (value? t) (value? a)) _ n;
    }

pub of_reaches : {t a : ℕ} → Reaches t a → reaches t a ≡ true
unfolding reaches
of_reaches {t} {a} r =
    let l : t < other_type = ltb-true _ _ r.value in
    let e : t / 12 ≡ a / 12 = r.constructor in
    both_true (both_true r.value (eq-eqb _ _ r.constructor)) (both_true (both_true r.value (lt-ltb a other_type (omega arith))) r.scalar)

module _ (t : ℕ) (w : wgsl? t ≡ true) where
  pub its_scalar : among wgsl_scalars (scalar_part t) ≡ true
  its_scalar = both_right (value? t) _ w

  module _ (a b : ℕ) (h : reaches t a ≡ true) (k : reaches t b ≡ true) where
    to_both_lem : to_both a b (scalar_part t) ≡ true
    to_both_lem = both_true (reaches_of h).scalar (reaches_of k).scalar

    one-shape : same_constructor a b ≡ true
    one-shape = eq-eqb _ _ (sym (reaches_of h).constructor ∙ (reaches_of k).constructor)

    apart_at_lem : apart_at a b ≡ true → ⊥
    apart_at_lem e = go (yes_either (not (same_constructor a b)) _ e)
      where
        go : (not (same_constructor a b) ≡ true) ⊎ (every (λ s. not (to_both a b s)) wgsl_scalars ≡ true) → ⊥
        go (inl f) = never f one-shape
        go (inr f) = never (among-passes wgsl_scalars (λ s. not (to_both a b s)) (scalar_part t) f its_scalar) to_both_lem

    most_at_lem : most_at a b ≡ true → rank t a ≤ rank t b
    most_at_lem e =
        leb-true _ _
        (then (among-passes wgsl_scalars (λ s. implies (to_both a b s) (leb (scalar_rank s (scalar_part a)) (scalar_rank s (scalar_part b)))) (scalar_part t)
        e its_scalar) to_both_lem)

    cover_at_lem : (c : ℕ) → cover_at c a b ≡ true → reaches t c ≡ true
    cover_at_lem c e =
        let f = both_left (same_constructor a c) _ e in
        let g = both_right (same_constructor a c) _ e in
        of_reaches record {
          value = (reaches_of h).value;
          constructor = (reaches_of h).constructor ∙ eqb-true _ _ f;
          scalar =
              then (among-passes wgsl_scalars (λ s. implies (to_both a b s) (converts s (scalar_part c))) (scalar_part t) g its_scalar) to_both_lem;
        }

-- ---- operands and arguments, one by one

abbrev pub reached : List ℕ → List ℕ → Bool
reached [] [] = true
reached [] (a ∷ az) = false
reached (t ∷ ts) [] = false
reached (t ∷ ts) (a ∷ az) = both (reaches t a) (reached ts az)

pub reached-all : (ts az : List ℕ) → length ts ≡ length az
    → ((k : ℕ) → k < length ts → reaches (get_or ts k 0) (get_or az k 0) ≡ true) → reached ts az ≡ true
reached-all [] [] l h = refl
reached-all [] (a ∷ az) l h = absurd (omega arith)
reached-all (t ∷ ts) [] l h = absurd (omega arith)
reached-all (t ∷ ts) (a ∷ az) l h = both_true (h 0 (omega arith)) (reached-all ts az (omega arith) (λ k lt. h (suc k) (omega arith)))

pub reached-length : (ts az : List ℕ) → reached ts az ≡ true → length ts ≡ length az
reached-length [] [] e = refl
reached-length [] (a ∷ az) e = absurd (true≢false (sym e))
reached-length (t ∷ ts) [] e = absurd (true≢false (sym e))
reached-length (t ∷ ts) (a ∷ az) e = ap suc (reached-length ts az (both_right (reaches t a) _ e))

pub reached-at : (ts az : List ℕ) → reached ts az ≡ true → (k : ℕ) → k < length ts → reaches (get_or ts k 0) (get_or az k 0) ≡ true
reached-at [] az e k h = absurd (omega arith)
reached-at (t ∷ ts) [] e k h = absurd (true≢false (sym e))
reached-at (t ∷ ts) (a ∷ az) e zero h = both_left (reaches t a) _ e
reached-at (t ∷ ts) (a ∷ az) e (suc k) h = reached-at ts az (both_right (reaches t a) _ e) k (omega arith)

-- ---- the tests of two rules

pub apart-never : (ts az bs : List ℕ) → over_wgsl ts ≡ true → reached ts az ≡ true → reached ts bs ≡ true → apart az bs ≡ true → ⊥
apart-never ts [] bs w h k e = true≢false (sym e)
apart-never ts (a ∷ az) [] w h k e = true≢false (sym e)
apart-never [] (a ∷ az) (b ∷ bs) w h k e = true≢false (sym h)
apart-never (t ∷ ts) (a ∷ az) (b ∷ bs) w h k e =
    ⊎_elim (apart_at_lem t (both_left (wgsl? t) _ w) a b (both_left (reaches t a) _ h) (both_left (reaches t b) _ k))
    (apart-never ts az bs (both_right (wgsl? t) _ w) (both_right (reaches t a) _ h) (both_right (reaches t b) _ k))
    (yes_either (apart_at a b) (apart az bs) e)

pub most-ranks : (ts az bs : List ℕ) → over_wgsl ts ≡ true → reached ts az ≡ true → reached ts bs ≡ true → most az bs ≡ true
    → (k : ℕ) → k < length ts → rank (get_or ts k 0) (get_or az k 0) ≤ rank (get_or ts k 0) (get_or bs k 0)
most-ranks [] az bs w h l e k lt = absurd (omega arith)
most-ranks (t ∷ ts) [] bs w h l e k lt = absurd (true≢false (sym h))
most-ranks (t ∷ ts) (a ∷ az) [] w h l e k lt = absurd (true≢false (sym l))
most-ranks (t ∷ ts) (a ∷ az) (b ∷ bs) w h l e zero lt =
    most_at_lem t (both_left (wgsl? t) _ w) a b (both_left (reaches t a) _ h) (both_left (reaches t b) _ l) (both_left (most_at a b) _ e)
most-ranks (t ∷ ts) (a ∷ az) (b ∷ bs) w h l e (suc k) lt =
    most-ranks ts az bs (both_right (wgsl? t) _ w) (both_right (reaches t a) _ h) (both_right (reaches t b) _ l)
    (both_right (most_at a b) _ e) k (omega arith)

pub cover_reaches : (ts cs az bs : List ℕ) → over_wgsl ts ≡ true → reached ts az ≡ true → reached ts bs ≡ true
    → cover_all cs az bs ≡ true → reached ts cs ≡ true
cover_reaches [] [] az bs w h k e = refl
cover_reaches [] (c ∷ cs) [] bs w h k e = absurd (true≢false (sym e))
cover_reaches [] (c ∷ cs) (a ∷ az) bs w h k e = absurd (true≢false (sym h))
cover_reaches (t ∷ ts) [] [] bs w h k e = absurd (true≢false (sym h))
cover_reaches (t ∷ ts) [] (a ∷ az) bs w h k e = absurd (true≢false (sym e))
cover_reaches (t ∷ ts) (c ∷ cs) [] bs w h k e = absurd (true≢false (sym e))
cover_reaches (t ∷ ts) (c ∷ cs) (a ∷ az) [] w h k e = absurd (true≢false (sym e))
cover_reaches (t ∷ ts) (c ∷ cs) (a ∷ az) (b ∷ bs) w h k e =
    both_true
    (cover_at_lem t (both_left (wgsl? t) _ w) a b (both_left (reaches t a) _ h) (both_left (reaches t b) _ k) c (both_left (cover_at c a b) _ e))
    (cover_reaches ts cs az bs (both_right (wgsl? t) _ w) (both_right (reaches t a) _ h) (both_right (reaches t b) _ k)
    (both_right (cover_at c a b) _ e))

-- ---- the ranks themselves

all_ranked : every (λ s. every (λ u. same (ltb (scalar_rank s u) no_rank) (converts s u)) wgsl_scalars) wgsl_scalars ≡ true
unfolding scalar_rank conversions converts
all_ranked = refl

pub each_ranked : EachRanked
each_ranked s u a b = same→eq _ _ (subst T (sym (two_pass (λ s u. same (ltb (scalar_rank s u) no_rank) (converts s u)) all_ranked s u a b)) tt)

-- ---- ranks tell types apart

-- from one scalar no two conversions have one rank: tested at all of WGSL's scalars
abbrev apart_ranks : ℕ → ℕ → ℕ → Bool
apart_ranks s u v = implies (both (converts s u) (converts s v)) (implies (eqb (scalar_rank s u) (scalar_rank s v)) (eqb u v))

all_apart : every (λ s. every (λ u. every (apart_ranks s u) wgsl_scalars) wgsl_scalars) wgsl_scalars ≡ true
unfolding scalar_rank conversions converts
all_apart = refl

one_type : (t a b : ℕ) → wgsl? t ≡ true → wgsl? a ≡ true → wgsl? b ≡ true → reaches t a ≡ true → reaches t b ≡ true
    → rank t a ≡ rank t b → a ≡ b
one_type t a b w u v h k e =
    let s : a % 12 ≡ b % 12 =
    eqb-true _ _
    (then (then
    (three_pass apart_ranks all_apart (scalar_part t) (scalar_part a) (scalar_part b) (its_scalar t w) (its_scalar a u) (its_scalar b v))
    (both_true (reaches_of h).scalar (reaches_of k).scalar)) (eq-eqb _ _ e)) in
    let c : a / 12 ≡ b / 12 = sym (reaches_of h).constructor ∙ (reaches_of k).constructor in
    omega arith

-- two rules over WGSL's scalars that take the operands: of equal arguments, or some operand's ranks differ
pub record Differ (ts az bs : List ℕ) : Type 0 where
  pub operand : ℕ
  pub there : operand < length ts
  pub other : rank (get_or ts operand 0) (get_or az operand 0) ≡ rank (get_or ts operand 0) (get_or bs operand 0) → ⊥

pub alike_or_differ : (ts az bs : List ℕ) → over_wgsl ts ≡ true → over_wgsl az ≡ true → over_wgsl bs ≡ true
    → reached ts az ≡ true → reached ts bs ≡ true → (az ≡ bs) ⊎ Differ ts az bs
alike_or_differ [] [] [] w u v h k = inl refl
alike_or_differ [] [] (b ∷ bs) w u v h k = absurd (true≢false (sym k))
alike_or_differ [] (a ∷ az) bs w u v h k = absurd (true≢false (sym h))
alike_or_differ (t ∷ ts) [] bs w u v h k = absurd (true≢false (sym h))
alike_or_differ (t ∷ ts) (a ∷ az) [] w u v h k = absurd (true≢false (sym k))
alike_or_differ (t ∷ ts) (a ∷ az) (b ∷ bs) w u v h k =
    go
    (alike_or_differ ts az bs (both_right (wgsl? t) _ w) (both_right (wgsl? a) _ u) (both_right (wgsl? b) _ v)
    (both_right (reaches t a) _ h) (both_right (reaches t b) _ k))
    (eqb (rank t a) (rank t b)) refl
  where
    go : (az ≡ bs) ⊎ Differ ts az bs → (c : Bool) → eqb (rank t a) (rank t b) ≡ c → (a ∷ az ≡ b ∷ bs) ⊎ Differ (t ∷ ts) (a ∷ az) (b ∷ bs)
    go (inl e) true f =
        let g : a ≡ b =
        one_type t a b (both_left (wgsl? t) _ w) (both_left (wgsl? a) _ u) (both_left (wgsl? b) _ v)
        (both_left (reaches t a) _ h) (both_left (reaches t b) _ k) (eqb-true _ _ f) in
        inl cc
    go (inr d) true f = inr record { operand = suc d.operand; there = let l : d.operand < length ts = d.there in omega arith; other = d.other }
    go s false f = inr record { operand = 0; there = omega arith; other = λ e. true≢false (sym (eq-eqb _ _ e) ∙ f) }
