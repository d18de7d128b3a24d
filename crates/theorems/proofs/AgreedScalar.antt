-- The scalar of a consensus, and every refusal, are what specs/Consensus.antt says: a component more changes the base to its combination
-- with the component's scalar (`grown`, `shrunk`), and so one component after the other. Assumes nothing.
use mathlib.Core.Path.{◌≡◌, refl, sym, ap, ◌∙◌}
use mathlib.Core.Logic.{◌↔◌, ◌⊎◌, inl, inr}
use mathlib.Core.Bool.{Bool, true, false}
use mathlib.Core.List.{List, [], ◌∷◌}
use Prim.Native.Nat.{ℕ, zero, suc, ◌+◌, ◌≤◌, ◌<◌}
use native.Mathlib.Omega.{arith}
use borrow.Author.Tests.{ltb-true, ltb-false, eqb-true, eqb-false}
use lib.Dec.{eqb, ltb}
use lib.ListN.{length, get_or, take}
use Rattle.scalars.specs.Mask.{choose}
use Rattle.scalars.specs.Domain.{converts, scalar_count}
use Rattle.types.specs.Domain.{value?, scalar_part, first_unknown, other_type}
use Rattle.scalars.specs.Paper.{Paper, accepted, refusal}
use Rattle.std.specs.Prelude.{Option, Some, None}
use Rattle.scalars.specs.declared.scalar_set.Scalar.{Scalar}
use Rattle.types.specs.Conversion.{none, combination, agree, agree_with_first, if_known_all, agreed}
use Rattle.types.proofs.Combinations.{combination-known}
use Rattle.theorems.specs.Known.{AllKnown, FirstUnknown}
use Rattle.theorems.specs.Consensus.{Offered, by_base, by_component, Consensus, Nothing, Breaks, KnownBase, UnknownBase}
use Rattle.theorems.proofs.Papers.{refused-not, other-number}
use Rattle.theorems.proofs.Known.{all_known, first_unknown_lem, unknown-one, never-unknown}
use Rattle.types.proofs.Conversions.{itself, alike, onwards, Joins, joins, joined}

abbrev pub scalar : ℕ → Option Scalar
scalar a = Some (record { 0 = a })

abbrev inside : Option Scalar → ℕ
inside (Some a) = a.0
inside None = 0

pub same_base : (a c : ℕ) → scalar a ≡ scalar c → a ≡ c
same_base a c e = ap inside e

pub no_base : {A : Type 0} (a : ℕ) → None ≡ scalar a → A
no_base a e = let z : ◌≡◌ {A = ℕ} 0 1 = cc in absurd (omega arith)

-- ---- a component more

offered-known : (best : ℕ) (ts : List ℕ) (a : ℕ) → best < scalar_count → Offered (scalar best) ts a → a < scalar_count
offered-known best ts a h (by_base e) = let p : best ≡ a = same_base best a e in omega arith
offered-known best ts a h (by_component k (l, v, e)) = omega arith

alone : (best : ℕ) → best < scalar_count → Consensus (scalar best) [] best
alone best h = record { offered = by_base refl; scalars = λ k l. absurd (omega arith); reached = reach }
  where
    reach : (a : ℕ) → Offered (scalar best) [] a → converts a best ≡ true
    reach a (by_base e) = rw (sym (same_base best a e)) (itself best h)
    reach a (by_component k (l, v, e)) = absurd (omega arith)

module _ (best t : ℕ) (h : best < scalar_count) where
  abbrev both : ℕ
  both = combination best (scalar_part t)

  module _ (ts : List ℕ) (s : ℕ) where
    grown : t < other_type → (both ≡ none → ⊥) → Consensus (scalar both) ts s → Consensus (scalar best) (t ∷ ts) s
    grown v n k = record { offered = offer k.offered; scalars = every; reached = reach }
      where
        j : Joins best (scalar_part t) both
        j = joins best (scalar_part t) h (omega arith) n

        small : both < scalar_count
        small = combination-known best (scalar_part t) h (omega arith) n

        s-small : s < scalar_count
        s-small = offered-known both ts s small k.offered

        far : (a : ℕ) → a < scalar_count → converts a both ≡ true → converts a s ≡ true
        far a l p = onwards a both s l small s-small p (k.reached both (by_base refl))

        offer : Offered (scalar both) ts s → Offered (scalar best) (t ∷ ts) s
        offer (by_component i (l, w, e)) = by_component (suc i) (omega arith, w, e)
        offer (by_base e) = which j.one
          where
            which : (both ≡ best) ⊎ (both ≡ scalar_part t) → Offered (scalar best) (t ∷ ts) s
            which (inl p) = by_base (ap scalar (sym p ∙ same_base both s e))
            which (inr p) = by_component 0 (omega arith, v, sym p ∙ same_base both s e)

        every : (i : ℕ) → i < length (t ∷ ts) → get_or (t ∷ ts) i 0 < other_type
        every zero l = v
        every (suc i) l = k.scalars i (omega arith)

        reach : (a : ℕ) → Offered (scalar best) (t ∷ ts) a → converts a s ≡ true
        reach a (by_base e) = rw (sym (same_base best a e)) (far best h j.left)
        reach a (by_component zero (l, w, e)) = rw (sym e) (far (scalar_part t) (omega arith) j.right)
        reach a (by_component (suc i) (l, w, e)) = k.reached a (by_component i (omega arith, w, e))

    shrunk : Consensus (scalar best) (t ∷ ts) s → (t < other_type) × (both ≡ none → ⊥) × Consensus (scalar both) ts s
    shrunk k = (v, n, record { offered = offer k.offered; scalars = λ i l. k.scalars (suc i) (omega arith); reached = reach })
      where
        v : t < other_type
        v = k.scalars 0 (omega arith)

        s-small : s < scalar_count
        s-small = offered-known best (t ∷ ts) s h k.offered

        left : converts best s ≡ true
        left = k.reached best (by_base refl)

        right : converts (scalar_part t) s ≡ true
        right = k.reached (scalar_part t) (by_component 0 (omega arith, v, refl))

        n : both ≡ none → ⊥
        n = joined best (scalar_part t) h (omega arith) s s-small left right

        j : Joins best (scalar_part t) both
        j = joins best (scalar_part t) h (omega arith) n

        far : converts both s ≡ true
        far = which j.one
          where
            which : (both ≡ best) ⊎ (both ≡ scalar_part t) → converts both s ≡ true
            which (inl p) = ap (λ c. converts c s) p ∙ left
            which (inr p) = ap (λ c. converts c s) p ∙ right

        same : (a : ℕ) → a ≡ s → converts a both ≡ true → both ≡ s
        same a e p =
            alike both s (combination-known best (scalar_part t) h (omega arith) n) s-small far (ap (λ c. converts c both) (sym e) ∙ p)

        offer : Offered (scalar best) (t ∷ ts) s → Offered (scalar both) ts s
        offer (by_base e) = by_base (ap scalar (same best (same_base best s e) j.left))
        offer (by_component zero (l, w, e)) = by_base (ap scalar (same (scalar_part t) e j.right))
        offer (by_component (suc i) (l, w, e)) = by_component i (omega arith, w, e)

        reach : (a : ℕ) → Offered (scalar both) ts a → converts a s ≡ true
        reach a (by_base e) = ap (λ c. converts c s) (sym (same_base both a e)) ∙ far
        reach a (by_component i (l, w, e)) = k.reached a (by_component (suc i) (omega arith, w, e))

-- ---- an answer to the components from the i-th on

record AnswersFrom (i : ℕ) (b : Option Scalar) (ts : List ℕ) (r : Paper) : Type 0 where
  given : (s : ℕ) → r ≡ accepted (s ∷ []) ↔ Consensus b ts s
  refused : (m : ℕ) → r ≡ refusal 12 m (255 ∷ []) ↔ ((j : ℕ) × (m ≡ i + j) × Breaks b ts j)
  nothing : r ≡ refusal 11 0 (255 ∷ []) ↔ Nothing b ts
  known : (p : ℕ) → r ≡ refusal 7 p (255 ∷ []) → ⊥

unlike : {A : Type 0} (t : ℕ) (ts : List ℕ) → t ∷ ts ≡ [] → A
unlike t ts e = let z : ◌≡◌ {A = ℕ} 0 1 = cc in absurd (omega arith)

-- where no list with this component in front has a consensus, the answer is refusal 12 there
module _ (i : ℕ) (b : Option Scalar) (t : ℕ) (ts : List ℕ) (never : (us : List ℕ) (s : ℕ) → Consensus b (t ∷ us) s → ⊥)
    (before : ((s : ℕ) × Consensus b [] s) ⊎ Nothing b []) where
  stops : AnswersFrom i b (t ∷ ts) (refusal 12 i (255 ∷ []))
  stops =
      record {
        given = λ s. (refused-not, λ k. absurd (never ts s k));
        refused = λ m. (
          λ q. let e : i ≡ m = cc in (0, omega arith, record { there = omega arith; before = before; none = never [] }),
          λ (j, e, k). here m j e k,
        );
        nothing = (λ q. other-number q (λ e. omega arith), λ (_, e). unlike t ts e);
        known = λ p q. other-number q (λ e. omega arith);
      }
    where
      before_it : (j : ℕ) → ((s : ℕ) × Consensus b (t ∷ take j ts) s) ⊎ Nothing b (t ∷ take j ts) → ⊥
      before_it j (inl (s, k)) = never (take j ts) s k
      before_it j (inr (_, e)) = unlike t (take j ts) e

      here : (m j : ℕ) → m ≡ i + j → Breaks b (t ∷ ts) j → refusal 12 i (255 ∷ []) ≡ refusal 12 m (255 ∷ [])
      here m zero e k = ap (λ n. refusal 12 n (255 ∷ [])) (omega arith)
      here m (suc j) e k = absurd (before_it j k.before)

-- where this component in front makes c the base, the answer is that of the others
module _ (i : ℕ) (b : Option Scalar) (t : ℕ) (ts : List ℕ) (c : ℕ) (h : c < scalar_count)
    (turn : (us : List ℕ) (s : ℕ) → Consensus b (t ∷ us) s ↔ Consensus (scalar c) us s) where
  broken-on : (j : ℕ) → Breaks (scalar c) ts j → Breaks b (t ∷ ts) (suc j)
  broken-on j k = record { there = omega (arith, k.there); before = go k.before; none = λ s w. k.none s ((turn (take (suc j) ts) s).0 w) }
    where
      go : ((s : ℕ) × Consensus (scalar c) (take j ts) s) ⊎ Nothing (scalar c) (take j ts)
          → ((s : ℕ) × Consensus b (t ∷ take j ts) s) ⊎ Nothing b (t ∷ take j ts)
      go (inl (s, w)) = inl (s, (turn (take j ts) s).1 w)
      go (inr (e, _)) = no_base c (sym e)

  broken-off : (j : ℕ) → Breaks b (t ∷ ts) (suc j) → Breaks (scalar c) ts j
  broken-off j k = record { there = omega (arith, k.there); before = go k.before; none = λ s w. k.none s ((turn (take (suc j) ts) s).1 w) }
    where
      go : ((s : ℕ) × Consensus b (t ∷ take j ts) s) ⊎ Nothing b (t ∷ take j ts)
          → ((s : ℕ) × Consensus (scalar c) (take j ts) s) ⊎ Nothing (scalar c) (take j ts)
      go (inl (s, w)) = inl (s, (turn (take j ts) s).0 w)
      go (inr (_, e)) = unlike t (take j ts) e

  goes : (r : Paper) → AnswersFrom (suc i) (scalar c) ts r → AnswersFrom i b (t ∷ ts) r
  goes r a =
      record {
        given = λ s. (λ q. (turn ts s).1 ((a.given s).0 q), λ k. (a.given s).1 ((turn ts s).0 k));
        refused = λ m. (
          λ q. let (j, e, k) = (a.refused m).0 q in (suc j, omega arith, broken-on j k),
          λ (j, e, k). there m j e k,
        );
        nothing = (λ q. no_base c (sym (a.nothing.0 q).0), λ (_, e). unlike t ts e);
        known = a.known;
      }
    where
      there : (m j : ℕ) → m ≡ i + j → Breaks b (t ∷ ts) j → r ≡ refusal 12 m (255 ∷ [])
      there m zero e k = absurd (k.none c ((turn [] c).1 (alone c h)))
      there m (suc j) e k = (a.refused m).1 (j, omega arith, broken-off j k)

-- ---- with a base

with_base : (best i : ℕ) (ts : List ℕ) → best < scalar_count → AnswersFrom i (scalar best) ts (agree best i ts)
unfolding agree
with_base best i [] h =
    record {
      given = λ s. (λ q. let z : best ≡ s = cc in rw (sym z) (alone best h), λ k. given s k.offered);
      refused = λ m. (λ q. refused-not (sym q), λ (j, e, k). absurd (omega (arith, k.there)));
      nothing = (λ q. refused-not (sym q), λ (e, _). no_base best (sym e));
      known = λ p q. refused-not (sym q);
    }
  where
    given : (s : ℕ) → Offered (scalar best) [] s → accepted (best ∷ []) ≡ accepted (s ∷ [])
    given s (by_base e) = ap (λ a. accepted (a ∷ [])) (same_base best s e)
    given s (by_component k (l, v, e)) = absurd (omega arith)
with_base best i (t ∷ ts) h = valued (with_base c (suc i) ts) (value? t) refl
  where
    c : ℕ
    c = combination best (scalar_part t)

    here : ((us : List ℕ) (s : ℕ) → Consensus (scalar best) (t ∷ us) s → ⊥) → AnswersFrom i (scalar best) (t ∷ ts) (refusal 12 i (255 ∷ []))
    here never = stops i (scalar best) t ts never (inl (best, alone best h))

    combined : t < other_type → (c < scalar_count → AnswersFrom (suc i) (scalar c) ts (agree c (suc i) ts)) → (y : Bool) → eqb c none ≡ y
        → AnswersFrom i (scalar best) (t ∷ ts) (choose y (refusal 12 i (255 ∷ [])) (agree c (suc i) ts))
    combined v rest true q = here (λ us s k. (shrunk best t h us s k).1 (eqb-true c none q))
    combined v rest false q =
        let n : c ≡ none → ⊥ = eqb-false c none q in
        let l : c < scalar_count = combination-known best (scalar_part t) h (omega arith) n in
        goes i (scalar best) t ts c l (λ us s. (λ k. (shrunk best t h us s k).2, grown best t h us s v n)) _ (rest l)

    valued : (c < scalar_count → AnswersFrom (suc i) (scalar c) ts (agree c (suc i) ts)) → (x : Bool) → value? t ≡ x
        → AnswersFrom i (scalar best) (t ∷ ts)
        (choose x (choose (eqb c none) (refusal 12 i (255 ∷ [])) (agree c (suc i) ts)) (refusal 12 i (255 ∷ [])))
    valued rest true p = combined (ltb-true t other_type p) rest (eqb c none) refl
    valued rest false p = here (λ us s k. let v = (shrunk best t h us s k).0 in let w = ltb-false t other_type p in omega arith)

-- ---- with no base, the first component is the base

module _ (t : ℕ) (v : t < other_type) where
  offered-first : (ts : List ℕ) (a : ℕ) → Offered (scalar (scalar_part t)) ts a → Offered None (t ∷ ts) a
  offered-first ts a (by_base e) = by_component 0 (omega arith, v, same_base (scalar_part t) a e)
  offered-first ts a (by_component k (l, w, e)) = by_component (suc k) (omega arith, w, e)

  first-offered : (ts : List ℕ) (a : ℕ) → Offered None (t ∷ ts) a → Offered (scalar (scalar_part t)) ts a
  first-offered ts a (by_base e) = no_base a e
  first-offered ts a (by_component zero (l, w, e)) = by_base (ap scalar e)
  first-offered ts a (by_component (suc k) (l, w, e)) = by_component k (omega arith, w, e)

  first-grown : (ts : List ℕ) (s : ℕ) → Consensus (scalar (scalar_part t)) ts s → Consensus None (t ∷ ts) s
  first-grown ts s k =
      record { offered = offered-first ts s k.offered; scalars = every; reached = λ a o. k.reached a (first-offered ts a o) }
    where
      every : (i : ℕ) → i < length (t ∷ ts) → get_or (t ∷ ts) i 0 < other_type
      every zero l = v
      every (suc i) l = k.scalars i (omega arith)

  first-shrunk : (ts : List ℕ) (s : ℕ) → Consensus None (t ∷ ts) s → Consensus (scalar (scalar_part t)) ts s
  first-shrunk ts s k = record {
    offered = first-offered ts s k.offered;
    scalars = λ i l. k.scalars (suc i) (omega arith);
    reached = λ a o. k.reached a (offered-first ts a o);
  }

without_base : (ts : List ℕ) → AnswersFrom 0 None ts (agree_with_first ts)
without_base [] =
    record {
      given = λ s. (refused-not, λ k. absurd (none-offered s k.offered));
      refused = λ m. (λ q. other-number q (λ e. omega arith), λ (j, e, k). absurd (omega (arith, k.there)));
      nothing = (λ _. (refl, refl), λ _. refl);
      known = λ p q. other-number q (λ e. omega arith);
    }
  where
    none-offered : (s : ℕ) → Offered None [] s → ⊥
    none-offered s (by_base e) = no_base s e
    none-offered s (by_component k (l, v, e)) = omega arith
without_base (t ∷ ts) = go (value? t) refl
  where
    go : (x : Bool) → value? t ≡ x → AnswersFrom 0 None (t ∷ ts) (choose x (agree (scalar_part t) 1 ts) (refusal 12 0 (255 ∷ [])))
    go true p =
        let v : t < other_type = ltb-true t other_type p in
        goes 0 None t ts (scalar_part t) (omega arith) (λ us s. (first-shrunk t v us s, first-grown t v us s)) _
        (with_base (scalar_part t) 1 ts (omega arith))
    go false p =
        stops 0 None t ts
        (λ us s k. let v : t < other_type = k.scalars 0 (omega arith) in let w = ltb-false t other_type p in omega arith) (inr (refl, refl))

-- ---- unknown codes, and known ones

-- what is answered but for who gave the scalar
pub record AgreedScalar (b : Option Scalar) (ts : List ℕ) (p : Paper) : Type 0 where
  pub unknown_base : p ≡ refusal 7 0 (255 ∷ []) ↔ UnknownBase b
  pub unknown_component : (i : ℕ) → p ≡ refusal 7 (1 + i) (255 ∷ []) ↔ (KnownBase b × FirstUnknown ts i)
  pub nothing : p ≡ refusal 11 0 (255 ∷ []) ↔ Nothing b ts
  pub agreement : (s : ℕ) → p ≡ accepted (s ∷ []) ↔ (KnownBase b × AllKnown ts × Consensus b ts s)
  pub broken : (i : ℕ) → p ≡ refusal 12 i (255 ∷ []) ↔ (KnownBase b × AllKnown ts × Breaks b ts i)

module _ (b : Option Scalar) (ts : List ℕ) where
  base_unknown : (a : ℕ) → b ≡ scalar a → scalar_count ≤ a → AgreedScalar b ts (refusal 7 0 (255 ∷ []))
  base_unknown a e l =
      record {
        unknown_base = (λ _. (a, e, l), λ _. refl);
        unknown_component = λ i. (λ q. let z : 0 ≡ 1 + i = cc in absurd (omega arith), λ (k, _). never k);
        nothing = (λ q. other-number q (λ z. omega arith), λ (f, _). no_base a (sym f ∙ e));
        agreement = λ s. (refused-not, λ (k, _, _). never k);
        broken = λ i. (λ q. other-number q (λ z. omega arith), λ (k, _, _). never k);
      }
    where
      never : {A : Type 0} → KnownBase b → A
      never k = let h : a < scalar_count = k a e in absurd (omega arith)

  module _ (k : KnownBase b) where
    component_unknown : (i : ℕ) → FirstUnknown ts i → AgreedScalar b ts (refusal 7 (1 + i) (255 ∷ []))
    component_unknown i u = record {
      unknown_base = (λ q. let z : 1 + i ≡ 0 = cc in absurd (omega arith), λ (a, e, l). let h : a < scalar_count = k a e in absurd (omega arith));
      unknown_component = λ j. (
        λ q. let z : 1 + i ≡ 1 + j = cc in let e : i ≡ j = omega arith in (k, rw e at u),
        λ (_, w). ap (λ n. refusal 7 (1 + n) (255 ∷ [])) (unknown-one ts i j u w),
      );
      nothing = (λ q. other-number q (λ z. omega arith), λ (_, e). let z : length ts ≡ 0 = ap length e in absurd (omega (arith, u.there)));
      agreement = λ s. (refused-not, λ (_, h, _). absurd (never-unknown ts i h u));
      broken = λ j. (λ q. other-number q (λ z. omega arith), λ (_, h, _). absurd (never-unknown ts i h u));
    }

    known-codes : AllKnown ts → (r : Paper) → AnswersFrom 0 b ts r → AgreedScalar b ts r
    known-codes h r w =
        record {
          unknown_base = (λ q. absurd (w.known 0 q), λ (a, e, l). let m : a < scalar_count = k a e in absurd (omega arith));
          unknown_component = λ i. (λ q. absurd (w.known (1 + i) q), λ (_, u). absurd (never-unknown ts i h u));
          nothing = w.nothing;
          agreement = λ s. (λ q. (k, h, (w.given s).0 q), λ (_, _, c). (w.given s).1 c);
          broken = λ i. (λ q. (k, h, here i q), λ (_, _, c). (w.refused i).1 (i, omega arith, c));
        }
      where
        here : (i : ℕ) → r ≡ refusal 12 i (255 ∷ []) → Breaks b ts i
        here i q = let (j, e, c) = (w.refused i).0 q in let p : j ≡ i = omega arith in rw p at c

    known_base : (r : Paper) → AnswersFrom 0 b ts r → AgreedScalar b ts (if_known_all ts (255 ∷ []) r)
    known_base r w = go (ltb (first_unknown ts) (length ts)) refl
      where
        go : (y : Bool) → ltb (first_unknown ts) (length ts) ≡ y → AgreedScalar b ts (choose y (refusal 7 (1 + first_unknown ts) (255 ∷ [])) r)
        go true e = component_unknown (first_unknown ts) (first_unknown_lem ts (ltb-true (first_unknown ts) (length ts) e))
        go false e = known-codes (all_known ts (ltb-false (first_unknown ts) (length ts) e)) r w

-- ---- all of it

pub agreed-exactly : (b : Option Scalar) (ts : List ℕ) → AgreedScalar b ts (agreed b ts)
unfolding agreed
agreed-exactly None ts = known_base None ts (λ a e. no_base a e) (agree_with_first ts) (without_base ts)
agreed-exactly (Some a) ts = go (ltb a.0 scalar_count) refl
  where
    go : (y : Bool) → ltb a.0 scalar_count ≡ y → AgreedScalar (Some a) ts (choose y (if_known_all ts (255 ∷ []) (agree a.0 0 ts)) (refusal 7 0 (255 ∷ [])))
    go true e =
        let h : a.0 < scalar_count = ltb-true a.0 scalar_count e in
        known_base (Some a) ts (λ c f. let z : a.0 ≡ c = same_base a.0 c f in omega arith) (agree a.0 0 ts) (with_base a.0 0 ts h)
    go false e = base_unknown (Some a) ts a.0 refl (ltb-false a.0 scalar_count e)
