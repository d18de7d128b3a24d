-- Consensus is what specs/Consensus.antt says, scalars and refusals by AgreedScalar, and who gave a scalar by Givers. Assumes nothing.
use mathlib.Core.Path.{◌≡◌, refl, sym, ap, ap₂, ◌∙◌}
use mathlib.Core.Bool.{Bool, true, false}
use mathlib.Core.List.{List, [], ◌∷◌}
use Prim.Native.Nat.{ℕ, suc, ◌+◌}
use lib.Dec.{eqb, ltb}
use lib.ListN.{length}
use Rattle.scalars.specs.Mask.{choose}
use Rattle.scalars.specs.Domain.{scalar_count}
use Rattle.scalars.specs.Paper.{Paper, accepted, refusal, unused}
use Rattle.types.specs.Domain.{value?, scalar_part, first_unknown}
use Rattle.types.specs.TypePaper.{giver_values, no_consensus}
use Rattle.types.specs.Conversion.{none, combination, agree, agree_with_first, if_known_all, agreed, giver_of, with_giver, consensus_of}
use Rattle.std.specs.Prelude.{Option, Some, None}
use Rattle.scalars.specs.declared.scalar_set.Scalar.{Scalar}
use Rattle.theorems.specs.Consensus.{Answers, without_giver, Theorem}
use Rattle.theorems.proofs.Papers.{refused-not}
use Rattle.theorems.proofs.AgreedScalar.{AgreedScalar, agreed-exactly}
use Rattle.theorems.proofs.Givers.{gave, given_by}

-- ---- but for the giver an answer has one value

data Single : Paper → Type 0 where
  one_scalar : (s : ℕ) → Single (accepted (s ∷ []))
  no_scalar : (n p : ℕ) → Single (refusal n p (unused ∷ []))

either-single : (x : Bool) (p q : Paper) → Single p → Single q → Single (choose x p q)
either-single true p q h k = h
either-single false p q h k = k

agree-single : (best i : ℕ) (ts : List ℕ) → Single (agree best i ts)
unfolding agree
agree-single best i [] = one_scalar best
agree-single best i (t ∷ ts) =
    either-single (value? t) _ _
    (either-single (eqb (combination best (scalar_part t)) none) _ _ (no_scalar 12 i) (agree-single (combination best (scalar_part t)) (suc i) ts))
    (no_scalar 12 i)

first-single : (ts : List ℕ) → Single (agree_with_first ts)
first-single [] = no_scalar 11 0
first-single (t ∷ ts) = either-single (value? t) _ _ (agree-single (scalar_part t) 1 ts) (no_scalar 12 0)

known-single : (ts : List ℕ) (p : Paper) → Single p → Single (if_known_all ts (unused ∷ []) p)
known-single ts p h = either-single (ltb (first_unknown ts) (length ts)) _ _ (no_scalar 7 (1 + first_unknown ts)) h

agreed-single : (b : Option Scalar) (ts : List ℕ) → Single (agreed b ts)
unfolding agreed
agreed-single None ts = known-single ts (agree_with_first ts) (first-single ts)
agreed-single (Some a) ts =
    either-single (ltb a.0 scalar_count) _ _ (known-single ts (agree a.0 0 ts) (agree-single a.0 0 ts)) (no_scalar 7 0)

-- ---- with the giver

-- a refusal is told by its number and place
restated : {n m : ℕ} (p q : ℕ) (vs ws : List ℕ) → refusal n p vs ≡ refusal m q vs → refusal n p ws ≡ refusal m q ws
restated {n} {m} p q vs ws e =
    let f : n ≡ m = cc in
    let g : p ≡ q = cc in
    ap₂ (λ (k l : ℕ). refusal k l ws) f g

module _ (b : Option Scalar) (ts : List ℕ) where
  with_giver_lem : (p : Paper) → Single p → AgreedScalar b ts p → Answers b ts (with_giver (giver_of b ts) p)
  with_giver_lem p (one_scalar s) w =
      record {
        unknown_base = (λ q. refused-not (sym q), λ u. refused-not (sym (w.unknown_base.1 u)));
        unknown_component = λ i. (λ q. refused-not (sym q), λ u. refused-not (sym ((w.unknown_component i).1 u)));
        nothing = (λ q. refused-not (sym q), λ u. refused-not (sym (w.nothing.1 u)));
        agreement = λ t g. (
          λ q. let e : s ≡ t = cc in
              let f : giver_of b ts s ≡ giver_values g = cc in
              let (k, h, c) = (w.agreement t).0 (ap (λ (n : ℕ). accepted (n ∷ [])) e) in
              (k, h, c, gave ts t b c.offered g (ap (giver_of b ts) (sym e) ∙ f)),
          λ (k, h, c, y). let q : accepted (s ∷ []) ≡ accepted (t ∷ []) = (w.agreement t).1 (k, h, c) in
              let e : s ≡ t = cc in
              ap₂ (λ (n : ℕ) (vs : List ℕ). accepted (n ∷ vs)) e (ap (giver_of b ts) e ∙ given_by ts t b g y),
        );
        broken = λ i. (λ q. refused-not (sym q), λ u. refused-not (sym ((w.broken i).1 u)));
      }
  with_giver_lem p (no_scalar n at) w =
      record {
        unknown_base = (λ q. w.unknown_base.0 (back q), λ u. there (w.unknown_base.1 u));
        unknown_component = λ i. (λ q. (w.unknown_component i).0 (back q), λ u. there ((w.unknown_component i).1 u));
        nothing = (λ q. w.nothing.0 (back q), λ u. there (w.nothing.1 u));
        agreement = λ t g. (refused-not, λ (k, h, c, _). refused-not ((w.agreement t).1 (k, h, c)));
        broken = λ i. (λ q. (w.broken i).0 (back q), λ u. there ((w.broken i).1 u));
      }
    where
      back : {m l : ℕ} → refusal n at no_consensus ≡ refusal m l no_consensus → refusal n at (unused ∷ []) ≡ refusal m l (unused ∷ [])
      back {m} {l} q = restated at l no_consensus (unused ∷ []) q

      there : {m l : ℕ} → refusal n at (unused ∷ []) ≡ refusal m l (unused ∷ []) → refusal n at no_consensus ≡ refusal m l no_consensus
      there {m} {l} q = restated at l (unused ∷ []) no_consensus q

  without : (p : Paper) → Single p → without_giver (with_giver (giver_of b ts) p) ≡ p
  without p (one_scalar s) = refl
  without p (no_scalar n at) = refl

  answered : Answers b ts (consensus_of b ts)
  unfolding consensus_of
  answered = with_giver_lem (agreed b ts) (agreed-single b ts) (agreed-exactly b ts)

  same-scalar : without_giver (consensus_of b ts) ≡ agreed b ts
  unfolding consensus_of
  same-scalar = without (agreed b ts) (agreed-single b ts)

pub consensus : Theorem
consensus = record {
  answers = λ κs a r v p. rw p (answered a.0 a.1.0.now);
  scalars = λ κs a r v p. ap without_giver p ∙ same-scalar a.0 a.1.0.now;
}
