-- The combination of two scalars is what specs/Combination.antt says. Assumes nothing.
use mathlib.Core.Path.{◌≡◌, refl, sym, ap, ◌∙◌}
use mathlib.Core.Bool.{Bool, true, false}
use mathlib.Core.List.{[], ◌∷◌}
use Prim.Native.Nat.{ℕ, ◌≤◌, ◌<◌}
use native.Mathlib.Omega.{arith}
use borrow.Author.Tests.{ltb-true, ltb-false, ne_eqb}
use lib.Dec.{eqb, ltb}
use Rattle.scalars.specs.Mask.{choose}
use Rattle.scalars.specs.Domain.{converts, scalar_count}
use Rattle.scalars.specs.Paper.{accepted, refusal, unused}
use Rattle.types.specs.TypePaper.{left, right}
use Rattle.types.specs.Conversion.{none, combination, side, combined, combine_of}
use Rattle.types.proofs.Conversions.{itself, alike}
use Rattle.theorems.specs.Combination.{Answers, Theorem}
use Rattle.theorems.proofs.Papers.{yes_not-no, refused-not}

-- values that differ in their number, or in the second value
none-not : {A : Type 0} {s m : ℕ} → accepted [] ≡ accepted (s ∷ m ∷ []) → A
none-not e = let z : ◌≡◌ {A = ℕ} 0 1 = cc in absurd (omega arith)

other-side : {A : Type 0} {s t m n : ℕ} → accepted (s ∷ m ∷ []) ≡ accepted (t ∷ n ∷ []) → (m ≡ n → ⊥) → A
other-side {m = m} {n = n} e h = let z : m ≡ n = cc in absurd (h z)

module _ (a b : ℕ) where
  module _ (h : a < scalar_count) (k : b < scalar_count) where
    by_left_lem : (c : ℕ) → c ≡ a → converts b a ≡ true → Answers a b (accepted (c ∷ left ∷ []))
    by_left_lem c is y = record {
      unknown_left = (λ q. refused-not (sym q), λ l. absurd (omega arith));
      unknown_right = (λ q. refused-not (sym q), λ (_, l). absurd (omega arith));
      by_left = λ s. (λ q. let e : c ≡ s = cc in ((h, k), sym e ∙ is, y), λ (_, e, _). ap (λ (n : ℕ). accepted (n ∷ left ∷ [])) (is ∙ sym e));
      by_right = λ s. (λ q. other-side q (λ z. omega arith), λ (_, _, x, n). absurd (n (alike a b h k x y)));
      nothing = (λ q. none-not (sym q), λ (_, _, f). yes_not-no y f);
    }

    by_right_lem : converts a b ≡ true → converts b a ≡ false → Answers a b (accepted (b ∷ right ∷ []))
    by_right_lem x y =
        record {
          unknown_left = (λ q. refused-not (sym q), λ l. absurd (omega arith));
          unknown_right = (λ q. refused-not (sym q), λ (_, l). absurd (omega arith));
          by_left = λ s. (λ q. other-side q (λ z. omega arith), λ (_, _, t). yes_not-no t y);
          by_right = λ s. (λ q. let e : b ≡ s = cc in ((h, k), sym e, x, unequal), λ (_, e, _, _). ap (λ (n : ℕ). accepted (n ∷ right ∷ [])) (sym e));
          nothing = (λ q. none-not (sym q), λ (_, f, _). yes_not-no x f);
        }
      where
        unequal : a ≡ b → ⊥
        unequal e = yes_not-no (ap (converts b) e ∙ itself b k) y

    neither : converts a b ≡ false → converts b a ≡ false → Answers a b (accepted [])
    neither x y = record {
      unknown_left = (λ q. refused-not (sym q), λ l. absurd (omega arith));
      unknown_right = (λ q. refused-not (sym q), λ (_, l). absurd (omega arith));
      by_left = λ s. (λ q. none-not q, λ (_, _, t). yes_not-no t y);
      by_right = λ s. (λ q. none-not q, λ (_, _, t, _). yes_not-no t x);
      nothing = (λ _. ((h, k), x, y), λ _. refl);
    }

    known : Answers a b (combined a b)
    unfolding combined combination side
    known = go (converts a b) (converts b a) refl refl
      where
        go : (x y : Bool) → converts a b ≡ x → converts b a ≡ y
            → Answers a b
            (choose (eqb (choose x b (choose y a none)) none) (accepted [])
            (accepted (choose x b (choose y a none) ∷ choose y left right ∷ [])))
        go true true p q = rw (ne_eqb b none (λ e. omega arith)) (by_left_lem b (alike b a k h q p) q)
        go true false p q = rw (ne_eqb b none (λ e. omega arith)) (by_right_lem p q)
        go false true p q = rw (ne_eqb a none (λ e. omega arith)) (by_left_lem a refl q)
        go false false p q = neither p q

  left-unknown : scalar_count ≤ a → Answers a b (refusal 7 0 (unused ∷ unused ∷ []))
  left-unknown l = record {
    unknown_left = (λ _. l, λ _. refl);
    unknown_right = (λ q. let z : ◌≡◌ {A = ℕ} 0 1 = cc in absurd (omega arith), λ (h, _). absurd (omega arith));
    by_left = λ s. (refused-not, λ ((h, _), _, _). absurd (omega arith));
    by_right = λ s. (refused-not, λ ((h, _), _, _, _). absurd (omega arith));
    nothing = (refused-not, λ ((h, _), _, _). absurd (omega arith));
  }

  right-unknown : a < scalar_count → scalar_count ≤ b → Answers a b (refusal 7 1 (unused ∷ unused ∷ []))
  right-unknown h l = record {
    unknown_left = (λ q. let z : ◌≡◌ {A = ℕ} 1 0 = cc in absurd (omega arith), λ m. absurd (omega arith));
    unknown_right = (λ _. (h, l), λ _. refl);
    by_left = λ s. (refused-not, λ ((_, k), _, _). absurd (omega arith));
    by_right = λ s. (refused-not, λ ((_, k), _, _, _). absurd (omega arith));
    nothing = (refused-not, λ ((_, k), _, _). absurd (omega arith));
  }

  exactly : Answers a b (combine_of a b)
  unfolding combine_of
  exactly = go (ltb a scalar_count) (ltb b scalar_count) refl refl
    where
      go : (x y : Bool) → ltb a scalar_count ≡ x → ltb b scalar_count ≡ y
          → Answers a b (choose x (choose y (combined a b) (refusal 7 1 (unused ∷ unused ∷ []))) (refusal 7 0 (unused ∷ unused ∷ [])))
      go true true p q = known (ltb-true a scalar_count p) (ltb-true b scalar_count q)
      go true false p q = right-unknown (ltb-true a scalar_count p) (ltb-false b scalar_count q)
      go false y p q = left-unknown (ltb-false a scalar_count p)

pub combining : Theorem
combining κs a r v p = rw p (exactly a.0.0 a.1.0.0)
