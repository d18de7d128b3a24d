-- Type codes: which answers are one, and which types have a scalar. Assumes nothing.
use mathlib.Core.Path.{◌≡◌, refl, ap}
use mathlib.Core.Bool.{Bool, true, false}
use mathlib.Core.List.{List, [], ◌∷◌}
use Prim.Native.Nat.{ℕ, ◌%◌, ◌≤◌, ◌<◌}
use Rattle.std.specs.Prelude.{Option, Some, None, Result, Ok, Err}
use native.Mathlib.Omega.{arith}
use lib.Dec.{T, eqb, eqb→eq, leb, ltb}
use borrow.Author.Tests.{ltb-true, ltb-false}
use Rattle.types.specs.Domain.{constructor_count, last_code, other_type}
use Rattle.scalars.specs.Domain.{scalar_count}
use Rattle.scalars.specs.Mask.{choose}
use Rattle.types.specs.TypeCode.{if_both, leaf_scalar}
use Rattle.scalars.specs.Paper.{Paper, accepted, refusal, refused, verdict_paper, unused}
use Rattle.types.specs.TypePaper.{leaf_paper}
use Rattle.scalars.specs.declared.refusal.Refusal.{Refusal}
use Rattle.scalars.specs.declared.scalar_set.Scalar.{Scalar}

-- ---- an answer that is a code

abbrev pub is_code : ℕ → Paper → Bool
is_code t (accepted (c ∷ [])) = eqb c t
is_code t (accepted []) = false
is_code t (accepted (c ∷ d ∷ vs)) = false
is_code t (refusal n p vs) = false

pub is_code_lem : (t : ℕ) (p : Paper) → T (is_code t p) → p ≡ accepted (t ∷ [])
is_code_lem t (accepted (c ∷ [])) h = ap (λ (n : ℕ). accepted (n ∷ [])) (eqb→eq c t h)
is_code_lem t (accepted []) h = absurd h
is_code_lem t (accepted (c ∷ d ∷ vs)) h = absurd h
is_code_lem t (refusal n p vs) h = absurd h

-- ---- a value type has a scalar, and nothing else has

module _ (t : ℕ) where
  leaf_case : (P : Paper → Type 0) → (t < other_type → P (accepted (t % scalar_count ∷ []))) → (other_type ≤ t → P (accepted [])) → (other_type ≤ t → P (refusal 7 0 (unused ∷ []))) → P (leaf_scalar t)
  unfolding leaf_scalar
  leaf_case P some none beyond = go (ltb t other_type) (leb t last_code) refl
    where
      go : (x y : Bool) → ltb t other_type ≡ x → P (choose x (accepted (t % scalar_count ∷ [])) (choose y (accepted []) (refusal 7 0 (unused ∷ []))))
      go true y a = some (ltb-true _ _ a)
      go false true a = none (ltb-false _ _ a)
      go false false a = beyond (ltb-false _ _ a)

  pub leaf-some : {s : ℕ} → leaf_scalar t ≡ accepted (s ∷ []) → (t < other_type) × (t % scalar_count ≡ s)
  leaf-some {s} = leaf_case (λ p. p ≡ accepted (s ∷ []) → (t < other_type) × (t % scalar_count ≡ s)) (λ h e. (h, cc)) (λ h e. no e) (λ h e. let z : ◌≡◌ {A = ℕ} 0 1 = cc in absurd (omega arith))
    where
      no : {C : Type 0} → accepted [] ≡ accepted (s ∷ []) → C
      no e = let z : ◌≡◌ {A = ℕ} 0 1 = cc in absurd (omega arith)

  pub leaf-none : (x : Result (Option Scalar) Refusal) → leaf_paper x ≡ leaf_scalar t → ((s : Scalar) → x ≡ Ok (Some s) → ⊥) → other_type ≤ t
  leaf-none (Ok (Some s)) e k = absurd (k s refl)
  leaf-none (Ok None) e k = leaf_case (λ p. accepted [] ≡ p → other_type ≤ t) (λ h e. let z : ◌≡◌ {A = ℕ} 0 1 = cc in absurd (omega arith)) (λ h e. h) (λ h e. h) e
  leaf-none (Err why) e k = leaf_case (λ p. leaf_paper (Err why) ≡ p → other_type ≤ t) (λ h e. let z : ◌≡◌ {A = ℕ} 0 1 = cc in absurd (omega arith)) (λ h e. h) (λ h e. h) e

-- what follows the test that two numbers are known: its refusal with these values, or the answer
module _ (first second : Bool) (vs : List ℕ) (answer : Paper) where
  pub unknown_refused : (why : Refusal) → verdict_paper (Err why) ≡ if_both first second [] (accepted []) → refused why vs ≡ if_both first second vs answer
  unknown_refused why e = go first second e
    where
      go : (x y : Bool) → verdict_paper (Err why) ≡ if_both x y [] (accepted []) → refused why vs ≡ if_both x y vs answer
      go true true e = let z : ◌≡◌ {A = ℕ} 0 1 = cc in absurd (omega arith)
      go true false e = cc
      go false y e = cc

  pub known_answers : accepted [] ≡ if_both first second [] (accepted []) → answer ≡ if_both first second vs answer
  known_answers e = go first second e
    where
      go : (x y : Bool) → accepted [] ≡ if_both x y [] (accepted []) → answer ≡ if_both x y vs answer
      go true true e = refl
      go true false e = let z : ◌≡◌ {A = ℕ} 0 1 = cc in absurd (omega arith)
      go false y e = let z : ◌≡◌ {A = ℕ} 0 1 = cc in absurd (omega arith)

-- where both passed
pub both_true : (first second : Bool) → accepted [] ≡ if_both first second [] (accepted []) → (first ≡ true) × (second ≡ true)
both_true true true e = (refl, refl)
both_true true false e = let z : ◌≡◌ {A = ℕ} 0 1 = cc in absurd (omega arith)
both_true false second e = let z : ◌≡◌ {A = ℕ} 0 1 = cc in absurd (omega arith)

-- an answer that is a code passed each test before it
module _ (k s t : ℕ) where
  pub if_known : (answer : Paper) → if_both (ltb k constructor_count) (ltb s scalar_count) (unused ∷ []) answer ≡ accepted (t ∷ []) → (k < constructor_count) × (s < scalar_count) × (answer ≡ accepted (t ∷ []))
  if_known answer e = go (ltb k constructor_count) (ltb s scalar_count) refl refl e
    where
      go : (x y : Bool) → ltb k constructor_count ≡ x → ltb s scalar_count ≡ y → choose x (choose y answer (refusal 7 1 (unused ∷ []))) (refusal 7 0 (unused ∷ [])) ≡ accepted (t ∷ [])
          → (k < constructor_count) × (s < scalar_count) × (answer ≡ accepted (t ∷ []))
      go true true a b e = (ltb-true _ _ a, ltb-true _ _ b, e)
      go true false a b e = let z : ◌≡◌ {A = ℕ} 0 1 = cc in absurd (omega arith)
      go false y a b e = let z : ◌≡◌ {A = ℕ} 0 1 = cc in absurd (omega arith)
