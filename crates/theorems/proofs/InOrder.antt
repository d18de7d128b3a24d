-- The test of a call's operands, by the definition and by what it says: it passes exactly where every operand is in order, and refuses the
-- first that is not, by its number. Assumes nothing.
use mathlib.Core.Path.{◌≡◌, refl, sym, ap, ◌∙◌}
use mathlib.Core.Logic.{◌⊎◌, inl, inr}
use mathlib.Core.Bool.{Bool, true, false, true≢false}
use mathlib.Core.List.{List, [], ◌∷◌}
use Prim.Native.Nat.{ℕ, zero, suc, ◌+◌, ◌<◌}
use native.Mathlib.Omega.{arith}
use borrow.Author.Tests.{leb-true, leb-false}
use lib.Dec.{leb, eqb}
use lib.ListN.{length, get_or}
use Rattle.scalars.specs.Mask.{choose}
use Rattle.scalars.specs.Paper.{Paper, refusal}
use Rattle.types.specs.Domain.{last_code, known?}
use Rattle.types.specs.Operand.{measured_mark, mark?, operand_of, measured_abstract}
use Rattle.calls.specs.Call.{operand_fault, if_operands}
use Rattle.theorems.specs.Known.{AllKnown}
use Rattle.theorems.specs.InOrder.{Right, Wrong, unknown_type, unknown_mark, measured_and_abstract, AllRight, FirstWrong}

-- ---- one operand

-- its fault's number is 0 and it is in order, or its fault is this number
abbrev Tested : ℕ → ℕ → ℕ → Type 0
Tested t m n = ((n ≡ 0) × Right t m) ⊎ ((eqb n 0 ≡ false) × Wrong t m n)

tested : (t m : ℕ) → Tested t m (operand_fault t m)
tested t m = go (known? t) (mark? m) (measured_abstract (operand_of t m)) refl refl refl
  where
    go : (x y z : Bool) → known? t ≡ x → mark? m ≡ y → measured_abstract (operand_of t m) ≡ z
        → Tested t m (choose x (choose y (choose z 17 0) 7) 7)
    go false y z a b c = inr (refl, unknown_type (leb-false t last_code a))
    go true false z a b c = inr (refl, unknown_mark (leb-true t last_code a) (leb-false m measured_mark b))
    go true true true a b c = inr (refl, measured_and_abstract (leb-true t last_code a) (leb-true m measured_mark b) c)
    go true true false a b c =
        inl (refl, record { known_type = leb-true t last_code a; known-mark = leb-true m measured_mark b; not_abstract = c })

-- nothing is both
pub right-wrong : {A : Type 0} (t m n : ℕ) → Right t m → Wrong t m n → A
right-wrong t m _ r (unknown_type h) = absurd (omega (arith, r.known_type))
right-wrong t m _ r (unknown_mark k h) = absurd (omega (arith, r.known-mark))
right-wrong t m _ r (measured_and_abstract k l h) = absurd (true≢false (sym h ∙ r.not_abstract))

-- the number is 7 or 17, and one alone
pub wrong_number : {A : Type 0} (t m n : ℕ) → (n ≡ 7 → ⊥) → (n ≡ 17 → ⊥) → Wrong t m n → A
wrong_number t m _ h k (unknown_type _) = absurd (h refl)
wrong_number t m _ h k (unknown_mark _ _) = absurd (h refl)
wrong_number t m _ h k (measured_and_abstract _ _ _) = absurd (k refl)

pub wrong-one : (t m a b : ℕ) → Wrong t m a → Wrong t m b → a ≡ b
wrong-one t m _ _ (unknown_type h) (unknown_type h') = refl
wrong-one t m _ _ (unknown_type h) (unknown_mark k' h') = refl
wrong-one t m _ _ (unknown_type h) (measured_and_abstract k' l' h') = absurd (omega arith)
wrong-one t m _ _ (unknown_mark k h) (unknown_type h') = refl
wrong-one t m _ _ (unknown_mark k h) (unknown_mark k' h') = refl
wrong-one t m _ _ (unknown_mark k h) (measured_and_abstract k' l' h') = absurd (omega arith)
wrong-one t m _ _ (measured_and_abstract k l h) (unknown_type h') = absurd (omega arith)
wrong-one t m _ _ (measured_and_abstract k l h) (unknown_mark k' h') = absurd (omega arith)
wrong-one t m _ _ (measured_and_abstract k l h) (measured_and_abstract k' l' h') = refl

-- ---- operands one after the other

-- the test passes, where all are in order, or refuses the first that is not, whatever the answer's values
pub data Outcome (ts ms : List ℕ) (k : ℕ) : Type 0 where
  passes : AllRight ts ms → ((vs : List ℕ) (answer : Paper) → if_operands k ts ms vs answer ≡ answer) → Outcome ts ms k
  refuses : (n i : ℕ) → FirstWrong ts ms n i → ((vs : List ℕ) (answer : Paper) → if_operands k ts ms vs answer ≡ refusal n (1 + (k + i)) vs) → Outcome ts ms k

module _ (t m : ℕ) (ts ms : List ℕ) (k : ℕ) (same : length ts ≡ length ms) where
  -- behind an operand in order
  all_right : Right t m → AllRight ts ms → AllRight (t ∷ ts) (m ∷ ms)
  all_right r h = record { beside = ap suc h.beside; right = each }
    where
      each : (j : ℕ) → j < suc (length ts) → Right (get_or (t ∷ ts) j 0) (get_or (m ∷ ms) j 0)
      each zero l = r
      each (suc j) l = h.right j (omega arith)

  later-wrong : (n i : ℕ) → Right t m → FirstWrong ts ms n i → FirstWrong (t ∷ ts) (m ∷ ms) n (suc i)
  later-wrong n i r w = record { beside = ap suc same; there = omega (arith, w.there); wrong = w.wrong; before = each }
    where
      each : (j : ℕ) → j < suc i → Right (get_or (t ∷ ts) j 0) (get_or (m ∷ ms) j 0)
      each zero l = r
      each (suc j) l = w.before j (omega arith)

  here-wrong : (n : ℕ) → Wrong t m n → FirstWrong (t ∷ ts) (m ∷ ms) n 0
  here-wrong n w = record { beside = ap suc same; there = omega arith; wrong = w; before = λ j l. absurd (omega arith) }

  abbrev turn : List ℕ → Paper → ℕ → Paper
  turn vs answer n = choose (eqb n 0) (if_operands (suc k) ts ms vs answer) (refusal n (1 + k) vs)

  in_front : (n : ℕ) → operand_fault t m ≡ n → Tested t m n → Outcome ts ms (suc k) → Outcome (t ∷ ts) (m ∷ ms) k
  in_front n e (inr (z, w)) rest =
      refuses n 0 (here-wrong n w)
      (λ vs answer. ap (turn vs answer) e ∙ ap (λ b. choose b (if_operands (suc k) ts ms vs answer) (refusal n (1 + k) vs)) z ∙ ap (λ j. refusal n j vs) (omega arith))
  in_front n e (inl (z, r)) (passes all go) =
      passes (all_right r all) (λ vs answer. ap (turn vs answer) (e ∙ z) ∙ go vs answer)
  in_front n e (inl (z, r)) (refuses c i w go) =
      refuses c (suc i) (later-wrong c i r w)
      (λ vs answer. ap (turn vs answer) (e ∙ z) ∙ go vs answer ∙ ap (λ j. refusal c j vs) (omega arith))

pub outcome : (ts ms : List ℕ) (k : ℕ) → length ts ≡ length ms → Outcome ts ms k
outcome [] [] k e = passes (record { beside = refl; right = λ j l. absurd (omega arith) }) (λ vs answer. refl)
outcome [] (m ∷ ms) k e = absurd (omega arith)
outcome (t ∷ ts) [] k e = absurd (omega arith)
outcome (t ∷ ts) (m ∷ ms) k e =
    let same : length ts ≡ length ms = omega arith in
    in_front t m ts ms k same (operand_fault t m) refl (tested t m) (outcome ts ms (suc k) same)

-- ---- the first is one alone

module _ (ts ms : List ℕ) where
  pub wrong-place : (a b i j : ℕ) → FirstWrong ts ms a i → FirstWrong ts ms b j → (a ≡ b) × (i ≡ j)
  wrong-place a b i j u w = go (leb i j) (leb j i) refl refl
    where
      same : i ≡ j → (a ≡ b) × (i ≡ j)
      same e = (wrong-one (get_or ts i 0) (get_or ms i 0) a b u.wrong (rw (sym e) at w.wrong), e)

      go : (x y : Bool) → leb i j ≡ x → leb j i ≡ y → (a ≡ b) × (i ≡ j)
      go true true e f = same (omega (arith, leb-true i j e, leb-true j i f))
      go true false e f = right-wrong (get_or ts i 0) (get_or ms i 0) a (w.before i (omega (arith, leb-false j i f))) u.wrong
      go false y e f = right-wrong (get_or ts j 0) (get_or ms j 0) b (u.before j (omega (arith, leb-false i j e))) w.wrong

  pub never-wrong : {A : Type 0} (n i : ℕ) → AllRight ts ms → FirstWrong ts ms n i → A
  never-wrong n i all w = right-wrong (get_or ts i 0) (get_or ms i 0) n (all.right i w.there) w.wrong

  pub right-known : AllRight ts ms → AllKnown ts
  right-known all k l = (all.right k l).known_type
