-- The paper's numbers determine each answer: two answers of one kind with the same number, place and values are equal. Shown by a
-- function that reads the answer back. Assumes nothing.
use mathlib.Core.Path.{◌≡◌, refl, sym, ap, ◌∙◌}
use mathlib.Core.Bool.{Bool, true, false}
use mathlib.Core.List.{List, [], ◌∷◌}
use Prim.Native.Nat.{ℕ}
use native.Mathlib.Omega.{arith}
use lib.Dec.{eqb}
use lib.ListN.{get_or, drop, length, replicate}
use Rattle.std.specs.Prelude.{Option, Some, None, Result, Ok, Err, IfSome}
use Rattle.scalars.specs.Mask.{choose, digit, odd}
use Rattle.scalars.specs.Refusal.{numbered}
use Rattle.scalars.specs.Paper.{Paper, accepted, refusal, unused, values, answer_paper, verdict_paper, test_paper, count_paper, scalar_paper, walk_paper, members_paper}
use Rattle.scalars.specs.declared.refusal.Refusal.{Refusal}
use Rattle.scalars.specs.declared.refusal.Refusal.TheVariants.{EmptySet, SeveralConstructors, TooMany, NoSuchArgument, WrongCount, WrongShape, Unknown, IllFormed, TooLarge, NoRoom, NothingToCombine, NoConsensus, NoConclusion, UnknownRun, Misplaced, WrongNumber, MeasuredAbstract}
use Rattle.scalars.specs.declared.scalar_set.Scalar.{Scalar}
use Rattle.scalars.specs.declared.one_bits_iter.OneBit.{OneBit}
use Rattle.scalars.specs.declared.one_bits_iter.OneBitsIter.{OneBitsIter}
use Rattle.scalars.specs.declared.one_bits_iter.Members.{Members}

-- ---- refusals

-- the refusal of a number and a place
unfoldable pub refusal_of : ℕ → ℕ → Refusal
refusal_of n p =
    choose (eqb n 1) (EmptySet p)
    (choose (eqb n 2) SeveralConstructors
    (choose (eqb n 3) TooMany
    (choose (eqb n 4) (NoSuchArgument p)
    (choose (eqb n 5) (WrongCount p)
    (choose (eqb n 6) (WrongShape p)
    (choose (eqb n 7) (Unknown p)
    (choose (eqb n 8) (IllFormed p)
    (choose (eqb n 9) (TooLarge p)
    (choose (eqb n 10) (NoRoom p)
    (choose (eqb n 11) NothingToCombine
    (choose (eqb n 12) (NoConsensus p)
    (choose (eqb n 13) NoConclusion
    (choose (eqb n 14) (UnknownRun p)
    (choose (eqb n 15) (Misplaced p)
    (choose (eqb n 16) (WrongNumber p)
    (MeasuredAbstract p))))))))))))))))

refused-back : (why : Refusal) → refusal_of (numbered why).0 (numbered why).1 ≡ why
unfolding refusal_of
refused-back (EmptySet p) = refl
refused-back SeveralConstructors = refl
refused-back TooMany = refl
refused-back (NoSuchArgument p) = refl
refused-back (WrongCount p) = refl
refused-back (WrongShape p) = refl
refused-back (Unknown p) = refl
refused-back (IllFormed p) = refl
refused-back (TooLarge p) = refl
refused-back (NoRoom p) = refl
refused-back NothingToCombine = refl
refused-back (NoConsensus p) = refl
refused-back NoConclusion = refl
refused-back (UnknownRun p) = refl
refused-back (Misplaced p) = refl
refused-back (WrongNumber p) = refl
refused-back (MeasuredAbstract p) = refl

pub refusal-one : (a b : Refusal) → (numbered a).0 ≡ (numbered b).0 → (numbered a).1 ≡ (numbered b).1 → a ≡ b
refusal-one a b n p = sym (refused-back a) ∙ ap (λ (k : ℕ). refusal_of k (numbered a).1) n ∙ ap (refusal_of (numbered b).0) p ∙ refused-back b

-- ---- an answer that is read back is the answer

unfoldable pub read : {A : Type 0} → (List ℕ → A) → (Refusal → A) → Paper → A
read f g (accepted vs) = f vs
read f g (refusal n p vs) = g (refusal_of n p)

pub one-to-one : {A : Type 0} (paper : A → Paper) (unpaper : Paper → A) → ((a : A) → unpaper (paper a) ≡ a) → (a b : A) → paper a ≡ paper b → a ≡ b
one-to-one paper unpaper back a b e = sym (back a) ∙ ap unpaper e ∙ back b

-- each kind of answer, from its values
module _ {A : Type 0} (vs : A → List ℕ) (ws : List ℕ) (un : List ℕ → A) (back : (x : A) → un (vs x) ≡ x) where
  answer_back : (a : Result A Refusal) → read (λ us. Ok (un us)) Err (answer_paper vs ws a) ≡ a
  unfolding read
  answer_back (Ok x) = ap Ok (back x)
  answer_back (Err why) = ap Err (refused-back why)

  pub answer-one : (a b : Result A Refusal) → answer_paper vs ws a ≡ answer_paper vs ws b → a ≡ b
  answer-one = one-to-one (answer_paper vs ws) (read (λ us. Ok (un us)) Err) answer_back

pub verdict_one : (a b : Result Unit Refusal) → verdict_paper a ≡ verdict_paper b → a ≡ b
verdict_one = answer-one (λ u. []) [] (λ us. tt) (λ u. refl)

pub test-one : (a b : Result Bool Refusal) → test_paper a ≡ test_paper b → a ≡ b
test-one = answer-one (λ b. digit b ∷ []) (unused ∷ []) (λ us. odd (get_or us 0 0)) (elim [ true ↦ refl | false ↦ refl ])

pub count-one : (a b : Result ℕ Refusal) → count_paper a ≡ count_paper b → a ≡ b
count-one = answer-one (λ n. n ∷ []) (unused ∷ []) (λ us. get_or us 0 0) (λ n. refl)

pub scalar-one : (a b : Result Scalar Refusal) → scalar_paper a ≡ scalar_paper b → a ≡ b
scalar-one = answer-one (λ s. s.0 ∷ []) (unused ∷ []) (λ us. record { 0 = get_or us 0 0 }) (λ s. refl)

pub members-one : (a b : Result Members Refusal) → members_paper a ≡ members_paper b → a ≡ b
members-one = answer-one (λ m. m.count ∷ m.numbers) (replicate 17 unused) (λ us. record { count = get_or us 0 0; numbers = drop 1 us }) (λ m. refl)

-- ---- a step of a walk: the bit, and where there is one, what is left of the walk

pub walk-one : (x y : Option OneBit) (t u : OneBitsIter) → walk_paper x t ≡ walk_paper y u → (x ≡ y) × IfSome x (λ b. t ≡ u)
walk-one (Some b) (Some d) t u e =
    let bit : b.0 ≡ d.0 = cc in
    let rest : t.0 ≡ u.0 = cc in
    (ap (λ (n : ℕ). Some (record { 0 = n })) bit, ap (λ (n : ℕ). record { 0 = n }) rest)
walk-one (Some b) None t u e = let z = ap (λ w. length (values w)) e in absurd (omega arith)
walk-one None (Some d) t u e = let z = ap (λ w. length (values w)) e in absurd (omega arith)
walk-one None None t u e = (refl, tt)
