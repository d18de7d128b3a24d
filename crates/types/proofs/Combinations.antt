-- Conversion by sets; and the combination of two scalars: the table's rule, and what a combination says of the two.
-- Assumes nothing.
use mathlib.Core.Path.{◌≡◌, refl, sym, ap, ap₂, ◌∙◌}
use mathlib.Core.Bool.{Bool, true, false}
use mathlib.Core.List.{List, [], ◌∷◌}
use Prim.Native.Nat.{ℕ, ◌+◌, ◌*◌, ◌/◌, ◌%◌, ◌<◌}
use native.Mathlib.Omega.{arith}
use lib.Dec.{T, eqb, eqb→eq}
use lib.ListN.{length, get_or}
use borrow.Author.Tests.{lt-ltb, eq-eqb, ne_eqb, eqb-true, eqb-false}
use Rattle.scalars.specs.Mask.{choose, both, either, digit}
use Rattle.scalars.specs.Domain.{converts, scalar_count}
use Rattle.scalars.specs.Scalar.{member, convertible_from}
use Rattle.scalars.specs.Paper.{Paper, accepted}
use Rattle.types.specs.TypePaper.{left, right}
use Rattle.types.specs.Conversion.{converts_to, combination, side, combined, none}
use Rattle.types.specs.private.Agreeing.{pair_count, combinations}
use Rattle.scalars.proofs.Scalars.{reached}
use Rattle.scalars.proofs.Table.{at, entry}

-- whether a scalar converts, by its set
pub converts-told : (a b m : ℕ) {x : Bool} → a < scalar_count → b < scalar_count → m ≡ convertible_from a → member b m ≡ x → converts_to a b ≡ accepted (digit x ∷ [])
unfolding converts_to
converts-told a b m h k e f =
    simp (lt-ltb _ _ h, lt-ltb _ _ k) (ap (λ (y : Bool). accepted (digit y ∷ [])) (sym (reached a b h k) ∙ ap (member b) (sym e) ∙ f))

-- ---- the table, an entry for each ordered pair

-- what is read off an entry: nothing, or the one of the two scalars that it is, the left where both are, with its side
unfoldable pub read_off : ℕ → ℕ → ℕ → Paper
read_off a b c = choose (eqb c none) (accepted []) (choose (eqb c a) (accepted (a ∷ left ∷ [])) (accepted (b ∷ right ∷ [])))

-- whether an entry's scalar and side are those that conversion gives
abbrev fits? : ℕ → ℕ → ℕ → Bool
fits? a b c = either (eqb c none) (choose (eqb c a) (eqb (side a b) left) (both (eqb c b) (eqb (side a b) right)))

entry-reads : (a b c : ℕ) → c ≡ combination a b → T (fits? a b c) → read_off a b c ≡ combined a b
unfolding read_off combined
entry-reads a b c e t = rw (sym e) (go (eqb c none) (eqb c a) (eqb c b) refl refl t)
  where
    same : {s by : ℕ} → c ≡ s → side a b ≡ by → accepted (s ∷ by ∷ []) ≡ accepted (c ∷ side a b ∷ [])
    same p q = ap₂ (λ (n m : ℕ). accepted (n ∷ m ∷ [])) (sym p) (sym q)

    go : (x y z : Bool) → eqb c a ≡ y → eqb c b ≡ z → T (either x (choose y (eqb (side a b) left) (both z (eqb (side a b) right))))
        → choose x (accepted []) (choose y (accepted (a ∷ left ∷ [])) (accepted (b ∷ right ∷ [])))
        ≡ choose x (accepted []) (accepted (c ∷ side a b ∷ []))
    go true y z p q t = refl
    go false true z p q t = same (eqb-true c a p) (eqb→eq (side a b) left t)
    go false false true p q t = same (eqb-true c b q) (eqb→eq (side a b) right t)
    go false false false p q t = absurd t

-- the rule of the table, side included: one test, computed at each of its entries
pub table_rule : (a b : ℕ) → a < scalar_count → b < scalar_count → read_off a b (get_or combinations (a * scalar_count + b) 0) ≡ combined a b
unfolding combinations combination side converts
table_rule a b h k =
    let i : ℕ = a * scalar_count + b in
    let q : i / scalar_count ≡ a = omega arith in
    let r : i % scalar_count ≡ b = omega arith in
    entry-reads a b (get_or combinations i 0)
    (entry 0 (λ k. combination (k / scalar_count) (k % scalar_count)) pair_count i (omega arith) ∙ ap₂ combination q r)
    (rw (q, r) at (at (λ k c. fits? (k / scalar_count) (k % scalar_count) c) combinations tt i (omega arith)))

-- the three ways to read an entry of the table
module _ (t : List ℕ) (a b i : ℕ) (e : t ≡ combinations) (h : a < scalar_count) (k : b < scalar_count) (at : i ≡ a * scalar_count + b) where
  pub in_table : i < length t
  unfolding combinations
  in_table = rw e (omega arith)

  abbrev found : ℕ
  found = get_or t i 0

  rule : read_off a b found ≡ combined a b
  rule = rw (e, at) (table_rule a b h k)

  pub reads_nothing : found ≡ none → accepted [] ≡ combined a b
  unfolding read_off
  reads_nothing n = rw (eq-eqb found none n) at rule

  pub reads-left : (found ≡ none → ⊥) → found ≡ a → accepted (a ∷ left ∷ []) ≡ combined a b
  unfolding read_off
  reads-left n l = rw (ne_eqb found none n, eq-eqb found a l) at rule

  pub reads-right : (found ≡ none → ⊥) → (found ≡ a → ⊥) → accepted (b ∷ right ∷ []) ≡ combined a b
  unfolding read_off
  reads-right n l = rw (ne_eqb found none n, ne_eqb found a l) at rule

-- ---- what a combination says of the two

-- of two known scalars, a known one or none
pub combination-known : (a b : ℕ) → a < scalar_count → b < scalar_count → (combination a b ≡ none → ⊥) → combination a b < scalar_count
unfolding combination
combination-known a b h k n = go (converts a b) (converts b a) n
  where
    go : (x y : Bool) → (choose x b (choose y a none) ≡ none → ⊥) → choose x b (choose y a none) < scalar_count
    go true y n = k
    go false true n = h
    go false false n = absurd (n refl)

-- an answer with a scalar, and one without
module _ (a b : ℕ) where
  combined_case : (P : Paper → Type 0) → (combination a b ≡ none → P (accepted [])) → ((combination a b ≡ none → ⊥) → P (accepted (combination a b ∷ side a b ∷ []))) → P (combined a b)
  unfolding combined
  combined_case P nothing some = go (eqb (combination a b) none) refl
    where
      go : (x : Bool) → eqb (combination a b) none ≡ x → P (choose x (accepted []) (accepted (combination a b ∷ side a b ∷ [])))
      go true e = nothing (eqb-true _ _ e)
      go false e = some (eqb-false _ _ e)

  pub combined-some : {n m : ℕ} → accepted (n ∷ m ∷ []) ≡ combined a b → (combination a b ≡ none → ⊥) × (combination a b ≡ n) × (side a b ≡ m)
  combined-some {n} {m} =
      combined_case (λ p. accepted (n ∷ m ∷ []) ≡ p → (combination a b ≡ none → ⊥) × (combination a b ≡ n) × (side a b ≡ m))
      (λ h e. let z : ◌≡◌ {A = ℕ} 0 1 = cc in absurd (omega arith)) (λ h e. (h, cc, cc))

  pub combined-none : accepted [] ≡ combined a b → combination a b ≡ none
  combined-none = combined_case (λ p. accepted [] ≡ p → combination a b ≡ none) (λ h e. h) (λ h e. let z : ◌≡◌ {A = ℕ} 0 1 = cc in absurd (omega arith))
