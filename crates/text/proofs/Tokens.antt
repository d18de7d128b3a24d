-- The tokens of a text, by the byte that stands at an offset, and where the next token stands. Assumes nothing.
use mathlib.Core.Path.{◌≡◌, refl, sym, ap, ◌∙◌, subst⁻¹}
use mathlib.Core.Bool.{Bool, true, false, cond, not}
use mathlib.Core.List.{List, [], ◌∷◌}
use Prim.Native.Nat.{ℕ, suc, ◌+◌, ◌≤◌, ◌<◌}
use native.Mathlib.Omega.{arith}
use native.Mathlib.Numerals.{add-one}
use borrow.Author.Tests.{ne_eqb, le-leb, lt-leb, leb-false}
use lib.Dec.{eqb, leb}
use lib.ListN.{length, get_or, take, drop, length-drop}
use lib.Seq.{drop-cons, get_or-drop}
use Rattle.std.specs.List.{prefix_len}
use Rattle.std.proofs.lemmas.List.Folds.{length-prefix_len}
use Rattle.scalars.specs.Mask.{choose}
use Rattle.text.specs.Tokens.{space_byte, open_byte, close_byte, comma_byte, separates, gap, extent, token_at, next}
use Rattle.text.specs.private.Placed.{Placed}
use Rattle.text.specs.declared.token.Token.{Token}
use Rattle.text.specs.declared.token.Token.TheVariants.{Open, Close, Comma, Run, End}

-- ---- spaces and runs, counted

spaces_counted : (s : List ℕ) → prefix_len (λ b. eqb b space_byte) s ≡ gap s
unfolding gap
spaces_counted [] = refl
spaces_counted (b ∷ s) = step (eqb b space_byte) (spaces_counted s)
  where
    step : (t : Bool) {m n : ℕ} → m ≡ n → cond t (1 + m) 0 ≡ choose t (suc n) 0
    step true e = omega arith
    step false e = refl

pub gap-counted : (s : List ℕ) → length (take (prefix_len (λ b. eqb b space_byte) s) s) ≡ gap s
gap-counted s = length-prefix_len (λ b. eqb b space_byte) s ∙ spaces_counted s

run-counted : (s : List ℕ) → prefix_len (λ b. not (separates b)) s ≡ extent s
unfolding extent
run-counted [] = refl
run-counted (b ∷ s) = step (separates b) (run-counted s)
  where
    step : (t : Bool) {m n : ℕ} → m ≡ n → cond (not t) (1 + m) 0 ≡ choose t 0 (suc n)
    step true e = refl
    step false e = omega arith

pub extent-counted : (s : List ℕ) → length (take (prefix_len (λ b. not (separates b)) s) s) ≡ extent s
extent-counted s = length-prefix_len (λ b. not (separates b)) s ∙ run-counted s

-- a run has the byte in front of it, where that byte is no separator
extent-step : (s : List ℕ) (p : ℕ) → p < length s → separates (get_or s p 0) ≡ false → p + extent (drop p s) ≡ p + 1 + extent (drop (p + 1) s)
unfolding extent
extent-step s p h e =
    let head : drop p s ≡ get_or s p 0 ∷ drop (p + 1) s = rw (add-one, drop-cons s p 0) in
    let k : extent (drop p s) ≡ suc (extent (drop (p + 1) s)) = ap extent head ∙ simp e in
    omega arith

-- ---- the next token, by the byte at its place

module _ (s : List ℕ) (at p : ℕ) (e : p ≡ at + gap (drop at s)) where
  to-place : next s at ≡ token_at s p
  unfolding next
  to-place = ap (token_at s) (sym e)

  pub is-end : length s ≤ p → End p ≡ next s at
  unfolding token_at
  is-end h = sym (to-place ∙ simp (le-leb (length s) p h))

  module _ (h : p < length s) (b : ℕ) (byte : b ≡ get_or s p 0) where
    pub is_open : b ≡ open_byte → Open p ≡ next s at
    unfolding token_at
    is_open x = let e : get_or s p 0 ≡ open_byte = sym byte ∙ x in sym (to-place ∙ simp (lt-leb (length s) p h, e))

    pub is_close : b ≡ close_byte → Close p ≡ next s at
    unfolding token_at
    is_close x = let e : get_or s p 0 ≡ close_byte = sym byte ∙ x in sym (to-place ∙ simp (lt-leb (length s) p h, e))

    pub is_comma : b ≡ comma_byte → Comma p ≡ next s at
    unfolding token_at
    is_comma x = let e : get_or s p 0 ≡ comma_byte = sym byte ∙ x in sym (to-place ∙ simp (lt-leb (length s) p h, e))

    pub is-run : (b ≡ open_byte → ⊥) → (b ≡ close_byte → ⊥) → (b ≡ comma_byte → ⊥) → (z : ℕ) → z ≡ p + extent (drop p s)
        → Run p z ≡ next s at
    unfolding token_at
    is-run x y w z d =
        ap (Run p) d
        ∙ sym (to-place ∙ simp (lt-leb (length s) p h, sym byte, ne_eqb b open_byte x, ne_eqb b close_byte y, ne_eqb b comma_byte w))

-- ---- where the next token stands

-- no space is left behind the spaces in front
gap_head : (l : List ℕ) → gap l < length l → eqb (get_or l (gap l) 0) space_byte ≡ false
unfolding gap
gap_head [] h = absurd (omega arith)
gap_head (b ∷ l) h = go (eqb b space_byte) refl (gap_head l) h
  where
    go : (t : Bool) → eqb b space_byte ≡ t → (gap l < length l → eqb (get_or l (gap l) 0) space_byte ≡ false)
        → choose t (suc (gap l)) 0 < suc (length l) → eqb (get_or (b ∷ l) (choose t (suc (gap l)) 0) 0) space_byte ≡ false
    go true e r h = r (omega arith)
    go false e r h = e

gap-passed : (s : List ℕ) (at : ℕ) → at + gap (drop at s) < length s → eqb (get_or s (at + gap (drop at s)) 0) space_byte ≡ false
gap-passed s at h =
    sym (ap (λ b. eqb b space_byte) (get_or-drop at s (gap (drop at s)) 0)) ∙ gap_head (drop at s) (omega (arith, length-drop at s))

none-separates : (b : ℕ) → eqb b space_byte ≡ false → eqb b open_byte ≡ false → eqb b close_byte ≡ false → eqb b comma_byte ≡ false
    → separates b ≡ false
unfolding separates
none-separates b i j k l = simp (i, j, k, l)

extent-within : (l : List ℕ) → extent l ≤ length l
unfolding extent
extent-within [] = omega arith
extent-within (b ∷ l) = go (separates b) (extent-within l)
  where
    go : (t : Bool) → extent l ≤ length l → choose t 0 (suc (extent l)) ≤ suc (length l)
    go true h = omega arith
    go false h = omega arith

either_way : {A : Type 0} (P : A → Type 0) (b : Bool) (x y : A) → (b ≡ true → P x) → (b ≡ false → P y) → P (choose b x y)
either_way P true x y f g = f refl
either_way P false x y f g = g refl

placed_at : (s : List ℕ) (at p : ℕ) → at ≤ p → (p < length s → eqb (get_or s p 0) space_byte ≡ false) → Placed s at (token_at s p)
unfolding token_at
placed_at s at p l g =
    either_way (Placed s at) (leb (length s) p) (End p) _ (λ h. l) (λ h.
    let k = leb-false (length s) p h in
    either_way (Placed s at) (eqb (get_or s p 0) open_byte) (Open p) _ (λ o. (l, k)) (λ o.
    either_way (Placed s at) (eqb (get_or s p 0) close_byte) (Close p) _ (λ c. (l, k)) (λ c.
    either_way (Placed s at) (eqb (get_or s p 0) comma_byte) (Comma p) _ (λ m. (l, k)) (λ m.
    (l, omega (arith, extent-step s p k (none-separates (get_or s p 0) (g k) o c m)), omega (arith, extent-within (drop p s), length-drop p s))))))

pub placed : (s : List ℕ) (at : ℕ) {t : Token} → t ≡ next s at → Placed s at t
unfolding next
placed s at e = subst⁻¹ (Placed s at) e (placed_at s at (at + gap (drop at s)) (omega arith) (gap-passed s at))
