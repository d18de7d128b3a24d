-- What stands in a text at a token, and which token stands where the bytes are known. Assumes nothing.
use mathlib.Core.Path.{◌≡◌, refl, sym, ap, ap₂, ◌∙◌, subst}
use mathlib.Core.Bool.{Bool, true, false}
use mathlib.Core.List.{List, [], ◌∷◌, ◌++◌}
use Prim.Native.Nat.{ℕ, zero, suc, ◌+◌, ◌-◌, ◌≤◌, ◌<◌}
use native.Mathlib.Omega.{arith}
use borrow.Author.Tests.{eqb-true, ne_eqb, le-leb, lt-leb, leb-true, leb-false}
use lib.ListN.{length, get_or, take, drop, length-drop, length-replicate, take-append-drop}
use lib.Seq.{drop-drop, take-append_seam}
use lib.Dec.{eqb, leb}
use Rattle.scalars.specs.Mask.{choose, either}
use Rattle.expressions.proofs.Bytes.{head_at, Front, front, after}
use Rattle.text.specs.declared.token.Token.{Token}
use Rattle.text.specs.declared.token.Token.TheVariants.{Open, Close, Comma, Run, End}
use Rattle.text.specs.Tokens.{space_byte, open_byte, close_byte, comma_byte, separates, gap, extent, token_at, next, place}
use Rattle.text.specs.Grammar.{spaces}

pub clash : {A : Type 0} → false ≡ true → A
clash e = let z : ◌≡◌ {A = ℕ} 0 1 = cc in absurd (omega arith)

pub spaces-length : (k : ℕ) → length (spaces k) ≡ k
spaces-length k = length-replicate k space_byte

-- ---- gaps and runs

-- the gap in front of what is no space
gap_of : (k b : ℕ) (r : List ℕ) → (b ≡ space_byte → ⊥) → gap (spaces k ++ b ∷ r) ≡ k
unfolding gap
gap_of zero b r h = simp (ne_eqb b space_byte h)
gap_of (suc k) b r h = ap suc (gap_of k b r h)

gap-all : (k : ℕ) → gap (spaces k) ≡ k
unfolding gap
gap-all zero = refl
gap-all (suc k) = ap suc (gap-all k)

gap-split : (l : List ℕ) → l ≡ spaces (gap l) ++ drop (gap l) l
unfolding gap
gap-split [] = refl
gap-split (b ∷ l) = go (eqb b space_byte) refl (gap-split l)
  where
    go : (t : Bool) → eqb b space_byte ≡ t → l ≡ spaces (gap l) ++ drop (gap l) l
        → b ∷ l ≡ spaces (choose t (suc (gap l)) 0) ++ drop (choose t (suc (gap l)) 0) (b ∷ l)
    go true e r = ap₂ ◌∷◌ (eqb-true b space_byte e) r
    go false e r = refl

gap_within : (l : List ℕ) → gap l ≤ length l
unfolding gap
gap_within [] = omega arith
gap_within (b ∷ l) = go (eqb b space_byte) (gap_within l)
  where
    go : (t : Bool) → gap l ≤ length l → choose t (suc (gap l)) 0 ≤ suc (length l)
    go true h = omega arith
    go false h = omega arith

-- behind a gap there is none
gap-again : (l : List ℕ) → gap (drop (gap l) l) ≡ 0
unfolding gap
gap-again [] = refl
gap-again (b ∷ l) = go (eqb b space_byte) refl (gap-again l)
  where
    go : (t : Bool) → eqb b space_byte ≡ t → gap (drop (gap l) l) ≡ 0 → gap (drop (choose t (suc (gap l)) 0) (b ∷ l)) ≡ 0
    go true e r = r
    go false e r = simp e

extent-within : (l : List ℕ) → extent l ≤ length l
unfolding extent
extent-within [] = omega arith
extent-within (b ∷ l) = go (separates b) (extent-within l)
  where
    go : (t : Bool) → extent l ≤ length l → choose t 0 (suc (extent l)) ≤ suc (length l)
    go true h = omega arith
    go false h = omega arith

-- what ends a run: nothing, or a byte that separates
abbrev pub Ends : List ℕ → Type 0
Ends [] = Unit
Ends (b ∷ r) = separates b ≡ true

extent-ends : (l : List ℕ) → Ends (drop (extent l) l)
unfolding extent
extent-ends [] = tt
extent-ends (b ∷ l) = go (separates b) refl (extent-ends l)
  where
    go : (t : Bool) → separates b ≡ t → Ends (drop (extent l) l) → Ends (drop (choose t 0 (suc (extent l))) (b ∷ l))
    go true e r = e
    go false e r = r

-- a word has no byte that separates
abbrev pub clean : List ℕ → Bool
clean [] = true
clean (b ∷ s) = choose (separates b) false (clean s)

extent_of : (w r : List ℕ) → clean w ≡ true → Ends r → extent (w ++ r) ≡ length w
unfolding extent
extent_of [] [] c e = refl
extent_of [] (b ∷ r) c e = simp e
extent_of (b ∷ w) r c e = go (separates b) c (extent_of w r)
  where
    go : (t : Bool) → choose t false (clean w) ≡ true → (clean w ≡ true → Ends r → extent (w ++ r) ≡ length w)
        → choose t 0 (suc (extent (w ++ r))) ≡ suc (length w)
    go true x f = clash x
    go false x f = ap suc (f x e)

-- a byte that does not separate is none of the four
record Solid (b : ℕ) : Type 0 where
  no-space : eqb b space_byte ≡ false
  no_open : eqb b open_byte ≡ false
  no_close : eqb b close_byte ≡ false
  no_comma : eqb b comma_byte ≡ false

solid : (b : ℕ) → separates b ≡ false → Solid b
unfolding separates
solid b h = go (eqb b space_byte) (eqb b open_byte) (eqb b close_byte) (eqb b comma_byte) refl refl refl refl h
  where
    go : (w x y z : Bool) → eqb b space_byte ≡ w → eqb b open_byte ≡ x → eqb b close_byte ≡ y → eqb b comma_byte ≡ z
        → either w (either x (either y z)) ≡ false → Solid b
    go true x y z e f g i h = clash (sym h)
    go false true y z e f g i h = clash (sym h)
    go false false true z e f g i h = clash (sym h)
    go false false false true e f g i h = clash (sym h)
    go false false false false e f g i h = record { no-space = e; no_open = f; no_close = g; no_comma = i }

space-separates : (b : ℕ) → b ≡ space_byte → separates b ≡ true
unfolding separates
space-separates b e = ap separates e

-- ---- which token stands where the bytes are known

behind-spaces : (s r : List ℕ) (at k : ℕ) → drop at s ≡ spaces k ++ r → drop (at + k) s ≡ r
behind-spaces s r at k e = ap (λ j. drop (at + j) s) (sym (spaces-length k)) ∙ after s (spaces k) r at e

pub record SignAt (s : List ℕ) (at k : ℕ) (t : Token) (r : List ℕ) : Type 0 where
  pub token : next s at ≡ t
  pub rest : drop (at + k + 1) s ≡ r

module _ (s : List ℕ) (at k b : ℕ) (r : List ℕ) (e : drop at s ≡ spaces k ++ b ∷ r) (h : b ≡ space_byte → ⊥) where
  sign-front : Front s (at + k) (at + k + 1) b r
  sign-front = front s (at + k) (at + k + 1) b r refl (behind-spaces s (b ∷ r) at k e)

  to-sign : next s at ≡ token_at s (at + k)
  unfolding next
  to-sign = ap (λ j. token_at s (at + j)) (ap gap e ∙ gap_of k b r h)

module _ (s : List ℕ) (at k : ℕ) (r : List ℕ) where
  pub open_at : drop at s ≡ spaces k ++ open_byte ∷ r → SignAt s at k (Open (at + k)) r
  unfolding token_at
  open_at e =
      let f = sign-front s at k open_byte r e (λ z. omega arith) in
      record { token = to-sign s at k open_byte r e (λ z. omega arith) ∙ simp (lt-leb (length s) (at + k) f.here, f.byte); rest = f.behind }

  pub close_at : drop at s ≡ spaces k ++ close_byte ∷ r → SignAt s at k (Close (at + k)) r
  unfolding token_at
  close_at e =
      let f = sign-front s at k close_byte r e (λ z. omega arith) in
      record { token = to-sign s at k close_byte r e (λ z. omega arith) ∙ simp (lt-leb (length s) (at + k) f.here, f.byte); rest = f.behind }

  pub comma_at : drop at s ≡ spaces k ++ comma_byte ∷ r → SignAt s at k (Comma (at + k)) r
  unfolding token_at
  comma_at e =
      let f = sign-front s at k comma_byte r e (λ z. omega arith) in
      record { token = to-sign s at k comma_byte r e (λ z. omega arith) ∙ simp (lt-leb (length s) (at + k) f.here, f.byte); rest = f.behind }

pub record RunAt (s : List ℕ) (at k : ℕ) (w r : List ℕ) : Type 0 where
  pub token : next s at ≡ Run (at + k) (at + k + length w)
  pub run : take (at + k + length w - (at + k)) (drop (at + k) s) ≡ w
  pub rest : drop (at + k + length w) s ≡ r

pub run_at : (s : List ℕ) (at k : ℕ) (w r : List ℕ) → drop at s ≡ spaces k ++ (w ++ r) → 0 < length w → clean w ≡ true → Ends r
    → RunAt s at k w r
unfolding token_at
run_at s at k [] r e l c q = absurd (omega arith)
run_at s at k (b ∷ w) r e l c q = go (separates b) refl c
  where
    there : drop (at + k) s ≡ (b ∷ w) ++ r
    there = behind-spaces s ((b ∷ w) ++ r) at k e

    size : at + k + length (b ∷ w) - (at + k) ≡ length (b ∷ w)
    size = omega arith

    go : (t : Bool) → separates b ≡ t → choose t false (clean w) ≡ true → RunAt s at k (b ∷ w) r
    go true p x = clash x
    go false p x =
        let no-space : b ≡ space_byte → ⊥ = λ z. clash (sym p ∙ space-separates b z) in
        let f = sign-front s at k b (w ++ r) e no-space in
        let o = solid b p in
        let z : extent (drop (at + k) s) ≡ length (b ∷ w) = ap extent there ∙ extent_of (b ∷ w) r c q in
        record {
          token = to-sign s at k b (w ++ r) e no-space
              ∙ simp (lt-leb (length s) (at + k) f.here, f.byte, o.no_open, o.no_close, o.no_comma)
              (ap (λ x. Run (at + k) (at + k + x)) z);
          run = ap₂ take size there ∙ take-append_seam (b ∷ w) r;
          rest = after s (b ∷ w) r (at + k) there;
        }

pub end-at : (s : List ℕ) (at k : ℕ) → at ≤ length s → drop at s ≡ spaces k → next s at ≡ End (at + k)
unfolding next token_at
end-at s at k h e =
    let g : gap (drop at s) ≡ k = ap gap e ∙ gap-all k in
    let l : length s ≤ at + k = omega (arith, length-drop at s, ap length e, spaces-length k) in
    ap (λ j. token_at s (at + j)) g ∙ simp (le-leb (length s) (at + k) l)

-- ---- what stands at a token

-- a bracket or a comma
pub record SignHere (s : List ℕ) (b p : ℕ) : Type 0 where
  pub here : p < length s
  pub text : drop p s ≡ b ∷ drop (p + 1) s

-- a run; it does not begin with a byte that separates, and ends at one or at the text's end
pub record RunHere (s : List ℕ) (p e : ℕ) : Type 0 where
  pub some : p < e
  pub within : e ≤ length s
  pub text : drop p s ≡ take (e - p) (drop p s) ++ drop e s
  pub starts-so : separates (get_or s p 0) ≡ false
  pub ends_so : Ends (drop e s)

-- so no run stands right behind another
pub runs-apart : (s : List ℕ) (p e q f : ℕ) → RunHere s p e → RunHere s q f → q ≡ e → ⊥
runs-apart s p e q f x y h =
    let there : drop q s ≡ get_or s q 0 ∷ drop (q + 1) s = head_at s q (q + 1) (omega (arith, y.some, y.within)) refl in
    clash (sym y.starts-so ∙ subst Ends (ap (λ j. drop j s) (sym h) ∙ there) x.ends_so)

abbrev pub Kind : List ℕ → Token → Type 0
Kind s (Open p) = SignHere s open_byte p
Kind s (Close p) = SignHere s close_byte p
Kind s (Comma p) = SignHere s comma_byte p
Kind s (Run p e) = RunHere s p e
Kind s (End p) = length s ≤ p

starts : (b : ℕ) (l : List ℕ) → separates b ≡ false → extent (b ∷ l) ≡ suc (extent l)
unfolding extent
starts b l h = simp h

no_separator : (b : ℕ) (l : List ℕ) → gap (b ∷ l) ≡ 0 → eqb b open_byte ≡ false → eqb b close_byte ≡ false → eqb b comma_byte ≡ false
    → separates b ≡ false
unfolding gap separates
no_separator b l g o c m = go (eqb b space_byte) g
  where
    go : (t : Bool) → choose t (suc (gap l)) 0 ≡ 0 → either t (either (eqb b open_byte) (either (eqb b close_byte) (eqb b comma_byte))) ≡ false
    go true z = absurd (omega arith)
    go false z = simp (o, c, m)

kind_of : (s : List ℕ) (p : ℕ) → (p < length s → gap (drop p s) ≡ 0) → Kind s (token_at s p)
unfolding token_at
kind_of s p none = ends (leb (length s) p) refl
  where
    runs : p < length s → eqb (get_or s p 0) open_byte ≡ false → eqb (get_or s p 0) close_byte ≡ false → eqb (get_or s p 0) comma_byte ≡ false
        → RunHere s p (p + extent (drop p s))
    runs h o c m =
        let z : gap (get_or s p 0 ∷ drop (p + 1) s) ≡ 0 = ap gap (sym (head_at s p (p + 1) h refl)) ∙ none h in
        let x : separates (get_or s p 0) ≡ false = no_separator (get_or s p 0) (drop (p + 1) s) z o c m in
        let y : extent (drop p s) ≡ suc (extent (drop (p + 1) s)) = ap extent (head_at s p (p + 1) h refl) ∙ starts (get_or s p 0) (drop (p + 1) s) x in
        let n : p + extent (drop p s) - p ≡ extent (drop p s) = omega arith in
        record {
          some = omega arith;
          within = omega (arith, extent-within (drop p s), length-drop p s);
          text = sym (take-append-drop (extent (drop p s)) (drop p s))
              ∙ ap₂ ◌++◌ (ap (λ j. take j (drop p s)) (sym n)) (drop-drop (extent (drop p s)) p s);
          starts-so = x;
          ends_so = subst Ends (drop-drop (extent (drop p s)) p s) (extent-ends (drop p s));
        }

    signs : p < length s → (o c m : Bool) → eqb (get_or s p 0) open_byte ≡ o → eqb (get_or s p 0) close_byte ≡ c → eqb (get_or s p 0) comma_byte ≡ m
        → Kind s (choose o (Open p) (choose c (Close p) (choose m (Comma p) (Run p (p + extent (drop p s))))))
    signs h true c m e f g = record { here = h; text = head_at s p (p + 1) h refl ∙ ap (λ b. b ∷ drop (p + 1) s) (eqb-true _ _ e) }
    signs h false true m e f g = record { here = h; text = head_at s p (p + 1) h refl ∙ ap (λ b. b ∷ drop (p + 1) s) (eqb-true _ _ f) }
    signs h false false true e f g = record { here = h; text = head_at s p (p + 1) h refl ∙ ap (λ b. b ∷ drop (p + 1) s) (eqb-true _ _ g) }
    signs h false false false e f g = runs h e f g

    ends : (b : Bool) → leb (length s) p ≡ b
        → Kind s (choose b (End p) (choose (eqb (get_or s p 0) open_byte) (Open p)
        (choose (eqb (get_or s p 0) close_byte) (Close p)
        (choose (eqb (get_or s p 0) comma_byte) (Comma p) (Run p (p + extent (drop p s)))))))
    ends true e = leb-true (length s) p e
    ends false e = signs (leb-false (length s) p e) (eqb (get_or s p 0) open_byte) (eqb (get_or s p 0) close_byte)
        (eqb (get_or s p 0) comma_byte) refl refl refl

pub record Standing (s : List ℕ) (at : ℕ) (t : Token) : Type 0 where
  pub is : next s at ≡ t
  pub blank : ℕ
  pub place_is : place t ≡ at + blank
  pub text : drop at s ≡ spaces blank ++ drop (place t) s
  pub within : at ≤ length s → place t ≤ length s
  pub kind : Kind s t
  -- and it is the first from its own place on
  pub again : next s (place t) ≡ t

pub place_of : (s : List ℕ) (p : ℕ) → place (token_at s p) ≡ p
unfolding token_at
place_of s p = go (leb (length s) p) (eqb (get_or s p 0) open_byte) (eqb (get_or s p 0) close_byte) (eqb (get_or s p 0) comma_byte)
  where
    go : (x o c m : Bool) → place (choose x (End p) (choose o (Open p) (choose c (Close p) (choose m (Comma p) (Run p (p + extent (drop p s))))))) ≡ p
    go true o c m = refl
    go false true c m = refl
    go false false true m = refl
    go false false false true = refl
    go false false false false = refl

pub standing : (s : List ℕ) (at : ℕ) → Standing s at (next s at)
unfolding next
standing s at =
    let p = at + gap (drop at s) in
    let x = place_of s p in
    let behind : gap (drop p s) ≡ 0 = ap gap (sym (drop-drop (gap (drop at s)) at s)) ∙ gap-again (drop at s) in
    record {
      is = refl;
      blank = gap (drop at s);
      place_is = x;
      text = gap-split (drop at s) ∙ ap (λ l. spaces (gap (drop at s)) ++ l) (drop-drop (gap (drop at s)) at s ∙ ap (λ j. drop j s) (sym x));
      within = λ h. omega (arith, x, gap_within (drop at s), length-drop at s);
      kind = kind_of s p (λ _. behind);
      again = ap (λ j. token_at s (j + gap (drop j s))) x ∙ ap (λ j. token_at s (p + j)) behind ∙ ap (token_at s) (omega arith);
    }
