-- The first fault of a text, told by which texts begin as it does. Assumes nothing.
use mathlib.Core.Path.{◌≡◌, refl, sym, ap, ap₂, ◌∙◌, subst, subst⁻¹}
use mathlib.Core.Logic.{⊎_elim}
use mathlib.Core.List.{List, [], ◌++◌, append_assoc, append-nil}
use Prim.Native.Nat.{ℕ, ◌+◌, ◌≤◌, ◌<◌}
use native.Mathlib.Omega.{arith}
use lib.ListN.{length, take, drop, length-append, length-drop, length-take, take-append-drop}
use lib.Seq.{take-append_seam}
use Rattle.functions.specs.Functions.{function_count}
use Rattle.names.specs.Names.{type_name, named}
use Rattle.expressions.specs.Tree.{Tree, deepest}
use Rattle.expressions.specs.Known.{Known}
use Rattle.expressions.specs.Limits.{Within}
use Rattle.expressions.specs.Reading.{Reading, done, refused, Expression, read, refused_as}
use Rattle.expressions.proofs.Bytes.{after}
use Rattle.text.specs.declared.token.Token.{Token}
use Rattle.text.specs.declared.token.Token.TheVariants.{Open, Close, Comma, Run, End}
use Rattle.text.specs.Tokens.{next, place}
use Rattle.text.specs.Grammar.{most_bytes, spaces, laid, tree_of}
use Rattle.text.specs.Reading.{node_at, at_end, whole, reading}
use Rattle.theorems.specs.Texts.{Laid, Begins, Strange, Limit, FirstFault}
use Rattle.theorems.proofs.TextTokens.{spaces-length, end-at, Kind, Standing, standing}
use Rattle.theorems.proofs.TextComplete.{met, over, ends-blank, NodeMet, node_met}
use Rattle.theorems.proofs.TextSpelt.{Why, limit, strange, wrong, NodeSpelt, NodeFault, NodeOk}
use Rattle.theorems.proofs.TextSound.{node_ok}
use Rattle.theorems.proofs.TextLocal.{Whole, SameToken, same-token, NodeLocal, node_local}
use Rattle.theorems.proofs.TextExact.{short-text}

-- ---- what a text of the grammar is not answered

abbrev root : List ℕ → Reading Tree
root s = node_at named s deepest 0 0

root-met : (s : List ℕ) (l : Laid s) → NodeMet s l.layout deepest 0 0
root-met s l = node_met s l.layout deepest 0 0 (spaces l.behind) l.known l.text-is (ends-blank l.behind)

not-refused : (s : List ℕ) (n p : ℕ) → root s ≡ refused n p → (n ≡ 9 → ⊥) → Laid s → ⊥
not-refused s n p h other l = go (root-met s l)
  where
    go : NodeMet s l.layout deepest 0 0 → ⊥
    go (met m) = let e = sym m ∙ h in let z : ◌≡◌ {A = ℕ} 0 1 = cc in omega arith
    go (over q m out) = let e = sym h ∙ m in other cc

not_limited : (s : List ℕ) (p : ℕ) → root s ≡ refused 9 p → (l : Laid s) → Within function_count (tree_of l.layout) → ⊥
not_limited s p h l within = go (root-met s l)
  where
    go : NodeMet s l.layout deepest 0 0 → ⊥
    go (met m) = let e = sym m ∙ h in let z : ◌≡◌ {A = ℕ} 0 1 = cc in omega arith
    go (over q m out) = out (within.low, omega (arith, within.few))

-- a token is left
abbrev Left : Token → Type 0
Left (End p) = ⊥
Left (Open p) = Unit
Left (Close p) = Unit
Left (Comma p) = Unit
Left (Run p e) = Unit

not_left : (s : List ℕ) (e : Tree) (a m : ℕ) → root s ≡ done e a m → Left (next s a) → Laid s → ⊥
not_left s e a m h left l = go (root-met s l)
  where
    size : length s ≡ length (laid l.layout) + l.behind
    size = ap length l.text-is ∙ length-append (laid l.layout) (spaces l.behind)
        ∙ ap (λ k. length (laid l.layout) + k) (spaces-length l.behind)

    end : next s (0 + length (laid l.layout)) ≡ End (0 + length (laid l.layout) + l.behind)
    end = end-at s (0 + length (laid l.layout)) l.behind (omega (arith, size)) (after s (laid l.layout) (spaces l.behind) 0 l.text-is)

    go : NodeMet s l.layout deepest 0 0 → ⊥
    go (met k) =
        let x = sym h ∙ k in
        let z : a ≡ 0 + length (laid l.layout) = cc in
        subst Left (ap (next s) z ∙ end) left
    go (over q k out) = let x = sym k ∙ h in let z : ◌≡◌ {A = ℕ} 0 1 = cc in omega arith

-- ---- a text that begins with the same bytes

module _ (s : List ℕ) (q : ℕ) (rest : List ℕ) (in_text : q ≤ length s) where
  abbrev other : List ℕ
  other = take q s ++ rest

  back : take q s ++ drop q s ≡ s
  back = take-append-drop q s

  common : length (take q s) ≡ q
  common = omega (arith, length-take q s)

  fault_shared : (n p : ℕ) → root s ≡ refused n p → p < q → (Whole s n p → (e : ℕ) → next s p ≡ Run p e → e < q) → root other ≡ refused n p
  fault_shared n p h near run =
      subst (NodeLocal (take q s) (drop q s) rest deepest 0 0) (ap root back ∙ h) (node_local (take q s) (drop q s) rest deepest 0 0 (omega arith)) (
        omega (arith, common),
        λ z e k.
            let y = run (subst (λ l. Whole l n p) back z) e (sym (ap (λ t. next t p) back) ∙ k) in
            omega (arith, common),
      )

  tree_shared : (e : Tree) (a m : ℕ) → root s ≡ done e a m → a < q → root other ≡ done e a m
  tree_shared e a m h near =
      subst (NodeLocal (take q s) (drop q s) rest deepest 0 0) (ap root back ∙ h) (node_local (take q s) (drop q s) rest deepest 0 0 (omega arith))
      (omega (arith, common))

  left_shared : (a : ℕ) (t : Token) → next s a ≡ t → Left t → place t < q → Left (next other a)
  left_shared a t h left near = go t
      (subst (SameToken (take q s) (drop q s) rest a) (ap (λ l. next l a) back ∙ h) (same-token (take q s) (drop q s) rest a)) left near
    where
      go : (t : Token) → SameToken (take q s) (drop q s) rest a t → Left t → place t < q → Left (next other a)
      go (Open p) k left near = subst⁻¹ Left (k (omega (arith, common))) tt
      go (Close p) k left near = subst⁻¹ Left (k (omega (arith, common))) tt
      go (Comma p) k left near = subst⁻¹ Left (k (omega (arith, common))) tt
      go (Run p e) k left near = subst⁻¹ Left (k.0 (omega (arith, common))).1 tt
      go (End p) k left near = absurd left

-- ---- a fault in a node

run-some : (s : List ℕ) (p e : ℕ) → next s p ≡ Run p e → p < e
run-some s p e k = (subst (Kind s) k (standing s p).kind).some

taken : (s b : List ℕ) (p : ℕ) → s ≡ b ++ drop p s → p ≤ length s → take p s ≡ b
taken s b p e h =
    let n : p ≡ length b = omega (arith, ap length e, length-append b (drop p s), length-drop p s) in
    ap₂ take n e ∙ take-append_seam b (drop p s)

module _ (s : List ℕ) (n p : ℕ) (h : root s ≡ refused n p) (x : NodeFault s deepest 0 0 n p) where
  front-is : take p s ≡ x.before
  front-is = taken s x.before p x.text x.within

  begins-here : Begins (take p s)
  begins-here = record {
    rest = x.rest;
    laid-is = record {
      layout = x.layout;
      behind = 0;
      known = x.known;
      text-is = ap (λ b. b ++ x.rest) front-is ∙ x.completes ∙ sym (append-nil (laid x.layout));
    };
  }

  node_laid : (k : n ≡ 15 → ⊥) → Laid ((take p s ++ type_name 0) ++ (x.may k).0)
  node_laid k = record {
    layout = x.layout;
    behind = 0;
    known = x.known;
    text-is = append_assoc (take p s) (type_name 0) (x.may k).0 ∙ ap (λ l. take p s ++ l) (sym (x.may k).1)
        ∙ ap (λ b. b ++ x.rest) front-is ∙ x.completes ∙ sym (append-nil (laid x.layout));
  }

  -- no text of the grammar begins with the run there and the byte behind it
  whole_run : (n ≡ 9 → ⊥) → (e : ℕ) → next s p ≡ Run p e → e < length s → Begins (take (e + 1) s) → ⊥
  whole_run other e k inside b =
      not-refused (take (e + 1) s ++ b.rest) n p
      (fault_shared s (e + 1) b.rest (omega arith) n p h (omega (arith, run-some s p e k))
      (λ _ e' k'. let w = sym k ∙ k' in let v : e ≡ e' = cc in omega arith))
      other b.laid-is

  strange-here : (i : ℕ) → Why s p i → i ≡ n → n ≡ 14 → Strange s p
  unfolding node_laid
  strange-here i (limit e k) y z = absurd (omega arith)
  strange-here i wrong y z = absurd (omega arith)
  strange-here i (strange e k none other) y z =
      let different : n ≡ 15 → ⊥ = λ w. omega arith in
      let small = x.small z in
      record {
        end = e;
        run = k;
        nothing = none;
        other = other;
        node_here = record {
          rest = (x.may different).0;
          laid-is = node_laid different;
          within = record {
            known = x.known;
            few = omega
                (arith, small.1);
            low = small.0;
          };
        };
        no_other = whole_run (λ y. omega arith) e k;
      }

  limit-here : (i : ℕ) → Why s p i → i ≡ n → n ≡ 9 → Limit s p
  limit-here i (strange e k none other) y z = absurd (omega arith)
  limit-here i wrong y z = absurd (omega arith)
  limit-here i (limit e k) y z =
      let different : n ≡ 15 → ⊥ = λ w. omega arith in
      let r = subst (Kind s) k (standing s p).kind in
      record {
        end = e;
        run = k;
        node_here = record { rest = (x.may different).0; laid-is = node_laid different };
        none_within = λ b.
            not_limited (take (p + 1) s ++ b.rest) p
            (fault_shared s (p + 1) b.rest (omega (arith, r.some, r.within)) n p h (omega arith)
            (⊎_elim (λ y. absurd (omega arith)) (λ y. absurd (omega (arith, y.0))))
            ∙ ap (λ j. refused j p) z)
            b.laid-is b.within;
      }

  node_fault : FirstFault s n p
  node_fault = record {
    begins = begins-here;
    no_text = not-refused s n p h;
    misplaced = λ z inside free b.
        not-refused (take (p + 1) s ++ b.rest) n p
        (fault_shared s (p + 1) b.rest (omega arith) n p h (omega arith) (⊎_elim (λ y. absurd (omega arith)) (λ y. absurd (free y.1))))
        (λ y. omega arith) b.laid-is;
    misplaced_run = λ z. whole_run (λ y. omega arith);
    strange = strange-here n x.why refl;
    limit = limit-here n x.why refl;
  }

-- ---- a token left behind the root

left-fault : (s : List ℕ) (e : Tree) (a m : ℕ) → root s ≡ done e a m → NodeSpelt s deepest 0 0 e a m → (t : Token) → Standing s a t → Left t
    → FirstFault s 15 (place t)
left-fault s e a m h x u t left = record {
  begins = record {
    rest = [];
    laid-is = record {
      layout = x.layout;
      behind = t.blank;
      known = subst⁻¹ (Known function_count) x.tree_is x.known;
      text-is = append-nil (take (place u) s) ∙ taken s (laid x.layout ++ spaces t.blank) (place u)
          (x.text ∙ ap (λ l. laid x.layout ++ l) t.text
          ∙ sym (append_assoc (laid x.layout) (spaces t.blank) (drop (place u) s))) (t.within x.within);
    };
  };
  no_text = λ _. not_left s e a m h (subst⁻¹ Left t.is left);
  misplaced = λ _ inside _. none-begins (place u + 1) (omega arith) (omega arith);
  misplaced_run = λ _ end k inside. none-begins (end + 1) (omega (arith, run-some s (place u) end k)) (omega arith);
  strange = λ z. absurd (omega arith);
  limit = λ z. absurd (omega arith);
}
  where
    none-begins : (q : ℕ) → place u < q → q ≤ length s → Begins (take q s) → ⊥
    none-begins q past inside b =
        not_left (take q s ++ b.rest) e a m (tree_shared s q b.rest inside e a m h (omega (arith, t.place_is)))
        (left_shared s q b.rest inside a u t.is left past) b.laid-is

-- ---- the whole

abbrev FaultOk : List ℕ → Expression → Type 0
FaultOk s (read e) = Unit
FaultOk s (refused_as n p) = FirstFault s n p

end-fault : (s : List ℕ) (e : Tree) (a m : ℕ) → root s ≡ done e a m → NodeSpelt s deepest 0 0 e a m → (t : Token) → Standing s a t
    → FaultOk s (at_end named s e t)
end-fault s e a m h x (End p) t = tt
end-fault s e a m h x (Open p) t = left-fault s e a m h x (Open p) t tt
end-fault s e a m h x (Close p) t = left-fault s e a m h x (Close p) t tt
end-fault s e a m h x (Comma p) t = left-fault s e a m h x (Comma p) t tt
end-fault s e a m h x (Run p q) t = left-fault s e a m h x (Run p q) t tt

whole-fault : (s : List ℕ) (r : Reading Tree) → root s ≡ r → NodeOk s deepest 0 0 r → FaultOk s (whole named s r)
whole-fault s (refused n p) h x = node_fault s n p h x
whole-fault s (done e a m) h x = end-fault s e a m h x (next s a) (standing s a)

pub first_fault_lem : (s : List ℕ) (n p : ℕ) → length s ≤ most_bytes → reading s ≡ refused_as n p → FirstFault s n p
first_fault_lem s n p short h =
    subst (FaultOk s) (sym (short-text s short) ∙ h) (whole-fault s (root s) refl (node_ok s deepest 0 0 (omega arith)))
