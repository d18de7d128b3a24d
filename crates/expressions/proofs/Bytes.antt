-- What stands at an offset where a tree's bytes stand; a tree has at least two. Assumes nothing.
use mathlib.Core.Path.{◌≡◌, sym, ap, ◌∙◌}
use mathlib.Core.List.{List, [], ◌∷◌, ◌++◌}
use Prim.Native.Nat.{ℕ, ◌+◌, ◌≤◌, ◌<◌}
use native.Mathlib.Numerals.{add-one}
use native.Mathlib.Omega.{arith}
use native.Mathlib.Decide.{dec_lt}
use lib.ListN.{length, get_or, drop, drop_of_length-le}
use lib.Seq.{drop-cons, drop-drop, drop-append_seam}
use Rattle.types.specs.declared.operand.Operand.{Operand}
use Rattle.expressions.specs.Tree.{Tree, Trees, leaf, call, count, tag_of, call_tag, bytes_of, bytes_of_all}

-- a byte that is present stands in front of the bytes behind it
pub head_at : (s : List ℕ) (at next : ℕ) → at < length s → next ≡ at + 1 → drop at s ≡ get_or s at 0 ∷ drop next s
head_at s at next h e = drop-cons s at 0 h ∙ ap (λ i. get_or s at 0 ∷ drop i s) (sym (e ∙ add-one at))

-- what stands in front of the bytes from an offset on
pub record Front (s : List ℕ) (at next x : ℕ) (rest : List ℕ) : Type 0 where
  pub here : at < length s
  pub byte : get_or s at 0 ≡ x
  pub behind : drop next s ≡ rest

pub front : (s : List ℕ) (at next x : ℕ) (rest : List ℕ) → next ≡ at + 1 → drop at s ≡ x ∷ rest → Front s at next x rest
front s at next x rest n e = go (dec_lt at (length s))
  where
    clash : {A : Type 0} → [] ≡ x ∷ rest → A
    clash p = let z : ◌≡◌ {A = ℕ} 0 1 = cc in absurd (omega arith)

    go : Dec (at < length s) → Front s at next x rest
    go (yes h) = let k = sym (head_at s at next h n) ∙ e in record { here = h; byte = cc; behind = cc }
    go (no h) = clash (sym (drop_of_length-le s {i = at} (omega arith)) ∙ e)

-- behind a part of the bytes
pub after : (s part rest : List ℕ) (at : ℕ) → drop at s ≡ part ++ rest → drop (at + length part) s ≡ rest
after s part rest at e = sym (drop-drop (length part) at s) ∙ ap (drop (length part)) e ∙ drop-append_seam part rest

-- the two bytes of a leaf
pub record LeafThere (s : List ℕ) (at : ℕ) (l : Operand) : Type 0 where
  pub here : at + 1 < length s
  pub tag : get_or s at 0 ≡ tag_of l.measured
  pub type_is : get_or s (at + 1) 0 ≡ l.code

pub leaf_there_lem : (s : List ℕ) (at : ℕ) (l : Operand) (rest : List ℕ) → drop at s ≡ bytes_of (leaf l) ++ rest → LeafThere s at l
unfolding bytes_of
leaf_there_lem s at l rest text =
    let x = front s at (at + 1) (tag_of l.measured) (l.code ∷ rest) (omega arith) text in
    let y = front s (at + 1) (at + 2) l.code rest (omega arith) x.behind in
    record { here = y.here; tag = x.byte; type_is = y.byte }

-- the three bytes of a call, and its arguments behind them
pub record CallThere (s : List ℕ) (at f : ℕ) (es : Trees) (rest : List ℕ) : Type 0 where
  pub here : at + 2 < length s
  pub tag : get_or s at 0 ≡ call_tag
  pub function : get_or s (at + 1) 0 ≡ f
  pub number : get_or s (at + 2) 0 ≡ count es
  pub arguments : drop (at + 3) s ≡ bytes_of_all es ++ rest

pub call-there : (s : List ℕ) (at f : ℕ) (es : Trees) (rest : List ℕ) → drop at s ≡ bytes_of (call f es) ++ rest → CallThere s at f es rest
unfolding bytes_of
call-there s at f es rest text =
    let x = front s at (at + 1) call_tag (f ∷ count es ∷ bytes_of_all es ++ rest) (omega arith) text in
    let y = front s (at + 1) (at + 2) f (count es ∷ bytes_of_all es ++ rest) (omega arith) x.behind in
    let z = front s (at + 2) (at + 3) (count es) (bytes_of_all es ++ rest) (omega arith) y.behind in
    record { here = z.here; tag = x.byte; function = y.byte; number = z.byte; arguments = z.behind }

pub bytes-least : (e : Tree) → 2 ≤ length (bytes_of e)
unfolding bytes_of
bytes-least (leaf l) = omega arith
bytes-least (call f es) = omega arith
