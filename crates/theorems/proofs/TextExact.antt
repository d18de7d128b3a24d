-- Reading accepts exactly the texts that spell a tree. Assumes nothing.
use mathlib.Core.Path.{◌≡◌, refl, sym, ap, ◌∙◌, subst, subst⁻¹}
use mathlib.Core.Bool.{Bool, true, false}
use mathlib.Core.List.{List, ◌++◌, append-nil}
use Prim.Native.Nat.{ℕ, ◌+◌, ◌≤◌}
use native.Mathlib.Omega.{arith}
use borrow.Author.Tests.{le-ltb, ltb-false}
use lib.Dec.{ltb}
use lib.ListN.{length, length-append, drop_of_length-le}
use Rattle.scalars.specs.Mask.{choose}
use Rattle.functions.specs.Functions.{function_count}
use Rattle.names.specs.Names.{named}
use Rattle.expressions.specs.Tree.{Tree, nodes, deepest}
use Rattle.expressions.specs.Known.{Known}
use Rattle.expressions.specs.Limits.{levels}
use Rattle.expressions.specs.Reading.{Reading, done, refused, Expression, read, refused_as}
use Rattle.expressions.proofs.Bytes.{after}
use Rattle.text.specs.declared.token.Token.{Token}
use Rattle.text.specs.declared.token.Token.TheVariants.{Open, Close, Comma, Run, End}
use Rattle.text.specs.Tokens.{next}
use Rattle.text.specs.Grammar.{most_bytes, spaces, laid, tree_of, Spells}
use Rattle.text.specs.Reading.{node_at, at_end, whole, reading_of, reading}
use Rattle.theorems.proofs.TextTokens.{spaces-length, end-at, Standing, standing}
use Rattle.theorems.proofs.TextComplete.{met, over, ends-blank, NodeMet, node_met}
use Rattle.theorems.proofs.TextSpelt.{NodeSpelt, NodeOk}
use Rattle.theorems.proofs.TextSound.{node_ok}

-- ---- what is spelled is read

pub short-text : (s : List ℕ) → length s ≤ most_bytes → reading s ≡ whole named s (node_at named s deepest 0 0)
unfolding reading_of
short-text s h = simp (le-ltb most_bytes (length s) h)

pub read_if : (s : List ℕ) (e : Tree) → Spells s e → reading s ≡ read e
read_if s e x =
    short-text s x.short
    ∙ go (node_met s x.layout deepest 0 0 (spaces x.behind) (subst⁻¹ (Known function_count) x.tree_is x.within.known)
    x.text-is (ends-blank x.behind))
  where
    size : length s ≡ length (laid x.layout) + x.behind
    size = ap length x.text-is ∙ length-append (laid x.layout) (spaces x.behind)
        ∙ ap (λ k. length (laid x.layout) + k) (spaces-length x.behind)

    end : next s (0 + length (laid x.layout)) ≡ End (0 + length (laid x.layout) + x.behind)
    end = end-at s (0 + length (laid x.layout)) x.behind (omega (arith, size)) (after s (laid x.layout) (spaces x.behind) 0 x.text-is)

    go : NodeMet s x.layout deepest 0 0 → whole named s (node_at named s deepest 0 0) ≡ read e
    go (met m) = ap (whole named s) m ∙ ap (at_end named s (tree_of x.layout)) end ∙ ap read x.tree_is
    go (over p m out) =
        absurd (out (omega (arith, ap levels x.tree_is, x.within.low), omega (arith, ap nodes x.tree_is, x.within.few)))

-- ---- what is read is spelled

abbrev ReadOk : List ℕ → Expression → Type 0
ReadOk s (read e) = Spells s e
ReadOk s (refused_as n p) = Unit

end_ok : (s : List ℕ) → length s ≤ most_bytes → (e : Tree) (a m : ℕ) → NodeSpelt s deepest 0 0 e a m → (t : Token) → Standing s a t
    → ReadOk s (at_end named s e t)
end_ok s h e a m x (End p) t = record {
  layout = x.layout;
  behind = t.blank;
  tree_is = x.tree_is;
  text-is = x.text ∙ ap (λ l. laid x.layout ++ l)
      (t.text ∙ ap (λ l. spaces t.blank ++ l) (drop_of_length-le s t.kind) ∙ append-nil (spaces t.blank));
  within = record { known = x.known; few = omega (arith, x.nodes-is, x.few); low = x.low };
  short = h;
}
end_ok s h e a m x (Open p) t = tt
end_ok s h e a m x (Close p) t = tt
end_ok s h e a m x (Comma p) t = tt
end_ok s h e a m x (Run p q) t = tt

whole_ok : (s : List ℕ) → length s ≤ most_bytes → (r : Reading Tree) → NodeOk s deepest 0 0 r → ReadOk s (whole named s r)
whole_ok s h (refused n p) x = tt
whole_ok s h (done e a m) x = end_ok s h e a m x (next s a) (standing s a)

read_ok : (s : List ℕ) → ReadOk s (reading s)
unfolding reading_of
read_ok s = go (ltb most_bytes (length s)) refl
  where
    go : (b : Bool) → ltb most_bytes (length s) ≡ b → ReadOk s (choose b (refused_as 15 most_bytes) (whole named s (node_at named s deepest 0 0)))
    go true e = tt
    go false e = whole_ok s (ltb-false most_bytes (length s) e) (node_at named s deepest 0 0) (node_ok s deepest 0 0 (omega arith))

pub read-only_if : (s : List ℕ) (e : Tree) → reading s ≡ read e → Spells s e
read-only_if s e h = subst (ReadOk s) h (read_ok s)

pub one-spelled : (s : List ℕ) (e f : Tree) → Spells s e → Spells s f → e ≡ f
one-spelled s e f x y = let z = sym (read_if s e x) ∙ read_if s f y in cc
