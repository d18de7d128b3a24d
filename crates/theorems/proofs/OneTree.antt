-- A byte string is the bytes of at most one tree: two trees with the same bytes are the same tree. More generally, if the bytes
-- of two trees start the same byte string, then the trees are the same, and so is what follows them.
-- Assumes nothing.
use mathlib.Core.Path.{◌≡◌, refl, sym, ap, ap₂, ◌∙◌}
use mathlib.Core.Bool.{Bool, true, false}
use mathlib.Core.List.{List, [], ◌∷◌, ◌++◌, append_assoc}
use Prim.Native.Nat.{ℕ}
use native.Mathlib.Omega.{arith}
use Rattle.expressions.specs.Tree.{Tree, Trees, leaf, call, none, more, count, tag_of, call_tag, bytes_of, bytes_of_all}

-- a leaf's tag is no call's, and tells whether the leaf is measured
tags_differ : {A : Type 0} (measured : Bool) {x y : List ℕ} → tag_of measured ∷ x ≡ call_tag ∷ y → A
tags_differ false e = let z : ◌≡◌ {A = ℕ} 0 1 = cc in absurd (omega arith)
tags_differ true e = let z : ◌≡◌ {A = ℕ} 2 1 = cc in absurd (omega arith)

one_tag : (a b : Bool) → tag_of a ≡ tag_of b → a ≡ b
one_tag false false e = refl
one_tag true true e = refl
one_tag false true e = absurd (omega arith)
one_tag true false e = absurd (omega arith)

mutual
  unfolding count bytes_of

  pub same-front : (e e' : Tree) (x y : List ℕ) → bytes_of e ++ x ≡ bytes_of e' ++ y → (e ≡ e') × (x ≡ y)
  same-front (leaf l) (leaf l') x y h =
      let t : tag_of l.measured ≡ tag_of l'.measured = cc in
      let p : l.code ≡ l'.code = cc in
      (ap₂ (λ m t. leaf (record { code = t; measured = m })) (one_tag l.measured l'.measured t) p, cc)
  same-front (leaf l) (call f es) x y h = tags_differ l.measured h
  same-front (call f es) (leaf l) x y h = tags_differ l.measured (sym h)
  same-front (call f es) (call f' es') x y h =
      let p : f ≡ f' = cc in
      let n : count es ≡ count es' = cc in
      let k : bytes_of_all es ++ x ≡ bytes_of_all es' ++ y = cc in
      let args = same-front-all es es' x y n k in
      (ap₂ call p args.0, args.1)

  pub same-front-all : (es es' : Trees) (x y : List ℕ) → count es ≡ count es' → bytes_of_all es ++ x ≡ bytes_of_all es' ++ y
      → (es ≡ es') × (x ≡ y)
  same-front-all none none x y n h = (refl, h)
  same-front-all none (more e es) x y n h = absurd (omega arith)
  same-front-all (more e es) none x y n h = absurd (omega arith)
  same-front-all (more e es) (more e' es') x y n h =
      let split = sym (append_assoc (bytes_of e) (bytes_of_all es) x) ∙ h ∙ append_assoc (bytes_of e') (bytes_of_all es') y in
      let one = same-front e e' (bytes_of_all es ++ x) (bytes_of_all es' ++ y) split in
      let m : count es ≡ count es' = omega arith in
      let others = same-front-all es es' x y m one.1 in
      (ap₂ more one.0 others.0, others.1)

pub one_tree_lem : (e e' : Tree) → bytes_of e ≡ bytes_of e' → e ≡ e'
one_tree_lem e e' h = (same-front e e' [] [] (ap (λ l. l ++ []) h)).0
