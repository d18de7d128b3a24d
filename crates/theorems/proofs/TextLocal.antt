-- What the reader answers of a place in a text depends on the bytes up to that place only: a text that begins with the same bytes, the one at
-- the place included, is answered the same. For 14, and for 15 at a run behind `measured`, they have to reach behind the run.
-- Assumes nothing.
use mathlib.Core.Path.{◌≡◌, refl, sym, ap, ap₂, ◌∙◌, subst⁻¹}
use mathlib.Core.Logic.{◌⊎◌, inl, inr}
use mathlib.Core.Bool.{Bool, true, false}
use mathlib.Core.List.{List, [], ◌∷◌, ◌++◌}
use Prim.Native.Nat.{ℕ, zero, suc, ◌+◌, ◌-◌, ◌≤◌, ◌<◌}
use native.Mathlib.Omega.{arith}
use native.Mathlib.Decide.{dec_lt}
use borrow.Author.Tests.{lt-leb, ltb-true}
use lib.ListN.{length, get_or, take, drop, length-append, length-drop, get_or-append}
use lib.Seq.{drop-append-le, take-append-le}
use lib.Dec.{eqb, ltb}
use Rattle.scalars.specs.Mask.{choose}
use Rattle.names.specs.Names.{Named, a_type, a_function, unknown, measured_name, same, named}
use Rattle.names.proofs.SameBytes.{same-is}
use Rattle.expressions.specs.Tree.{Tree, Trees, call, none, more, most_nodes}
use Rattle.expressions.specs.Reading.{Reading, done, refused, and_then}
use Rattle.text.specs.declared.token.Token.{Token}
use Rattle.text.specs.declared.token.Token.TheVariants.{Open, Close, Comma, Run, End}
use Rattle.text.specs.Tokens.{space_byte, open_byte, close_byte, comma_byte, separates, gap, extent, token_at, next, place}
use Rattle.text.specs.Reading.{on_run, on_open, on_close, on_more, args_at, brackets_at, word_at, type_at, measured_at, run_node, node_at}
use Rattle.theorems.specs.Texts.{BehindMeasured}
use Rattle.theorems.proofs.TextTokens.{place_of, Standing, standing}
use Rattle.theorems.proofs.TextComplete.{following, worded, next_arg, next-fault, node_least}
use Rattle.theorems.proofs.TextSpelt.{NodeOk, ArgsOk}
use Rattle.theorems.proofs.TextSound.{args_ok, node_ok}

-- ---- tokens

gap_local : (x v v' : List ℕ) → gap (x ++ v) < length x → gap (x ++ v') ≡ gap (x ++ v)
unfolding gap
gap_local [] v v' h = absurd (omega arith)
gap_local (b ∷ x) v v' h = go (eqb b space_byte) h (gap_local x v v')
  where
    go : (t : Bool) → choose t (suc (gap (x ++ v))) 0 < suc (length x) → (gap (x ++ v) < length x → gap (x ++ v') ≡ gap (x ++ v))
        → choose t (suc (gap (x ++ v'))) 0 ≡ choose t (suc (gap (x ++ v))) 0
    go true h f = ap suc (f (omega arith))
    go false h f = refl

extent_local : (x v v' : List ℕ) → extent (x ++ v) < length x → extent (x ++ v') ≡ extent (x ++ v)
unfolding extent
extent_local [] v v' h = absurd (omega arith)
extent_local (b ∷ x) v v' h = go (separates b) h (extent_local x v v')
  where
    go : (t : Bool) → choose t 0 (suc (extent (x ++ v))) < suc (length x) → (extent (x ++ v) < length x → extent (x ++ v') ≡ extent (x ++ v))
        → choose t 0 (suc (extent (x ++ v'))) ≡ choose t 0 (suc (extent (x ++ v)))
    go true h f = refl
    go false h f = ap suc (f (omega arith))

-- the token with this first byte, which as a run would end before e
abbrev headed : ℕ → ℕ → ℕ → Token
headed b p e = choose (eqb b open_byte) (Open p) (choose (eqb b close_byte) (Close p) (choose (eqb b comma_byte) (Comma p) (Run p e)))

headed-is : (s : List ℕ) (p : ℕ) → p < length s → token_at s p ≡ headed (get_or s p 0) p (p + extent (drop p s))
unfolding token_at
headed-is s p h = simp (lt-leb (length s) p h)

-- a run at p is judged as a whole for 14, and for 15 where it stands behind `measured`
abbrev pub Whole : List ℕ → ℕ → ℕ → Type 0
Whole s k p = (k ≡ 14) ⊎ ((k ≡ 15) × BehindMeasured s p)

-- two texts that begin with u
module _ (u v v' : List ℕ) where
  abbrev pub s : List ℕ
  s = u ++ v

  abbrev pub s' : List ℕ
  s' = u ++ v'

  -- the token is the same where the bytes in common reach; a run as a whole where they reach behind it
  abbrev pub SameToken : ℕ → Token → Type 0
  SameToken at (Open p) = p < length u → next s' at ≡ Open p
  SameToken at (Close p) = p < length u → next s' at ≡ Close p
  SameToken at (Comma p) = p < length u → next s' at ≡ Comma p
  SameToken at (Run p e) =
      (p < length u → (e' : ℕ) × (next s' at ≡ Run p e'))
      × (e < length u → (next s' at ≡ Run p e) × (take (e - p) (drop p s') ≡ take (e - p) (drop p s)))
  SameToken at (End p) = p < length u → ⊥

  -- too far for the bytes in common
  far : (at : ℕ) (t : Token) → Standing s at t → length u ≤ place t → SameToken at t
  far at (Open p) t h = λ z. absurd (omega arith)
  far at (Close p) t h = λ z. absurd (omega arith)
  far at (Comma p) t h = λ z. absurd (omega arith)
  far at (Run p e) t h = (λ z. absurd (omega arith), λ z. absurd (omega (arith, t.kind.some)))
  far at (End p) t h = λ z. omega arith

  same-run : (p : ℕ) → p < length u → p + extent (drop p s) < length u
      → (p + extent (drop p s') ≡ p + extent (drop p s))
      × (take (p + extent (drop p s) - p) (drop p s') ≡ take (p + extent (drop p s) - p) (drop p s))
  same-run p h k =
      let a = drop-append-le p u v (omega arith) in
      let b = drop-append-le p u v' (omega arith) in
      let n : p + extent (drop p s) - p ≡ extent (drop p s) = omega arith in
      let l : extent (drop p u ++ v) < length (drop p u) = omega (arith, ap extent a, length-drop p u) in (
        ap (λ j. p + j) (ap extent b ∙ extent_local (drop p u) v v' l ∙ sym (ap extent a)),
        ap (take (p + extent (drop p s) - p)) b ∙ take-append-le (p + extent (drop p s) - p) (drop p u) v' (omega (arith, length-drop p u))
            ∙ sym (take-append-le (p + extent (drop p s) - p) (drop p u) v (omega (arith, length-drop p u)))
            ∙ ap (take (p + extent (drop p s) - p)) (sym a),
      )

  near : (at p : ℕ) → p ≡ at + gap (drop at s) → p < length u → SameToken at (next s at)
  unfolding next
  near at p e h =
      let a = drop-append-le at u v (omega arith) in
      let b = drop-append-le at u v' (omega arith) in
      let l : gap (drop at u ++ v) < length (drop at u) = omega (arith, ap gap a, length-drop at u) in
      let g : gap (drop at s') ≡ gap (drop at s) = ap gap b ∙ gap_local (drop at u) v v' l ∙ sym (ap gap a) in
      let x = get_or-append u v 0 p h in
      let y = get_or-append u v' 0 p h in
      let here : token_at s (at + gap (drop at s)) ≡ headed (get_or u p 0) p (p + extent (drop p s)) =
      ap (token_at s) (sym e) ∙ headed-is s p (omega (arith, length-append u v)) ∙ ap (λ b. headed b p (p + extent (drop p s))) x in
      let there : token_at s' (at + gap (drop at s')) ≡ headed (get_or u p 0) p (p + extent (drop p s')) =
      ap (λ j. token_at s' (at + j)) g ∙ ap (token_at s') (sym e) ∙ headed-is s' p (omega (arith, length-append u v'))
      ∙ ap (λ b. headed b p (p + extent (drop p s'))) y in
      subst⁻¹ (SameToken at) here (go (eqb (get_or u p 0) open_byte) (eqb (get_or u p 0) close_byte) (eqb (get_or u p 0) comma_byte) there)
    where
      go : (o c m : Bool) → next s' at ≡ choose o (Open p) (choose c (Close p) (choose m (Comma p) (Run p (p + extent (drop p s')))))
          → SameToken at (choose o (Open p) (choose c (Close p) (choose m (Comma p) (Run p (p + extent (drop p s))))))
      go true c m w = λ _. w
      go false true m w = λ _. w
      go false false true w = λ _. w
      go false false false w =
          (λ _. (p + extent (drop p s'), w), λ k. let z = same-run p h k in (w ∙ ap (Run p) z.0, z.1))

  pub same-token : (at : ℕ) → SameToken at (next s at)
  unfolding next
  same-token at = go (dec_lt (place (next s at)) (length u))
    where
      here : place (next s at) ≡ at + gap (drop at s)
      here = place_of s (at + gap (drop at s))

      go : Dec (place (next s at) < length u) → SameToken at (next s at)
      go (yes h) = near at (place (next s at)) here h
      go (no h) = far at (next s at) (standing s at) (omega arith)

  -- ---- nodes and arguments

  -- the bytes in common reach over the place, and over the run there if it is judged as a whole
  abbrev pub Seen : ℕ → ℕ → Type 0
  Seen k p = (p < length u) × (Whole s k p → (e : ℕ) → next s p ≡ Run p e → e < length u)

  abbrev pub NodeLocal : ℕ → ℕ → ℕ → Reading Tree → Type 0
  NodeLocal d at n (done x a m) = a < length u → node_at named s' d at n ≡ done x a m
  NodeLocal d at n (refused k p) = Seen k p → node_at named s' d at n ≡ refused k p

  abbrev ArgsLocal : ℕ → ℕ → ℕ → ℕ → Reading Trees → Type 0
  ArgsLocal d left at n (done es a m) = a < length u → args_at named s' (node_at named s' d) left at n ≡ done es a m
  ArgsLocal d left at n (refused k p) = Seen k p → args_at named s' (node_at named s' d) left at n ≡ refused k p

  module _ (d : ℕ) (below : (at n : ℕ) → at ≤ length s → NodeLocal d at n (node_at named s d at n)) where
    -- behind an argument
    module _ (left at n : ℕ) (x : Tree) (a m : ℕ) (read-there : a < length u → node_at named s' d at n ≡ done x a m) where
      goes_on : a < length u → args_at named s' (node_at named s' d) (suc left) at n ≡ following s' (node_at named s' d) left x a m
      goes_on h = next_arg s' d left at n (read-there h)

      on-token : (t : Token) → next s' a ≡ t → following s' (node_at named s' d) left x a m
          ≡ on_more t (λ behind. done (more x none) behind m)
          (λ behind. and_then (args_at named s' (node_at named s' d) left behind m) (λ es. done (more x es)))
      on-token t e = ap (λ t. on_more t (λ behind. done (more x none) behind m)
          (λ behind. and_then (args_at named s' (node_at named s' d) left behind m) (λ es. done (more x es)))) e

      comma_local : (p : ℕ) → a ≤ p → (p < length u → next s' a ≡ Comma p) → (r : Reading Trees) → ArgsOk s d (p + 1) m r
          → ArgsLocal d left (p + 1) m r
          → ArgsLocal d (suc left) at n (and_then r (λ es. done (more x es)))
      comma_local p later same (refused k q) ok local = λ seen.
          goes_on (omega (arith, seen.0, ok.later)) ∙ on-token (Comma p) (same (omega (arith, seen.0, ok.later)))
          ∙ ap (λ r. and_then r (λ es. done (more x es))) (local seen)
      comma_local p later same (done es b m') ok local = λ h.
          goes_on (omega (arith, ok.later)) ∙ on-token (Comma p) (same (omega (arith, ok.later)))
          ∙ ap (λ r. and_then r (λ es. done (more x es))) (local h)

    args_local : (left at n : ℕ) → at ≤ length s → n ≤ most_nodes → most_nodes < left + n
        → ArgsLocal d left at n (args_at named s (node_at named s d) left at n)
    unfolding args_at
    args_local zero at n h few fuel = absurd (omega arith)
    args_local (suc left) at n h few fuel = go (node_at named s d at n) (node_ok s d at n h) (below at n h) (args_local left)
      where
        Rest : Type 0
        Rest = (at n : ℕ) → at ≤ length s → n ≤ most_nodes → most_nodes < left + n → ArgsLocal d left at n (args_at named s (node_at named s d) left at n)

        go : (r : Reading Tree) → NodeOk s d at n r → NodeLocal d at n r → Rest
            → ArgsLocal d (suc left) at n (and_then r (following s (node_at named s d) left))
        go (refused k p) ok local rest = λ seen. next-fault s' d left at n (local seen)
        go (done x a m) ok local rest = sign (next s a) (standing s a) (same-token a)
          where
            sign : (t : Token) → Standing s a t → SameToken a t
                → ArgsLocal d (suc left) at n (on_more t (λ behind. done (more x none) behind m)
                (λ behind. and_then (args_at named s (node_at named s d) left behind m) (λ es. done (more x es))))
            sign (Close p) t same = λ h. goes_on left at n x a m local (omega (arith, t.place_is))
                ∙ on-token left at n x a m local (Close p) (same (omega arith))
            sign (Comma p) t same =
                let in_text : p + 1 ≤ length s = omega (arith, t.kind.here) in
                let fuel_left : most_nodes < left + m = omega (arith, fuel, ok.nodes-is, node_least x) in
                comma_local left at n x a m local p (omega (arith, t.place_is)) same (args_at named s (node_at named s d) left (p + 1) m)
                (args_ok s d (node_at named s d) (node_ok s d) left (p + 1) m in_text ok.few fuel_left)
                (rest (p + 1) m in_text ok.few fuel_left)
            sign (Open p) t same = λ seen. goes_on left at n x a m local (omega (arith, seen.0, t.place_is))
                ∙ on-token left at n x a m local (Open p) (same seen.0)
            sign (Run p e) t same = λ seen. goes_on left at n x a m local (omega (arith, seen.0, t.place_is))
                ∙ on-token left at n x a m local (Run p (same.0 seen.0).0) (same.0 seen.0).1
            sign (End p) t same = λ seen. absurd (same seen.0)

    -- a node that begins with a run
    module _ (at n p e : ℕ) (t : Standing s at (Run p e)) (shared : SameToken at (Run p e)) where
      pub enters : (e' : ℕ) → next s' at ≡ Run p e' → node_at named s' (suc d) at n
          ≡ choose (ltb n most_nodes) (run_node named s' (node_at named s' d) p e' n) (refused 9 p)
      unfolding node_at
      enters e' h = ap (λ t. on_run t (λ p e. choose (ltb n most_nodes) (run_node named s' (node_at named s' d) p e n) (refused 9 p))) h

      limit_local : ltb n most_nodes ≡ false → Seen 9 p → node_at named s' (suc d) at n ≡ refused 9 p
      limit_local full seen =
          let x = shared.0 seen.0 in
          enters x.0 x.1 ∙ ap (λ b. choose b (run_node named s' (node_at named s' d) p x.0 n) (refused 9 p)) full

      abbrev run : List ℕ
      run = take (e - p) (drop p s)

      begins-there : ltb n most_nodes ≡ true → e < length u → node_at named s' (suc d) at n ≡ worded s' (node_at named s' d) p e n run
      unfolding run_node
      begins-there few h =
          let x = shared.1 h in
          enters e x.0 ∙ ap (λ b. choose b (run_node named s' (node_at named s' d) p e n) (refused 9 p)) few
          ∙ ap (worded s' (node_at named s' d) p e n) x.1

      -- `measured`
      module _ (is : run ≡ measured_name) (begun : e < length u → node_at named s' (suc d) at n ≡ measured_at named s' e n) where
        on_type : (t : Token) → next s' e ≡ t
            → measured_at named s' e n ≡ on_run t (λ p' e'. type_at named s' p' e' n (named (take (e' - p') (drop p' s'))))
        unfolding measured_at
        on_type t h = ap (λ t. on_run t (λ p' e'. type_at named s' p' e' n (named (take (e' - p') (drop p' s'))))) h

        module _ (p' e' : ℕ) (y : Standing s e (Run p' e')) (k : SameToken e (Run p' e')) where
          type_there : (w : Named) → named (take (e' - p') (drop p' s)) ≡ w → e' < length u
              → node_at named s' (suc d) at n ≡ type_at named s' p' e' n w
          type_there w name h =
              let x = k.1 h in
              begun (omega (arith, y.place_is, y.kind.some)) ∙ on_type (Run p' e') x.0
              ∙ ap (λ r. type_at named s' p' e' n (named r)) x.1 ∙ ap (type_at named s' p' e' n) name

          behind : BehindMeasured s p'
          behind = record { start = p; end = e; word = t.again; word-is = is; last = e'; run = y.is }

          type_local : (w : Named) → named (take (e' - p') (drop p' s)) ≡ w → NodeLocal (suc d) at n (type_at named s p' e' n w)
          unfolding type_at
          type_local (a_type c) name = λ h. type_there (a_type c) name h
          type_local (a_function f) name = λ seen. type_there (a_function f) name (seen.1 (inr (refl, behind)) e' y.again)
          type_local unknown name = λ seen. type_there unknown name (seen.1 (inr (refl, behind)) e' y.again)

        measured_local : (t : Token) → Standing s e t → SameToken e t
            → NodeLocal (suc d) at n (on_run t (λ p' e'. type_at named s p' e' n (named (take (e' - p') (drop p' s)))))
        measured_local (Run b b') v k = type_local b b' v k (named (take (b' - b) (drop b s))) refl
        measured_local (Open b) v k = λ seen. begun (omega (arith, v.place_is, seen.0)) ∙ on_type (Open b) (k seen.0)
        measured_local (Close b) v k = λ seen. begun (omega (arith, v.place_is, seen.0)) ∙ on_type (Close b) (k seen.0)
        measured_local (Comma b) v k = λ seen. begun (omega (arith, v.place_is, seen.0)) ∙ on_type (Comma b) (k seen.0)
        measured_local (End b) v k = λ seen. absurd (k seen.0)

      module _ (few : ltb n most_nodes ≡ true) (other : same run measured_name ≡ false) (w : Named) (name : named run ≡ w) where
        word-there : e < length u → node_at named s' (suc d) at n ≡ word_at named s' (node_at named s' d) p e n w
        word-there h =
            begins-there few h ∙ ap₂ (λ b w. choose b (measured_at named s' e n) (word_at named s' (node_at named s' d) p e n w)) other name

      -- a function's name
      module _ (few : n < most_nodes) (f : ℕ)
          (called : e < length u → node_at named s' (suc d) at n
          ≡ and_then (brackets_at named s' (node_at named s' d) e (n + 1)) (λ es. done (call f es))) where
        abbrev inner : ℕ → Reading Trees
        inner inside = args_at named s' (node_at named s' d) (suc most_nodes) inside (n + 1)

        on_bracket : (t : Token) → next s' e ≡ t → brackets_at named s' (node_at named s' d) e (n + 1)
            ≡ on_open t (λ inside. on_close (next s' inside) (λ behind. done none behind (n + 1)) (inner inside))
        unfolding brackets_at
        on_bracket t h = ap (λ t. on_open t (λ inside. on_close (next s' inside) (λ behind. done none behind (n + 1)) (inner inside))) h

        abbrev making : Reading Trees → Reading Tree
        making r = and_then r (λ es. done (call f es))

        module _ (b : ℕ) (o : Standing s e (Open b)) (opens : b < length u → next s' e ≡ Open b) where
          inside_is : (t : Token) → b < length u → next s' (b + 1) ≡ t
              → brackets_at named s' (node_at named s' d) e (n + 1) ≡ on_close t (λ behind. done none behind (n + 1)) (inner (b + 1))
          inside_is t h k = on_bracket (Open b) (opens h) ∙ ap (λ t. on_close t (λ behind. done none behind (n + 1)) (inner (b + 1))) k

          args_case : (c : ℕ) → b + 1 ≤ c → place (next s (b + 1)) ≡ c
              → (c < length u → brackets_at named s' (node_at named s' d) e (n + 1) ≡ inner (b + 1))
              → (r : Reading Trees) → ArgsOk s d (b + 1) (n + 1) r → ArgsLocal d (suc most_nodes) (b + 1) (n + 1) r → NodeLocal (suc d) at n (making r)
          args_case c later at_c same_in (refused k q) ok local = λ seen.
              called (omega (arith, o.place_is, ok.later, seen.0)) ∙ ap making (same_in (omega (arith, at_c, ok.first, seen.0)) ∙ local seen)
          args_case c later at_c same_in (done es a m) ok local = λ h.
              called (omega (arith, o.place_is, ok.later)) ∙ ap making (same_in (omega (arith, at_c, ok.first)) ∙ local h)

          args-inside : (c : ℕ) → b + 1 ≤ c → place (next s (b + 1)) ≡ c
              → (c < length u → brackets_at named s' (node_at named s' d) e (n + 1) ≡ inner (b + 1))
              → NodeLocal (suc d) at n (making (args_at named s (node_at named s d) (suc most_nodes) (b + 1) (n + 1)))
          args-inside c later at_c same_in =
              let in_text : b + 1 ≤ length s = omega (arith, o.kind.here) in
              args_case c later at_c same_in (args_at named s (node_at named s d) (suc most_nodes) (b + 1) (n + 1))
              (args_ok s d (node_at named s d) (node_ok s d) (suc most_nodes) (b + 1) (n + 1) in_text (omega arith) (omega arith))
              (args_local (suc most_nodes) (b + 1) (n + 1) in_text (omega arith) (omega arith))

          inside_local : (t : Token) → Standing s (b + 1) t → SameToken (b + 1) t
              → NodeLocal (suc d) at n (making
              (on_close t (λ behind. done none behind (n + 1)) (args_at named s (node_at named s d) (suc most_nodes) (b + 1) (n + 1))))
          inside_local (Close c) t k = λ h.
              called (omega (arith, o.place_is, t.place_is)) ∙ ap making (inside_is (Close c) (omega (arith, t.place_is)) (k (omega arith)))
          inside_local (Open c) t k =
              args-inside c (omega (arith, t.place_is)) (ap place t.is) (λ h. inside_is (Open c) (omega (arith, t.place_is)) (k h))
          inside_local (Comma c) t k =
              args-inside c (omega (arith, t.place_is)) (ap place t.is) (λ h. inside_is (Comma c) (omega (arith, t.place_is)) (k h))
          inside_local (Run c c') t k =
              args-inside c (omega (arith, t.place_is)) (ap place t.is)
              (λ h. inside_is (Run c (k.0 h).0) (omega (arith, t.place_is)) (k.0 h).1)
          inside_local (End c) t k =
              args-inside c (omega (arith, t.place_is)) (ap place t.is) (λ h. absurd (k h))

        brackets_local : (t : Token) → Standing s e t → SameToken e t
            → NodeLocal (suc d) at n (making
            (on_open t (λ inside. on_close (next s inside) (λ behind. done none behind (n + 1))
            (args_at named s (node_at named s d) (suc most_nodes) inside (n + 1)))))
        brackets_local (Open b) o k = inside_local b o k (next s (b + 1)) (standing s (b + 1)) (same-token (b + 1))
        brackets_local (Close b) o k = λ seen. called (omega (arith, o.place_is, seen.0)) ∙ ap making (on_bracket (Close b) (k seen.0))
        brackets_local (Comma b) o k = λ seen. called (omega (arith, o.place_is, seen.0)) ∙ ap making (on_bracket (Comma b) (k seen.0))
        brackets_local (Run b b') o k = λ seen.
            called (omega (arith, o.place_is, seen.0)) ∙ ap making (on_bracket (Run b (k.0 seen.0).0) (k.0 seen.0).1)
        brackets_local (End b) o k = λ seen. absurd (k seen.0)

      word_local : ltb n most_nodes ≡ true → same run measured_name ≡ false → (w : Named) → named run ≡ w
          → NodeLocal (suc d) at n (word_at named s (node_at named s d) p e n w)
      unfolding word_at brackets_at
      word_local few other (a_type c) name = λ h. word-there few other (a_type c) name h
      word_local few other (a_function f) name =
          brackets_local (ltb-true n most_nodes few) f (λ h. word-there few other (a_function f) name h) (next s e) (standing s e) (same-token e)
      word_local few other unknown name = λ seen. word-there few other unknown name (seen.1 (inl refl) e t.again)

      run_local : ltb n most_nodes ≡ true → NodeLocal (suc d) at n (worded s (node_at named s d) p e n run)
      unfolding measured_at
      run_local few = go (same run measured_name) refl
        where
          go : (b : Bool) → same run measured_name ≡ b
              → NodeLocal (suc d) at n (choose b (measured_at named s e n) (word_at named s (node_at named s d) p e n (named run)))
          go true h =
              measured_local (same-is run measured_name h)
              (λ k. begins-there few k ∙ ap (λ b. choose b (measured_at named s' e n) (word_at named s' (node_at named s' d) p e n (named run))) h)
              (next s e) (standing s e) (same-token e)
          go false h = word_local few h (named run) refl

  pub node_local : (d at n : ℕ) → at ≤ length s → NodeLocal d at n (node_at named s d at n)
  unfolding node_at run_node
  node_local zero at n h = go (next s at) (same-token at)
    where
      stays : (t : Token) → next s' at ≡ t → node_at named s' zero at n ≡ on_run t (λ p e. refused 9 p)
      stays t e = ap (λ t. on_run t (λ p e. refused 9 p)) e

      go : (t : Token) → SameToken at t → NodeLocal zero at n (on_run t (λ p e. refused 9 p))
      go (Run p e) k = λ seen. stays (Run p (k.0 seen.0).0) (k.0 seen.0).1
      go (Open p) k = λ seen. stays (Open p) (k seen.0)
      go (Close p) k = λ seen. stays (Close p) (k seen.0)
      go (Comma p) k = λ seen. stays (Comma p) (k seen.0)
      go (End p) k = λ seen. absurd (k seen.0)
  node_local (suc d) at n h = go (node_local d) (next s at) (standing s at) (same-token at)
    where
      Below : Type 0
      Below = (at n : ℕ) → at ≤ length s → NodeLocal d at n (node_at named s d at n)

      stays : (t : Token) → next s' at ≡ t → node_at named s' (suc d) at n
          ≡ on_run t (λ p e. choose (ltb n most_nodes) (run_node named s' (node_at named s' d) p e n) (refused 9 p))
      stays t e = ap (λ t. on_run t (λ p e. choose (ltb n most_nodes) (run_node named s' (node_at named s' d) p e n) (refused 9 p))) e

      run : Below → (p e : ℕ) → Standing s at (Run p e) → SameToken at (Run p e) → (b : Bool) → ltb n most_nodes ≡ b
          → NodeLocal (suc d) at n (choose b (run_node named s (node_at named s d) p e n) (refused 9 p))
      run below p e t k true few = run_local d below at n p e t k few
      run below p e t k false full = limit_local d below at n p e t k full

      go : Below → (t : Token) → Standing s at t → SameToken at t
          → NodeLocal (suc d) at n (on_run t (λ p e. choose (ltb n most_nodes) (run_node named s (node_at named s d) p e n) (refused 9 p)))
      go below (Run p e) t k = run below p e t k (ltb n most_nodes) refl
      go below (Open p) t k = λ seen. stays (Open p) (k seen.0)
      go below (Close p) t k = λ seen. stays (Close p) (k seen.0)
      go below (Comma p) t k = λ seen. stays (Comma p) (k seen.0)
      go below (End p) t k = λ seen. absurd (k seen.0)
