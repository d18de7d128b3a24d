-- The reader's answers are right of its text: each is shown from the answers inside it, down to the runs.
-- Assumes nothing.
use mathlib.Core.Path.{◌≡◌, refl, sym, ap, ap₂, ◌∙◌, subst⁻¹}
use mathlib.Core.Bool.{Bool, true, false}
use mathlib.Core.List.{List, [], ◌∷◌, ◌++◌, append_assoc, append-nil}
use Prim.Native.Nat.{ℕ, zero, suc, ◌+◌, ◌-◌, ◌≤◌, ◌<◌}
use native.Mathlib.Omega.{arith}
use borrow.Author.Tests.{ltb-true}
use lib.ListN.{length, take, drop}
use lib.Dec.{ltb}
use Rattle.scalars.specs.Mask.{choose}
use Rattle.functions.specs.Functions.{function_count}
use Rattle.names.specs.Names.{Named, a_type, a_function, unknown, type_name, function_name, measured_name, same, named}
use Rattle.names.proofs.SameBytes.{same-is, same_self}
use Rattle.names.proofs.Named.{named_type, named-function}
use Rattle.expressions.specs.Tree.{Tree, Trees, leaf, call, none, more, nodes, most_nodes}
use Rattle.expressions.specs.Known.{Known}
use Rattle.expressions.specs.Limits.{levels}
use Rattle.expressions.specs.Reading.{Reading, done, refused, and_then}
use Rattle.text.specs.declared.token.Token.{Token}
use Rattle.text.specs.declared.token.Token.TheVariants.{Open, Close, Comma, Run, End}
use Rattle.text.specs.Tokens.{space_byte, open_byte, close_byte, comma_byte, next, place}
use Rattle.text.specs.Grammar.{spaces, leaf_laid, measured_laid, empty_laid, call_laid, close_laid, comma_laid, laid, tree_of}
use Rattle.text.specs.Reading.{on_run, on_open, on_close, on_more, args_at, brackets_at, word_at, type_at, measured_at, run_node, node_at}
use Rattle.theorems.proofs.TextTokens.{clash, runs-apart, Standing, standing}
use Rattle.theorems.proofs.TextComplete.{following, worded, node_least}
use Rattle.theorems.proofs.TextSpelt.{limit, strange, wrong, NodeSpelt, ArgsSpelt, NodeFault, ArgsFault, NodeOk, ArgsOk}

-- so many spaces behind `measured`, with what makes them the beginning of a type
type_behind : (k : ℕ) → (rest : List ℕ) × (j : ℕ) × (spaces k ++ rest ≡ space_byte ∷ (spaces j ++ type_name 0))
type_behind zero = (space_byte ∷ type_name 0, 0, refl)
type_behind (suc j) = (type_name 0, j, refl)

module _ (s : List ℕ) where
  module _ (d : ℕ) (node : ℕ → ℕ → Reading Tree) (ok : (at n : ℕ) → at ≤ length s → NodeOk s d at n (node at n)) where
    -- behind an argument
    module _ (at n : ℕ) (x : Tree) (a m : ℕ) (h : NodeSpelt s d at n x a m) where
      closes : (p : ℕ) → Standing s a (Close p) → ArgsSpelt s d at n (more x none) (p + 1) m
      unfolding laid tree_of nodes levels Known
      closes p t =
          let c = t.kind in
          record {
            layout = h.layout;
            others = close_laid t.blank;
            trees_are = ap (λ y. more y none) h.tree_is;
            text = h.text ∙ ap (λ l. laid h.layout ++ l)
                (t.text ∙ ap (λ l. spaces t.blank ++ l) c.text
                ∙ sym (append_assoc (spaces t.blank) (close_byte ∷ []) (drop (p + 1) s)));
            known = (h.known, tt);
            low = omega (arith, h.low);
            nodes_are = omega (arith, h.nodes-is);
            few = h.few;
            later = omega (arith, h.later, t.place_is);
            first = omega (arith, h.first, t.place_is);
            within = omega (arith, c.here);
          }

      goes : (p : ℕ) → Standing s a (Comma p) → (r : Reading Trees) → ArgsOk s d (p + 1) m r → ArgsOk s d at n (and_then r (λ es. done (more x es)))
      unfolding laid tree_of nodes levels Known
      goes p t (refused k q) g =
          let c = t.kind in
          record {
            why = g.why;
            later = omega (arith, g.later, h.later, t.place_is);
            first = omega (arith, g.later, h.first, t.place_is);
            within = g.within;
            before = laid h.layout ++ (spaces t.blank ++ comma_byte ∷ g.before);
            text = h.text ∙ ap (λ l. laid h.layout ++ l)
                (t.text ∙ ap (λ l. spaces t.blank ++ l) (c.text ∙ ap (λ l. comma_byte ∷ l) g.text)) ∙ simp append_assoc;
            rest = g.rest;
            may = g.may;
            layout = h.layout;
            others = comma_laid t.blank g.layout g.others;
            completes = simp append_assoc (ap (λ l. laid h.layout ++ (spaces t.blank ++ comma_byte ∷ l)) g.completes);
            known = subst⁻¹ (Known function_count) h.tree_is h.known;
            all_known = (g.known, g.all_known);
            small = λ z. let y = g.small z in
                (omega (arith, h.low, ap levels h.tree_is), omega (arith, y.0, y.1), omega (arith, y.2, h.nodes-is, ap nodes h.tree_is));
          }
      goes p t (done es b m') g =
          let c = t.kind in
          record {
            layout = h.layout;
            others = comma_laid t.blank g.layout g.others;
            trees_are = ap₂ more h.tree_is g.trees_are;
            text = h.text ∙ ap (λ l. laid h.layout ++ l)
                (t.text ∙ ap (λ l. spaces t.blank ++ l) (c.text ∙ ap (λ l. comma_byte ∷ l) g.text)) ∙ simp append_assoc;
            known = (h.known, g.known);
            low = omega (arith, h.low, g.low);
            nodes_are = omega (arith, h.nodes-is, g.nodes_are);
            few = g.few;
            later = omega (arith, g.later, h.later, t.place_is);
            first = omega (arith, g.later, h.first, t.place_is);
            within = g.within;
          }

      stops : (t : Token) → Standing s a t → ArgsFault s d at n 15 (place t)
      unfolding laid tree_of Known
      stops u t = record {
        why = wrong;
        later = omega (arith, h.later, t.place_is);
        first = omega (arith, h.first, t.place_is);
        within = t.within h.within;
        before = laid h.layout ++ spaces t.blank;
        text = h.text ∙ ap (λ l. laid h.layout ++ l) t.text ∙ sym (append_assoc (laid h.layout) (spaces t.blank) (drop (place u) s));
        rest = close_byte ∷ [];
        may = λ z. absurd (z refl);
        layout = h.layout;
        others = close_laid t.blank;
        completes = append_assoc (laid h.layout) (spaces t.blank) (close_byte ∷ []);
        known = subst⁻¹ (Known function_count) h.tree_is h.known;
        all_known = tt;
        small = λ z. absurd (omega arith);
      }

    fault-first : (at n k p : ℕ) → NodeFault s d at n k p → ArgsFault s d at n k p
    unfolding laid tree_of nodes levels Known
    fault-first at n k p f = record {
      why = f.why;
      later = f.later;
      first = f.first;
      within = f.within;
      before = f.before;
      text = f.text;
      rest = f.rest ++ close_byte ∷ [];
      may = λ z. let y = f.may z in (
        y.0 ++ close_byte ∷ [],
        ap (λ l. l ++ close_byte ∷ []) y.1
            ∙ append_assoc (type_name 0) y.0 (close_byte ∷ []),
      );
      layout = f.layout;
      others = close_laid 0;
      completes = sym (append_assoc f.before f.rest (close_byte ∷ [])) ∙ ap (λ l. l ++ close_byte ∷ []) f.completes;
      known = f.known;
      all_known = tt;
      small = λ z. let y = f.small z in (y.0, omega arith, omega (arith, y.1));
    }

    pub args_ok : (left at n : ℕ) → at ≤ length s → n ≤ most_nodes → most_nodes < left + n → ArgsOk s d at n (args_at named s node left at n)
    unfolding args_at nodes
    args_ok zero at n h few fuel = absurd (omega arith)
    args_ok (suc left) at n h few fuel = go (node at n) (ok at n h) (args_ok left)
      where
        Rest : Type 0
        Rest = (at n : ℕ) → at ≤ length s → n ≤ most_nodes → most_nodes < left + n → ArgsOk s d at n (args_at named s node left at n)

        go : (r : Reading Tree) → NodeOk s d at n r → Rest → ArgsOk s d at n (and_then r (following s node left))
        go (refused k p) f rest = fault-first at n k p f
        go (done x a m) g rest = sign (next s a) (standing s a)
          where
            sign : (t : Token) → Standing s a t
                → ArgsOk s d at n (on_more t (λ behind. done (more x none) behind m)
                (λ behind. and_then (args_at named s node left behind m) (λ es. done (more x es))))
            sign (Close p) t = closes at n x a m g p t
            sign (Comma p) t =
                goes at n x a m g p t (args_at named s node left (p + 1) m)
                (rest (p + 1) m (omega (arith, t.kind.here)) g.few (omega (arith, fuel, g.nodes-is, node_least x)))
            sign (Open p) t = stops at n x a m g (Open p) t
            sign (Run p e) t = stops at n x a m g (Run p e) t
            sign (End p) t = stops at n x a m g (End p) t

    -- a node that begins with a run
    module _ (at n p e : ℕ) (t : Standing s at (Run p e)) (few : n < most_nodes) where
      abbrev run : List ℕ
      run = take (e - p) (drop p s)

      run-text : (w : List ℕ) → run ≡ w → drop at s ≡ spaces t.blank ++ (w ++ drop e s)
      run-text w h = let r = t.kind in t.text ∙ ap (λ l. spaces t.blank ++ l) (r.text ∙ ap (λ l. l ++ drop e s) h)

      leaf_ok : (c : ℕ) → named run ≡ a_type c → NodeSpelt s (suc d) at n (leaf (record { code = c; measured = false })) e (n + 1)
      unfolding laid tree_of nodes levels Known
      leaf_ok c h =
          let r = t.kind in
          let w = named_type run c h in
          record {
            layout = leaf_laid t.blank c;
            tree_is = refl;
            text = run-text (type_name c) w.1 ∙ sym (append_assoc (spaces t.blank) (type_name c) (drop e s));
            known = omega (arith, w.0);
            low = omega arith;
            nodes-is = refl;
            few = omega arith;
            later = omega (arith, r.some, t.place_is);
            first = omega (arith, r.some, ap place t.is);
            within = r.within;
          }

      strange-fault : named run ≡ unknown → (run ≡ measured_name → ⊥) → NodeFault s (suc d) at n 14 p
      unfolding laid tree_of nodes levels Known
      strange-fault h other = record {
        why = strange e t.again h other;
        later = omega (arith, t.place_is);
        first = omega (arith, ap place t.is);
        within = omega (arith, t.kind.some, t.kind.within);
        before = spaces t.blank;
        text = t.text;
        rest = type_name 0;
        may = λ _. ([], sym (append-nil (type_name 0)));
        layout = leaf_laid t.blank 0;
        completes = refl;
        known = omega arith;
        small = λ _. (omega arith, omega arith);
      }

      -- `measured`
      module _ (is : run ≡ measured_name) where
        no_type : (u : Token) → Standing s e u → NodeFault s (suc d) at n 15 (place u)
        unfolding laid tree_of Known
        no_type u v =
            let (rest, j, makes) = type_behind v.blank in
            record {
              why = wrong;
              later = omega (arith, t.place_is, t.kind.some, v.place_is);
              first = omega (arith, ap place t.is, t.kind.some, v.place_is);
              within = v.within t.kind.within;
              before = spaces t.blank ++ (measured_name ++ spaces v.blank);
              text = run-text measured_name is ∙ ap (λ l. spaces t.blank ++ (measured_name ++ l)) v.text ∙ simp append_assoc;
              rest = rest;
              may = λ z. absurd (z refl);
              layout = measured_laid t.blank j 0;
              completes = simp append_assoc (ap (λ l. spaces t.blank ++ (measured_name ++ l)) makes);
              known = omega arith;
              small = λ z. absurd (omega arith);
            }

        type_ok : (p' e' : ℕ) → Standing s e (Run p' e') → (c : ℕ) → named (take (e' - p') (drop p' s)) ≡ a_type c
            → NodeSpelt s (suc d) at n (leaf (record { code = c; measured = true })) e' (n + 1)
        unfolding laid tree_of nodes levels Known
        type_ok p' e' v c h = go v.blank v.place_is v.text
          where
            go : (k : ℕ) → p' ≡ e + k → drop e s ≡ spaces k ++ drop p' s
                → NodeSpelt s (suc d) at n (leaf (record { code = c; measured = true })) e' (n + 1)
            go zero q x = absurd (runs-apart s p e p' e' t.kind v.kind (omega arith))
            go (suc j) q x =
                let w = named_type (take (e' - p') (drop p' s)) c h in
                record {
                  layout = measured_laid t.blank j c;
                  tree_is = refl;
                  text = run-text measured_name is
                      ∙ ap (λ l. spaces t.blank ++ (measured_name ++ l))
                      (x ∙ ap (λ l. spaces (suc j) ++ l) (v.kind.text ∙ ap (λ l. l ++ drop e' s) w.1))
                      ∙ simp append_assoc;
                  known = omega (arith, w.0);
                  low = omega arith;
                  nodes-is = refl;
                  few = omega arith;
                  later = omega (arith, t.place_is, t.kind.some, v.kind.some);
                  first = omega (arith, ap place t.is, t.kind.some, v.kind.some);
                  within = v.kind.within;
                }

        measured_ok : (u : Token) → Standing s e u
            → NodeOk s (suc d) at n (on_run u (λ p' e'. type_at named s p' e' n (named (take (e' - p') (drop p' s)))))
        unfolding type_at
        measured_ok (Open p') v = no_type (Open p') v
        measured_ok (Close p') v = no_type (Close p') v
        measured_ok (Comma p') v = no_type (Comma p') v
        measured_ok (End p') v = no_type (End p') v
        measured_ok (Run p' e') v = go (named (take (e' - p') (drop p' s))) refl
          where
            go : (w : Named) → named (take (e' - p') (drop p' s)) ≡ w → NodeOk s (suc d) at n (type_at named s p' e' n w)
            go (a_type c) h = type_ok p' e' v c h
            go (a_function f) h = no_type (Run p' e') v
            go unknown h = no_type (Run p' e') v

      -- a function's name
      module _ (f : ℕ) (h : named run ≡ a_function f) where
        name_known : f < function_count
        name_known = (named-function run f h).0

        name_text : drop at s ≡ spaces t.blank ++ (function_name f ++ drop e s)
        name_text = run-text (function_name f) (named-function run f h).1

        no_bracket : (u : Token) → Standing s e u → NodeFault s (suc d) at n 15 (place u)
        unfolding laid tree_of Known
        no_bracket u v = record {
          why = wrong;
          later = omega (arith, t.place_is, t.kind.some, v.place_is);
          first = omega (arith, ap place t.is, t.kind.some, v.place_is);
          within = v.within t.kind.within;
          before = spaces t.blank ++ (function_name f ++ spaces v.blank);
          text = name_text ∙ ap (λ l. spaces t.blank ++ (function_name f ++ l)) v.text ∙ simp append_assoc;
          rest = open_byte ∷ close_byte ∷ [];
          may = λ z. absurd (z refl);
          layout = empty_laid t.blank f v.blank 0;
          completes = simp append_assoc;
          known = (name_known, tt);
          small = λ z. absurd (omega arith);
        }

        module _ (b : ℕ) (v : Standing s e (Open b)) where
          open_text : drop at s ≡ spaces t.blank ++ (function_name f ++ (spaces v.blank ++ open_byte ∷ drop (b + 1) s))
          open_text = let o = v.kind in name_text
              ∙ ap (λ l. spaces t.blank ++ (function_name f ++ l)) (v.text ∙ ap (λ l. spaces v.blank ++ l) o.text)

          empty_ok : (c : ℕ) → Standing s (b + 1) (Close c) → NodeSpelt s (suc d) at n (call f none) (c + 1) (n + 1)
          unfolding laid tree_of nodes levels Known
          empty_ok c u =
              let x = u.kind in
              record {
                layout = empty_laid t.blank f v.blank u.blank;
                tree_is = refl;
                text = open_text ∙ ap (λ l. spaces t.blank ++ (function_name f ++ (spaces v.blank ++ open_byte ∷ l)))
                    (u.text ∙ ap (λ l. spaces u.blank ++ l) x.text) ∙ simp append_assoc;
                known = (name_known, tt);
                low = omega arith;
                nodes-is = omega arith;
                few = omega arith;
                later = omega (arith, t.place_is, t.kind.some, v.place_is, u.place_is);
                first = omega (arith, ap place t.is, t.kind.some, v.place_is, u.place_is);
                within = omega (arith, x.here);
              }

          call_ok : (r : Reading Trees) → ArgsOk s d (b + 1) (n + 1) r → NodeOk s (suc d) at n (and_then r (λ es. done (call f es)))
          unfolding laid tree_of nodes levels Known
          call_ok (refused k q) g = record {
            why = g.why;
            later = omega (arith, t.place_is, t.kind.some, v.place_is, g.later);
            first = omega (arith, ap place t.is, t.kind.some, v.place_is, g.later);
            within = g.within;
            before = spaces t.blank ++ (function_name f ++ (spaces v.blank ++ open_byte ∷ g.before));
            text = open_text ∙ ap (λ l. spaces t.blank ++ (function_name f ++ (spaces v.blank ++ open_byte ∷ l))) g.text ∙ simp append_assoc;
            rest = g.rest;
            may = g.may;
            layout = call_laid t.blank f v.blank g.layout g.others;
            completes = simp append_assoc (ap (λ l. spaces t.blank ++ (function_name f ++ (spaces v.blank ++ open_byte ∷ l))) g.completes);
            known = (name_known, (g.known, g.all_known));
            small = λ z. let y = g.small z in (omega (arith, y.0, y.1), omega (arith, y.2));
          }
          call_ok (done es a m) g = record {
            layout = call_laid t.blank f v.blank g.layout g.others;
            tree_is = ap (call f) g.trees_are;
            text = open_text ∙ ap (λ l. spaces t.blank ++ (function_name f ++ (spaces v.blank ++ open_byte ∷ l))) g.text ∙ simp append_assoc;
            known = (name_known, g.known);
            low = omega (arith, g.low);
            nodes-is = omega (arith, g.nodes_are);
            few = g.few;
            later = omega (arith, t.place_is, t.kind.some, v.place_is, g.later);
            first = omega (arith, ap place t.is, t.kind.some, v.place_is, g.later);
            within = g.within;
          }

          args_in : ArgsOk s d (b + 1) (n + 1) (args_at named s node (suc most_nodes) (b + 1) (n + 1))
          args_in = args_ok (suc most_nodes) (b + 1) (n + 1) (omega (arith, v.kind.here)) (omega arith) (omega arith)

          inside_ok : (u : Token) → Standing s (b + 1) u
              → NodeOk s (suc d) at n (and_then (on_close u (λ behind. done none behind (n + 1))
              (args_at named s node (suc most_nodes) (b + 1) (n + 1))) (λ es. done (call f es)))
          inside_ok (Close c) u = empty_ok c u
          inside_ok (Open c) u = call_ok (args_at named s node (suc most_nodes) (b + 1) (n + 1)) args_in
          inside_ok (Comma c) u = call_ok (args_at named s node (suc most_nodes) (b + 1) (n + 1)) args_in
          inside_ok (Run c c') u = call_ok (args_at named s node (suc most_nodes) (b + 1) (n + 1)) args_in
          inside_ok (End c) u = call_ok (args_at named s node (suc most_nodes) (b + 1) (n + 1)) args_in

        brackets_ok : (u : Token) → Standing s e u
            → NodeOk s (suc d) at n (and_then (on_open u
            (λ inside. on_close (next s inside) (λ behind. done none behind (n + 1))
            (args_at named s node (suc most_nodes) inside (n + 1)))) (λ es. done (call f es)))
        brackets_ok (Open b) v = inside_ok b v (next s (b + 1)) (standing s (b + 1))
        brackets_ok (Close b) v = no_bracket (Close b) v
        brackets_ok (Comma b) v = no_bracket (Comma b) v
        brackets_ok (Run b b') v = no_bracket (Run b b') v
        brackets_ok (End b) v = no_bracket (End b) v

      word_ok : (run ≡ measured_name → ⊥) → (w : Named) → named run ≡ w → NodeOk s (suc d) at n (word_at named s node p e n w)
      unfolding word_at brackets_at
      word_ok other (a_type c) h = leaf_ok c h
      word_ok other (a_function f) h = brackets_ok f h (next s e) (standing s e)
      word_ok other unknown h = strange-fault h other

      run_ok : NodeOk s (suc d) at n (worded s node p e n run)
      unfolding measured_at
      run_ok = go (same run measured_name) refl
        where
          go : (b : Bool) → same run measured_name ≡ b
              → NodeOk s (suc d) at n (choose b (measured_at named s e n) (word_at named s node p e n (named run)))
          go true h = measured_ok (same-is run measured_name h) (next s e) (standing s e)
          go false h =
              word_ok (λ is. clash (sym h ∙ ap (λ w. same w measured_name) is ∙ same_self measured_name)) (named run) refl

  -- a token that begins no node, and a run past the limits
  module _ (d at n : ℕ) (h : at ≤ length s) where
    misplaced-fault : (u : Token) → Standing s at u → NodeFault s d at n 15 (place u)
    unfolding laid tree_of Known
    misplaced-fault u t = record {
      why = wrong;
      later = omega (arith, t.place_is);
      first = omega (arith, ap place t.is);
      within = t.within h;
      before = spaces t.blank;
      text = t.text;
      rest = type_name 0;
      may = λ z. absurd (z refl);
      layout = leaf_laid t.blank 0;
      completes = refl;
      known = omega arith;
      small = λ z. absurd (omega arith);
    }

    limit-fault : (p e : ℕ) → Standing s at (Run p e) → NodeFault s d at n 9 p
    unfolding laid tree_of Known
    limit-fault p e t = record {
      why = limit e t.again;
      later = omega (arith, t.place_is);
      first = omega (arith, ap place t.is);
      within = t.within h;
      before = spaces t.blank;
      text = t.text;
      rest = type_name 0;
      may = λ _. ([], sym (append-nil (type_name 0)));
      layout = leaf_laid t.blank 0;
      completes = refl;
      known = omega arith;
      small = λ z. absurd (omega arith);
    }

  pub node_ok : (d at n : ℕ) → at ≤ length s → NodeOk s d at n (node_at named s d at n)
  unfolding node_at run_node
  node_ok zero at n h = go (next s at) (standing s at)
    where
      go : (t : Token) → Standing s at t → NodeOk s 0 at n (on_run t (λ p e. refused 9 p))
      go (Run p e) t = limit-fault 0 at n h p e t
      go (Open p) t = misplaced-fault 0 at n h (Open p) t
      go (Close p) t = misplaced-fault 0 at n h (Close p) t
      go (Comma p) t = misplaced-fault 0 at n h (Comma p) t
      go (End p) t = misplaced-fault 0 at n h (End p) t
  node_ok (suc d) at n h = go (node_ok d) (next s at) (standing s at)
    where
      run : ((at n : ℕ) → at ≤ length s → NodeOk s d at n (node_at named s d at n)) → (p e : ℕ) → Standing s at (Run p e) → (b : Bool)
          → ltb n most_nodes ≡ b
          → NodeOk s (suc d) at n (choose b (run_node named s (node_at named s d) p e n) (refused 9 p))
      run below p e t true few = run_ok d (node_at named s d) below at n p e t (ltb-true n most_nodes few)
      run below p e t false few = limit-fault (suc d) at n h p e t

      go : ((at n : ℕ) → at ≤ length s → NodeOk s d at n (node_at named s d at n)) → (t : Token) → Standing s at t
          → NodeOk s (suc d) at n (on_run t (λ p e. choose (ltb n most_nodes) (run_node named s (node_at named s d) p e n) (refused 9 p)))
      go below (Run p e) t = run below p e t (ltb n most_nodes) refl
      go below (Open p) t = misplaced-fault (suc d) at n h (Open p) t
      go below (Close p) t = misplaced-fault (suc d) at n h (Close p) t
      go below (Comma p) t = misplaced-fault (suc d) at n h (Comma p) t
      go below (End p) t = misplaced-fault (suc d) at n h (End p) t
