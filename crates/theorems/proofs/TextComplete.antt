-- The reader meets a layout of a tree of known names: it reads that tree, or refuses with 9, and then the tree is not within the limits.
-- Assumes nothing.
use mathlib.Core.Path.{◌≡◌, refl, ap, ap₂, ◌∙◌, subst⁻¹}
use mathlib.Core.Bool.{Bool, true, false}
use mathlib.Core.List.{List, [], ◌∷◌, ◌++◌, append_assoc}
use Prim.Native.Nat.{ℕ, zero, suc, ◌+◌, ◌-◌, ◌≤◌, ◌<◌}
use native.Mathlib.Omega.{arith}
use borrow.Author.Tests.{ltb-true, ltb-false}
use lib.ListN.{length, take, drop, length-append}
use lib.Dec.{ltb}
use Rattle.scalars.specs.Mask.{choose}
use Rattle.functions.specs.Functions.{function_count}
use Rattle.names.specs.Names.{type_count, type_name, function_name, measured_name, same, named}
use Rattle.names.proofs.SameBytes.{same_self}
use Rattle.names.proofs.Named.{type_named, function-named, type_other, function-other}
use Rattle.expressions.specs.Tree.{Tree, Trees, leaf, call, none, more, nodes, nodes_all, most_nodes}
use Rattle.expressions.specs.Known.{Known, KnownAll}
use Rattle.expressions.specs.Limits.{levels, levels_all}
use Rattle.expressions.specs.Reading.{Reading, done, refused, and_then}
use Rattle.expressions.proofs.Bytes.{after}
use Rattle.text.specs.declared.token.Token.TheVariants.{Open, Close, Comma, Run}
use Rattle.text.specs.Tokens.{space_byte, open_byte, close_byte, comma_byte, separates, next}
use Rattle.text.specs.Grammar.{spaces, Layout, Others, leaf_laid, measured_laid, empty_laid, call_laid, close_laid, comma_laid, laid, laid_others, tree_of, trees_of}
use Rattle.text.specs.Reading.{on_run, on_open, on_close, on_more, args_at, brackets_at, word_at, type_at, measured_at, run_node, node_at}
use Rattle.theorems.proofs.TextTokens.{spaces-length, Ends, RunAt, run_at, open_at, close_at, comma_at}
use Rattle.theorems.proofs.TextWords.{Word, type_word, function-word, measured-word}

-- ---- a word ends where a layout goes on

pub ends-spaces : (k b : ℕ) (r : List ℕ) → separates b ≡ true → Ends (spaces k ++ b ∷ r)
unfolding separates
ends-spaces zero b r h = h
ends-spaces (suc k) b r h = refl

pub ends-blank : (k : ℕ) → Ends (spaces k)
unfolding separates
ends-blank zero = tt
ends-blank (suc k) = refl

pub ends-others : (q : Others) (r : List ℕ) → Ends (laid_others q ++ r)
unfolding laid_others separates
ends-others (close_laid k) r = subst⁻¹ Ends (append_assoc (spaces k) (close_byte ∷ []) r) (ends-spaces k close_byte r refl)
ends-others (comma_laid k x q) r =
    subst⁻¹ Ends (append_assoc (spaces k) (comma_byte ∷ (laid x ++ laid_others q)) r) (ends-spaces k comma_byte ((laid x ++ laid_others q) ++ r) refl)

pub node_least : (e : Tree) → 1 ≤ nodes e
unfolding nodes
node_least (leaf l) = omega arith
node_least (call f es) = omega arith

-- ---- what a reading may be

-- it is `here`, or a refusal with 9 where a limit is passed
pub data Meets {A : Type 0} (x : Reading A) (here : Reading A) (Within : Type 0) : Type 0 where
  met : x ≡ here → Meets x here Within
  over : (p : ℕ) → x ≡ refused 9 p → (Within → ⊥) → Meets x here Within

module _ (s : List ℕ) where
  abbrev pub NodeMet : Layout → ℕ → ℕ → ℕ → Type 0
  NodeMet l d at n =
      Meets (node_at named s d at n) (done (tree_of l) (at + length (laid l)) (n + nodes (tree_of l)))
      ((levels (tree_of l) ≤ d) × (n + nodes (tree_of l) ≤ most_nodes))

  -- what follows an argument
  abbrev pub following : (ℕ → ℕ → Reading Tree) → ℕ → Tree → ℕ → ℕ → Reading Trees
  following node left e at n =
      on_more (next s at) (λ behind. done (more e none) behind n)
      (λ behind. and_then (args_at named s node left behind n) (λ es. done (more e es)))

  abbrev pub OthersMet : Others → Tree → ℕ → ℕ → ℕ → ℕ → Type 0
  OthersMet q e d left at n =
      Meets (following (node_at named s d) left e at n) (done (more e (trees_of q)) (at + length (laid_others q)) (n + nodes_all (trees_of q)))
      ((levels_all (trees_of q) ≤ d) × (n + nodes_all (trees_of q) ≤ most_nodes))

  pub next_arg : (d left at n : ℕ) {e : Tree} {a m : ℕ} → node_at named s d at n ≡ done e a m
      → args_at named s (node_at named s d) (suc left) at n ≡ following (node_at named s d) left e a m
  unfolding args_at
  next_arg d left at n e = ap (λ z. and_then z (following (node_at named s d) left)) e

  pub next-fault : (d left at n : ℕ) {k p : ℕ} → node_at named s d at n ≡ refused k p
      → args_at named s (node_at named s d) (suc left) at n ≡ refused k p
  unfolding args_at
  next-fault d left at n e = ap (λ z. and_then z (following (node_at named s d) left)) e

  -- a node by its first word, which stands from p to e
  abbrev pub worded : (ℕ → ℕ → Reading Tree) → ℕ → ℕ → ℕ → List ℕ → Reading Tree
  worded node p e n w = choose (same w measured_name) (measured_at named s e n) (word_at named s node p e n (named w))

  -- a node that begins with a word
  module _ (d at n k : ℕ) (w r : List ℕ) (word : Word w) (e : drop at s ≡ spaces k ++ (w ++ r)) (q : Ends r) where
    pub the_run : RunAt s at k w r
    the_run = run_at s at k w r e word.some word.clean_is q

    pub begins : node_at named s (suc d) at n
        ≡ choose (ltb n most_nodes) (worded (node_at named s d) (at + k) (at + k + length w) n w) (refused 9 (at + k))
    unfolding node_at run_node
    begins =
        ap (λ t. on_run t (λ p e. choose (ltb n most_nodes) (worded (node_at named s d) p e n (take (e - p) (drop p s))) (refused 9 p))) the_run.token
        ∙ ap (λ run. choose (ltb n most_nodes) (worded (node_at named s d) (at + k) (at + k + length w) n run) (refused 9 (at + k))) the_run.run

    pub too_deep : node_at named s zero at n ≡ refused 9 (at + k)
    unfolding node_at
    too_deep = ap (λ t. on_run t (λ p e. refused 9 p)) the_run.token

    pub node_begins : {here : Reading Tree} {Within : Type 0}
        → (n < most_nodes → Meets (worded (node_at named s d) (at + k) (at + k + length w) n w) here Within)
        → (most_nodes ≤ n → Within → ⊥) → Meets (node_at named s (suc d) at n) here Within
    node_begins {here} {Within} f g = subst⁻¹ (λ x. Meets x here Within) begins (go (ltb n most_nodes) refl)
      where
        go : (b : Bool) → ltb n most_nodes ≡ b
            → Meets (choose b (worded (node_at named s d) (at + k) (at + k + length w) n w) (refused 9 (at + k))) here Within
        go true e = f (ltb-true n most_nodes e)
        go false e = over (at + k) refl (g (ltb-false n most_nodes e))

  -- ---- what the first word says, and brackets

  module _ (node : ℕ → ℕ → Reading Tree) where
    leaf-word : (p e n t : ℕ) → t < type_count → worded node p e n (type_name t) ≡ done (leaf (record { code = t; measured = false })) e (n + 1)
    unfolding word_at
    leaf-word p e n t h =
        ap₂ (λ b w. choose b (measured_at named s e n) (word_at named s node p e n w)) (type_other t h) (type_named t h)

    measured-leaf : (p e n a b t : ℕ) → next s e ≡ Run a b → take (b - a) (drop a s) ≡ type_name t → t < type_count
        → worded node p e n measured_name ≡ done (leaf (record { code = t; measured = true })) b (n + 1)
    unfolding measured_at type_at
    measured-leaf p e n a b t run is h =
        ap (λ b. choose b (measured_at named s e n) (word_at named s node p e n (named measured_name))) (same_self measured_name)
        ∙ ap (λ t. on_run t (λ p e. type_at named s p e n (named (take (e - p) (drop p s))))) run
        ∙ ap (λ run. type_at named s a b n (named run)) is
        ∙ ap (type_at named s a b n) (type_named t h)

    call-word : (p e n f : ℕ) → f < function_count
        → worded node p e n (function_name f) ≡ and_then (brackets_at named s node e (n + 1)) (λ es. done (call f es))
    unfolding word_at
    call-word p e n f h =
        ap₂ (λ b w. choose b (measured_at named s e n) (word_at named s node p e n w)) (function-other f h) (function-named f h)

    pub brackets_empty : (at n p q : ℕ) → next s at ≡ Open p → next s (p + 1) ≡ Close q → brackets_at named s node at n ≡ done none (q + 1) n
    unfolding brackets_at
    brackets_empty at n p q o c =
        ap (λ t. on_open t (λ inside. on_close (next s inside) (λ behind. done none behind n) (args_at named s node (suc most_nodes) inside n))) o
        ∙ ap (λ t. on_close t (λ behind. done none behind n) (args_at named s node (suc most_nodes) (p + 1) n)) c

    pub brackets_full : (at n p a b : ℕ) → next s at ≡ Open p → next s (p + 1) ≡ Run a b
        → brackets_at named s node at n ≡ args_at named s node (suc most_nodes) (p + 1) n
    unfolding brackets_at
    brackets_full at n p a b o r =
        ap (λ t. on_open t (λ inside. on_close (next s inside) (λ behind. done none behind n) (args_at named s node (suc most_nodes) inside n))) o
        ∙ ap (λ t. on_close t (λ behind. done none behind n) (args_at named s node (suc most_nodes) (p + 1) n)) r

  -- a node begins with a run
  pub first_run : (l : Layout) (at : ℕ) (r : List ℕ) → Known function_count (tree_of l) → drop at s ≡ laid l ++ r → Ends r
      → (p : ℕ) × (e : ℕ) × (next s at ≡ Run p e)
  unfolding laid tree_of Known separates
  first_run (leaf_laid k t) at r known e q =
      (_, _, (the_run 0 at 0 k (type_name t) r (type_word t (omega arith)) (e ∙ append_assoc (spaces k) (type_name t) r) q).token)
  first_run (measured_laid k j t) at r known e q =
      (_, _, (the_run 0 at 0 k measured_name (space_byte ∷ (spaces j ++ (type_name t ++ r))) measured-word (e ∙ simp append_assoc) refl).token)
  first_run (empty_laid k f j i) at r known e q = (
    _,
    _,
    (the_run 0 at 0 k (function_name f) (spaces j ++ open_byte ∷ (spaces i ++ close_byte ∷ r)) (function-word f known.0)
        (e ∙ simp append_assoc) (ends-spaces j open_byte _ refl)).token,
  )
  first_run (call_laid k f j x o) at r known e q = (
    _,
    _,
    (the_run 0 at 0 k (function_name f) (spaces j ++ open_byte ∷ (laid x ++ (laid_others o ++ r))) (function-word f known.0)
        (e ∙ simp append_assoc) (ends-spaces j open_byte _ refl)).token,
  )

  -- ---- the induction

  weaker : {A : Type 0} {x y here : Reading A} {W W' : Type 0} → x ≡ y → Meets y here W → (W' → W) → Meets x here W'
  weaker e (met m) g = met (e ∙ m)
  weaker e (over p m out) g = over p (e ∙ m) (λ w. out (g w))

  then-met : {A B : Type 0} (make : A → B) {y there : Reading B} {args : Reading A} {x : A} {a m : ℕ} {W W' : Type 0}
      → y ≡ and_then args (λ x. done (make x)) → Meets args (done x a m) W → done (make x) a m ≡ there → (W' → W) → Meets y there W'
  then-met make e (met f) h g = met (e ∙ ap (λ r. and_then r (λ x. done (make x))) f ∙ h)
  then-met make e (over p f out) h g = over p (e ∙ ap (λ r. and_then r (λ x. done (make x))) f) (λ w. out (g w))

  first-met : (d left at n : ℕ) {x : Tree} {a m : ℕ} {here : Reading Trees} {One Others' All : Type 0}
      → Meets (node_at named s d at n) (done x a m) One
      → Meets (following (node_at named s d) left x a m) here Others' → (All → One × Others')
      → Meets (args_at named s (node_at named s d) (suc left) at n) here All
  first-met d left at n (met e) others g = weaker (next_arg d left at n e) others (λ u. (g u).1)
  first-met d left at n (over p e out) others g = over p (next-fault d left at n e) (λ u. out (g u).0)

  module _ (node : ℕ → ℕ → Reading Tree) (left : ℕ) (x : Tree) (at n p : ℕ) where
    pub closed : next s at ≡ Close p → following node left x at n ≡ done (more x none) (p + 1) n
    closed e =
        ap (λ t. on_more t (λ behind. done (more x none) behind n) (λ behind. and_then (args_at named s node left behind n) (λ es. done (more x es)))) e

    pub went : next s at ≡ Comma p → following node left x at n ≡ and_then (args_at named s node left (p + 1) n) (λ es. done (more x es))
    went e =
        ap (λ t. on_more t (λ behind. done (more x none) behind n) (λ behind. and_then (args_at named s node left behind n) (λ es. done (more x es)))) e

  spent : (node : ℕ → ℕ → Reading Tree) (x : Tree) (at n : ℕ) → and_then (args_at named s node zero at n) (λ es. done (more x es)) ≡ refused 9 at
  unfolding args_at
  spent node x at n = refl

  empty-met : (k f j i d at n : ℕ) (r : List ℕ) → f < function_count
      → drop at s ≡ spaces k ++ (function_name f ++ (spaces j ++ open_byte ∷ (spaces i ++ close_byte ∷ r))) → NodeMet (empty_laid k f j i) d at n
  unfolding laid tree_of nodes levels separates
  empty-met k f j i zero at n r known split =
      over (at + k) (too_deep 0 at n k (function_name f) _ (function-word f known) split (ends-spaces j open_byte _ refl)) (λ w. omega (arith, w.0))
  empty-met k f j i (suc d) at n r known split =
      let u = the_run d at n k (function_name f) (spaces j ++ open_byte ∷ (spaces i ++ close_byte ∷ r)) (function-word f known) split
      (ends-spaces j open_byte _ refl) in
      let v = open_at s (at + k + length (function_name f)) j (spaces i ++ close_byte ∷ r) u.rest in
      let c = close_at s (at + k + length (function_name f) + j + 1) i r v.rest in
      let behind : at + k + length (function_name f) + j + 1 + i + 1
      ≡ at + length (spaces k ++ (function_name f ++ (spaces j ++ open_byte ∷ (spaces i ++ close_byte ∷ [])))) =
      simp (length-append, spaces-length) (omega arith) in
      node_begins d at n k (function_name f) _ (function-word f known) split (ends-spaces j open_byte _ refl)
      (λ _. met (call-word (node_at named s d) (at + k) (at + k + length (function_name f)) n f known
      ∙ ap (λ a. and_then a (λ es. done (call f es)))
      (brackets_empty (node_at named s d) (at + k + length (function_name f)) (n + 1) (at + k + length (function_name f) + j)
      (at + k + length (function_name f) + j + 1 + i) v.token c.token)
      ∙ ap (λ a. done (call f none) a (n + 1)) behind))
      (λ full w. omega (arith, w.1))

  measured-met : (k j t d at n : ℕ) (r : List ℕ) → t < type_count
      → drop at s ≡ spaces k ++ (measured_name ++ space_byte ∷ (spaces j ++ (type_name t ++ r))) → Ends r → NodeMet (measured_laid k j t) d at n
  unfolding laid tree_of nodes levels separates
  measured-met k j t zero at n r known split q =
      over (at + k) (too_deep 0 at n k measured_name _ measured-word split refl) (λ w. omega (arith, w.0))
  measured-met k j t (suc d) at n r known split q =
      let word = the_run d at n k measured_name (space_byte ∷ (spaces j ++ (type_name t ++ r))) measured-word split refl in
      let x = type_word t known in
      let name = run_at s (at + k + length measured_name) (suc j) (type_name t) r word.rest x.some x.clean_is q in
      let behind : at + k + length measured_name + suc j + length (type_name t)
      ≡ at + length (spaces k ++ (measured_name ++ space_byte ∷ (spaces j ++ type_name t))) =
      simp (length-append, spaces-length) (omega arith) in
      node_begins d at n k measured_name _ measured-word split refl
      (λ _. met (measured-leaf (node_at named s d) (at + k) (at + k + length measured_name) n _ _ t name.token name.run known
      ∙ ap (λ a. done (leaf (record { code = t; measured = true })) a (n + 1)) behind))
      (λ full w. omega (arith, w.1))

  mutual
    unfolding laid tree_of nodes levels Known separates

    pub node_met : (l : Layout) (d at n : ℕ) (r : List ℕ) → Known function_count (tree_of l) → drop at s ≡ laid l ++ r → Ends r → NodeMet l d at n
    node_met (leaf_laid k t) zero at n r known e q =
        over (at + k) (too_deep 0 at n k (type_name t) r (type_word t (omega arith)) (e ∙ append_assoc (spaces k) (type_name t) r) q)
        (λ w. omega (arith, w.0))
    node_met (leaf_laid k t) (suc d) at n r known e q =
        let split = e ∙ append_assoc (spaces k) (type_name t) r in
        let behind : at + k + length (type_name t)
        ≡ at + length (spaces k ++ type_name t) = omega (arith, length-append (spaces k) (type_name t), spaces-length k) in
        node_begins d at n k (type_name t) r (type_word t (omega arith)) split q
        (λ _. met (leaf-word (node_at named s d) (at + k) (at + k + length (type_name t)) n t (omega arith)
        ∙ ap (λ a. done (leaf (record { code = t; measured = false })) a (n + 1)) behind))
        (λ full w. omega (arith, w.1))
    node_met (measured_laid k j t) d at n r known e q = measured-met k j t d at n r (omega arith) (e ∙ simp append_assoc) q
    node_met (empty_laid k f j i) d at n r known e q =
        empty-met k f j i d at n r known.0 (e ∙ simp append_assoc)
    node_met (call_laid k f j x o) zero at n r known e q =
        let split : drop at s ≡ spaces k ++ (function_name f ++ (spaces j ++ open_byte ∷ (laid x ++ (laid_others o ++ r)))) = e ∙ simp append_assoc in
        over (at + k) (too_deep 0 at n k (function_name f) _ (function-word f known.0) split (ends-spaces j open_byte _ refl))
        (λ w. omega (arith, w.0))
    node_met (call_laid k f j x o) (suc d) at n r known e q =
        let split : drop at s ≡ spaces k ++ (function_name f ++ (spaces j ++ open_byte ∷ (laid x ++ (laid_others o ++ r)))) = e ∙ simp append_assoc in
        let u = the_run d at n k (function_name f) (spaces j ++ open_byte ∷ (laid x ++ (laid_others o ++ r)))
        (function-word f known.0) split (ends-spaces j open_byte _ refl) in
        let v = open_at s (at + k + length (function_name f)) j (laid x ++ (laid_others o ++ r)) u.rest in
        let inside = at + k + length (function_name f) + j + 1 in
        let first = first_run x inside (laid_others o ++ r) known.1.0 v.rest (ends-others o r) in
        let args : Meets (args_at named s (node_at named s d) (suc most_nodes) inside (n + 1)) _
        ((levels (tree_of x) ≤ d) × (levels_all (trees_of o) ≤ d) × (n + 1 + nodes (tree_of x) + nodes_all (trees_of o) ≤ most_nodes)) =
        first-met d most_nodes inside (n + 1)
        (node_met x d inside (n + 1) (laid_others o ++ r) known.1.0 v.rest (ends-others o r))
        (others-met o (tree_of x) d most_nodes (inside + length (laid x)) (n + 1 + nodes (tree_of x)) r known.1.1 (omega arith)
        (after s (laid x) (laid_others o ++ r) inside v.rest))
        (λ w. ((w.0, omega (arith, w.2)), (w.1, w.2))) in
        let behind : inside + length (laid x) + length (laid_others o)
        ≡ at + length (spaces k ++ (function_name f ++ (spaces j ++ open_byte ∷ (laid x ++ laid_others o)))) =
        simp (length-append, spaces-length) (omega arith) in
        node_begins d at n k (function_name f) _ (function-word f known.0) split (ends-spaces j open_byte _ refl)
        (λ _. then-met (call f) (call-word (node_at named s d) (at + k) (at + k + length (function_name f)) n f known.0
        ∙ ap (λ a. and_then a (λ es. done (call f es)))
        (brackets_full (node_at named s d) (at + k + length (function_name f)) (n + 1) (at + k + length (function_name f) + j) first.0
        first.1 v.token first.2))
        args (ap₂ (λ a m. done (call f (more (tree_of x) (trees_of o))) a m) behind (omega arith))
        (λ w. (omega (arith, w.0), omega (arith, w.0), omega (arith, w.1))))
        (λ full w. omega (arith, w.1))

    others-met : (o : Others) (x : Tree) (d left at n : ℕ) (r : List ℕ) → KnownAll function_count (trees_of o) → most_nodes ≤ left + n
        → drop at s ≡ laid_others o ++ r → OthersMet o x d left at n
    others-met (close_laid k) x d left at n r known fuel e =
        let c = close_at s at k r (e ∙ append_assoc (spaces k) (close_byte ∷ []) r) in
        met (closed (node_at named s d) left x at n (at + k) c.token
        ∙ ap₂ (λ a m. done (more x none) a m) (omega (arith, length-append (spaces k) (close_byte ∷ []), spaces-length k)) (omega arith))
    others-met (comma_laid k y o) x d zero at n r known fuel e =
        let c = comma_at s at k (laid y ++ (laid_others o ++ r)) (e ∙ simp append_assoc) in
        over (at + k + 1) (went (node_at named s d) zero x at n (at + k) c.token ∙ spent (node_at named s d) x (at + k + 1) n)
        (λ w. omega (arith, w.1, node_least (tree_of y)))
    others-met (comma_laid k y o) x d (suc left) at n r known fuel e =
        let c = comma_at s at k (laid y ++ (laid_others o ++ r)) (e ∙ simp append_assoc) in
        let args : Meets (args_at named s (node_at named s d) (suc left) (at + k + 1) n) _
        (((levels (tree_of y) ≤ d) × (n + nodes (tree_of y) ≤ most_nodes))
        × ((levels_all (trees_of o) ≤ d) × (n + nodes (tree_of y) + nodes_all (trees_of o) ≤ most_nodes))) =
        first-met d left (at + k + 1) n
        (node_met y d (at + k + 1) n (laid_others o ++ r) known.0 c.rest (ends-others o r))
        (others-met o (tree_of y) d left (at + k + 1 + length (laid y)) (n + nodes (tree_of y)) r known.1
        (omega (arith, node_least (tree_of y))) (after s (laid y) (laid_others o ++ r) (at + k + 1) c.rest))
        (λ w. w) in
        let behind : at + k + 1 + length (laid y) + length (laid_others o) ≡ at + length (spaces k ++ comma_byte ∷ (laid y ++ laid_others o)) =
        simp (length-append, spaces-length) (omega arith) in
        then-met (more x) (went (node_at named s d) (suc left) x at n (at + k) c.token)
        args (ap₂ (λ a m. done (more x (more (tree_of y) (trees_of o))) a m) behind (omega arith))
        (λ w. ((omega (arith, w.0), omega (arith, w.1)), (omega (arith, w.0), omega (arith, w.1))))
