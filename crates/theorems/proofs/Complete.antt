-- Where the bytes of a tree within the limits stand, the first pass reads that tree, whatever follows them; or a measured leaf of it is
-- abstract, and the first such leaf is refused. Assumes nothing.
use mathlib.Core.Path.{◌≡◌, refl, sym, ap, ap₂, ◌∙◌}
use mathlib.Core.Bool.{Bool, true, false, not}
use mathlib.Core.List.{List, ◌++◌, append_assoc}
use Prim.Native.Nat.{ℕ, zero, suc, ◌+◌, ◌≤◌, ◌<◌}
use native.Mathlib.Omega.{arith}
use borrow.Author.Tests.{le-leb, lt-ltb}
use lib.ListN.{length, get_or, drop, length-append}
use Rattle.types.specs.Operand.{measured_abstract}
use Rattle.types.specs.declared.operand.Operand.{Operand}
use Rattle.expressions.specs.Tree.{Tree, Trees, leaf, call, none, more, count, bytes_of, bytes_of_all, nodes, nodes_all, most_nodes, last_leaf, tag_of}
use Rattle.expressions.specs.Limits.{levels, levels_all, Measurable, MeasurableAll}
use Rattle.expressions.specs.Known.{Known, KnownAll}
use Rattle.expressions.specs.Reading.{Reading, done, refused, demand, and_then, args_at, leaf_at, call_at, tagged_at, node_at}
use Rattle.expressions.proofs.Bytes.{after, LeafThere, leaf_there_lem, call-there}
use Rattle.expressions.proofs.Sound.{followed}
use Rattle.theorems.specs.FirstPass.{AbstractAt, AbstractAmong, abstract_leaf, abstract_inside, abstract_first, abstract_later}

-- a reading of a tree, or of trees, that is `here` where all can be measured, and otherwise refused where one cannot
pub data Passes {A : Type 0} (x here : Reading A) (All : Type 0) (First : ℕ → Type 0) : Type 0 where
  passed : All → x ≡ here → Passes x here All First
  stopped : (p : ℕ) → First p → x ≡ refused 17 p → Passes x here All First

module _ (functions : ℕ) (s : List ℕ) where
  abbrev NodePasses : Tree → ℕ → ℕ → ℕ → Type 0
  NodePasses e d at n =
      Passes (node_at functions s d at n) (done e (at + length (bytes_of e)) (n + nodes e)) (Measurable e) (AbstractAt e at)

  abbrev ArgsPass : Trees → ℕ → ℕ → ℕ → Type 0
  ArgsPass es d at n =
      Passes (args_at (node_at functions s d) (count es) at n) (done es (at + length (bytes_of_all es)) (n + nodes_all es)) (MeasurableAll es)
      (AbstractAmong es at)

  -- what the first pass does with a leaf that is known
  abbrev leaf_done : Operand → ℕ → ℕ → Reading Tree
  leaf_done l at n = demand (not (measured_abstract l)) 17 (at + 1) (done (leaf l) (at + 2) (n + 1))

  leaf-begun : (l : Operand) (d at n : ℕ) (rest : List ℕ) → l.code ≤ last_leaf → n < most_nodes → drop at s ≡ bytes_of (leaf l) ++ rest
      → node_at functions s (suc d) at n ≡ leaf_done l at n
  unfolding leaf_at tagged_at node_at
  leaf-begun l d at n rest known few text = go (leaf_there_lem s at l rest text) l.measured (leaf_there_lem s at l rest text).tag
    where
      go : LeafThere s at l → (m : Bool) → get_or s at 0 ≡ tag_of m
          → node_at functions s (suc d) at n ≡ leaf_done (record { code = l.code; measured = m }) at n
      go x true tag =
          let tag-here = lt-ltb at (length s) (omega (arith, x.here)) in
          let type-here = lt-ltb (at + 1) (length s) x.here in
          simp (tag-here, lt-ltb n most_nodes few, tag, type-here, x.type_is, le-leb l.code last_leaf known)
      go x false tag =
          let tag-here = lt-ltb at (length s) (omega (arith, x.here)) in
          let type-here = lt-ltb (at + 1) (length s) x.here in
          simp (tag-here, lt-ltb n most_nodes few, tag, type-here, x.type_is, le-leb l.code last_leaf known)

  leaf-passes : (l : Operand) (d at n : ℕ) → node_at functions s (suc d) at n ≡ leaf_done l at n → NodePasses (leaf l) (suc d) at n
  unfolding bytes_of nodes Measurable
  leaf-passes l d at n begun = go (measured_abstract l) refl
    where
      go : (b : Bool) → measured_abstract l ≡ b → NodePasses (leaf l) (suc d) at n
      go true h = stopped (at + 1) (abstract_leaf h refl) (begun ∙ ap (λ b. demand (not b) 17 (at + 1) (done (leaf l) (at + 2) (n + 1))) h)
      go false h = passed h (begun ∙ ap (λ b. demand (not b) 17 (at + 1) (done (leaf l) (at + 2) (n + 1))) h)

  -- a call, once its arguments have passed or not
  call_passes : (f : ℕ) (es : Trees) (d at n : ℕ)
      → node_at functions s (suc d) at n ≡ and_then (args_at (node_at functions s d) (count es) (at + 3) (n + 1)) (λ es'. done (call f es'))
      → ArgsPass es d (at + 3) (n + 1) → NodePasses (call f es) (suc d) at n
  unfolding bytes_of nodes Measurable
  call_passes f es d at n begun (passed all is) =
      passed all (begun ∙ ap (λ r. and_then r (λ es'. done (call f es'))) is ∙ ap₂ (done (call f es)) (omega arith) (omega arith))
  call_passes f es d at n begun (stopped p h is) = stopped p (abstract_inside h) (begun ∙ ap (λ r. and_then r (λ es'. done (call f es'))) is)

  -- an argument and those behind it
  more_pass : (e : Tree) (es : Trees) (d at n : ℕ) → NodePasses e d at n → ArgsPass es d (at + length (bytes_of e)) (n + nodes e)
      → ArgsPass (more e es) d at n
  unfolding args_at count bytes_of nodes Measurable
  more_pass e es d at n (stopped p h is) others =
      stopped p (abstract_first h) (ap (λ r. followed r (args_at (node_at functions s d) (count es))) is)
  more_pass e es d at n (passed one is) (stopped p h others) =
      stopped p (abstract_later one h)
      (ap (λ r. followed r (args_at (node_at functions s d) (count es))) is ∙ ap (λ r. and_then r (λ es'. done (more e es'))) others)
  more_pass e es d at n (passed one is) (passed all others) =
      passed (one, all)
      (ap (λ r. followed r (args_at (node_at functions s d) (count es))) is
      ∙ ap (λ r. and_then r (λ es'. done (more e es'))) others
      ∙ ap₂ (done (more e es)) (omega (arith, length-append (bytes_of e) (bytes_of_all es))) (omega arith))

  mutual
    unfolding args_at call_at tagged_at node_at count bytes_of nodes levels Known Measurable

    pub node_passes : (e : Tree) (d at n : ℕ) (rest : List ℕ) → Known functions e → levels e ≤ d → n + nodes e ≤ most_nodes
        → drop at s ≡ bytes_of e ++ rest → NodePasses e d at n
    node_passes (leaf l) zero at n rest known low few text = absurd (omega arith)
    node_passes (leaf l) (suc d) at n rest known low few text = leaf-passes l d at n (leaf-begun l d at n rest known (omega arith) text)
    node_passes (call f es) zero at n rest known low few text = absurd (omega arith)
    node_passes (call f es) (suc d) at n rest known low few text =
        let x = call-there s at f es rest text in
        let tag-here = lt-ltb at (length s) (omega arith) in
        let allowed = lt-ltb n most_nodes (omega arith) in
        let function-here = lt-ltb (at + 1) (length s) (omega arith) in
        let number-here = lt-ltb (at + 2) (length s) x.here in
        call_passes f es d at n
        (simp (tag-here, allowed, x.tag, function-here, x.function, lt-ltb f functions known.0, number-here, x.number))
        (args_pass es d (at + 3) (n + 1) rest known.1 (omega arith) (omega arith) x.arguments)

    args_pass : (es : Trees) (d at n : ℕ) (rest : List ℕ) → KnownAll functions es → levels_all es ≤ d
        → n + nodes_all es ≤ most_nodes → drop at s ≡ bytes_of_all es ++ rest → ArgsPass es d at n
    args_pass none d at n rest known low few text = passed tt (ap₂ (done none) (omega arith) (omega arith))
    args_pass (more e es) d at n rest known low few text =
        let split : drop at s ≡ bytes_of e ++ (bytes_of_all es ++ rest) = text ∙ append_assoc (bytes_of e) (bytes_of_all es) rest in
        let next : drop (at + length (bytes_of e)) s ≡ bytes_of_all es ++ rest = after s (bytes_of e) (bytes_of_all es ++ rest) at split in
        more_pass e es d at n (node_passes e d at n (bytes_of_all es ++ rest) known.0 (omega arith) (omega arith) split)
        (args_pass es d (at + length (bytes_of e)) (n + nodes e) rest known.1 (omega arith) (omega arith) next)

-- the first measured leaf that is abstract is one
mutual
  unfolding Measurable

  pub not-measurable : {e : Tree} {at p : ℕ} → AbstractAt e at p → Measurable e → ⊥
  not-measurable (abstract_leaf h q) m = let z : true ≡ false = sym h ∙ m in let k : ◌≡◌ {A = ℕ} 0 1 = cc in omega arith
  not-measurable (abstract_inside h) m = none-measurable h m

  none-measurable : {es : Trees} {at p : ℕ} → AbstractAmong es at p → MeasurableAll es → ⊥
  none-measurable (abstract_first h) m = not-measurable h m.0
  none-measurable (abstract_later one h) m = none-measurable h m.1
