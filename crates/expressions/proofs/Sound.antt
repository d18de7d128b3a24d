-- Whatever the first pass reads is there: the bytes from a node's offset to the offset behind it are those of the tree that is
-- handed back, every code in it is known, no measured leaf is abstract, and it keeps to the limit on nodes.
-- Assumes nothing.
use mathlib.Core.Path.{◌≡◌, refl, sym, ap, ap₂, subst, ◌∙◌}
use mathlib.Core.Bool.{Bool, true, false, not}
use mathlib.Core.List.{List, ◌∷◌, ◌++◌, append_assoc, append-nil}
use Prim.Native.Nat.{ℕ, zero, suc, ◌+◌, ◌≤◌, ◌<◌}
use native.Mathlib.Omega.{arith}
use Rattle.types.specs.Operand.{measured_abstract}
use borrow.Author.Tests.{not-true, leb-true, ltb-true, ltb-false, eqb-true}
use lib.Dec.{eqb, leb, ltb}
use lib.ListN.{length, drop, length-append, drop_of_length-le}
use Rattle.scalars.specs.Mask.{choose}
use Rattle.expressions.specs.Tree.{Tree, Trees, call, more, count, bytes_of, bytes_of_all, nodes, nodes_all, most_nodes, deepest, last_leaf, leaf_tag, call_tag, measured_tag, tag_of}
use Rattle.expressions.specs.Known.{Known, KnownAll}
use Rattle.expressions.specs.Limits.{Measurable, MeasurableAll}
use Rattle.expressions.specs.Reading.{Reading, done, refused, Expression, read, refused_as, demand, and_then, args_at, present, byte_at, leaf_at, call_at, tagged_at, node_at, whole, expression_of}
use Rattle.expressions.proofs.Bytes.{head_at}

-- one argument, then those behind it
abbrev pub followed : Reading Tree → (ℕ → ℕ → Reading Trees) → Reading Trees
followed one others = and_then one (λ e next m. and_then (others next m) (λ es. done (more e es)))

-- the bytes of the tree e reach from `at` to `next`, and its nodes bring the number from n to m
pub record Found (functions : ℕ) (s : List ℕ) (d at n : ℕ) (e : Tree) (next m : ℕ) : Type 0 where
  pub text : drop at s ≡ bytes_of e ++ drop next s
  pub ends : next ≡ at + length (bytes_of e)
  pub inside : next ≤ length s
  pub known : Known functions e
  pub measurable : Measurable e
  pub counted : m ≡ n + nodes e
  pub few : m ≤ most_nodes

-- the same of so many trees, one after the other
pub record FoundAll (functions : ℕ) (s : List ℕ) (d left at n : ℕ) (es : Trees) (next m : ℕ) : Type 0 where
  pub many : count es ≡ left
  pub text : drop at s ≡ bytes_of_all es ++ drop next s
  pub ends : next ≡ at + length (bytes_of_all es)
  pub inside : next ≤ length s
  pub known : KnownAll functions es
  pub measurable : MeasurableAll es
  pub counted : m ≡ n + nodes_all es
  pub few : m ≤ most_nodes

-- what a reading hands back is there; a refusal claims nothing
abbrev pub Sound : ℕ → List ℕ → ℕ → ℕ → ℕ → Reading Tree → Type 0
Sound functions s d at n (done e next m) = Found functions s d at n e next m
Sound functions s d at n (refused number place) = Unit

abbrev pub SoundAll : ℕ → List ℕ → ℕ → ℕ → ℕ → ℕ → Reading Trees → Type 0
SoundAll functions s d left at n (done es next m) = FoundAll functions s d left at n es next m
SoundAll functions s d left at n (refused number place) = Unit

module _ (functions : ℕ) (s : List ℕ) (d at n : ℕ) where
  -- what holds of either side of a choice, under its test, holds of the choice
  either_way : (test : Bool) (x y : Reading Tree) → (test ≡ true → Sound functions s d at n x) → (test ≡ false → Sound functions s d at n y)
      → Sound functions s d at n (choose test x y)
  either_way true x y p q = p refl
  either_way false x y p q = q refl

  demanded : (test : Bool) (number place : ℕ) (rest : Reading Tree) → (test ≡ true → Sound functions s d at n rest)
      → Sound functions s d at n (demand test number place rest)
  demanded test number place rest p = either_way test rest (refused number place) p (λ _. tt)

module _ (functions : ℕ) (s : List ℕ) (d : ℕ) where
  -- a way of reading nodes of at most d levels, and one of reading so many of them
  abbrev Nodes : (ℕ → ℕ → Reading Tree) → Type 0
  Nodes node = (at n : ℕ) → Sound functions s d at n (node at n)

  abbrev Others : ℕ → (ℕ → ℕ → Reading Trees) → Type 0
  Others left others = (at n : ℕ) → at ≤ length s → n ≤ most_nodes → SoundAll functions s d left at n (others at n)

  in_front-sound : (left at n : ℕ) (e : Tree) (next m : ℕ) (others : Reading Trees) → Found functions s d at n e next m
      → SoundAll functions s d left next m others → SoundAll functions s d (suc left) at n (and_then others (λ es. done (more e es)))
  unfolding count bytes_of nodes Known Measurable
  in_front-sound left at n e next m (refused number place) one rest = tt
  in_front-sound left at n e next m (done es end k) one rest = record {
    many = ap suc rest.many;
    text = one.text ∙ ap (λ l. bytes_of e ++ l) rest.text ∙ sym (append_assoc (bytes_of e) (bytes_of_all es) (drop end s));
    ends = omega (arith, length-append (bytes_of e) (bytes_of_all es));
    inside = rest.inside;
    known = (one.known, rest.known);
    measurable = (one.measurable, rest.measurable);
    counted = omega arith;
    few = rest.few;
  }

  then-sound : (left at n : ℕ) (one : Reading Tree) (others : ℕ → ℕ → Reading Trees) → Sound functions s d at n one → Others left others
      → SoundAll functions s d (suc left) at n (followed one others)
  then-sound left at n (refused number place) others k rest = tt
  then-sound left at n (done e next m) others k rest =
      in_front-sound left at n e next m (others next m) k (rest next m k.inside k.few)

  args-sound : (node : ℕ → ℕ → Reading Tree) → Nodes node → (left : ℕ) → Others left (args_at node left)
  unfolding args_at count bytes_of nodes Known Measurable
  args-sound node k zero at n here few = record {
    many = refl;
    text = refl;
    ends = omega arith;
    inside = here;
    known = tt;
    measurable = tt;
    counted = omega arith;
    few = few;
  }
  args-sound node k (suc left) at n here few = then-sound left at n (node at n) (args_at node left) (k at n) (args-sound node k left)

  module _ (at n : ℕ) (here : at < length s) (few : n < most_nodes) where
    leaf-sound : (measured : Bool) → byte_at s at ≡ tag_of measured → Sound functions s (suc d) at n (leaf_at measured s at n)
    unfolding leaf_at bytes_of nodes Known Measurable
    leaf-sound measured tag =
        demanded functions s (suc d) at n (present s (at + 1)) _ _ _ λ p.
        demanded functions s (suc d) at n (leb (byte_at s (at + 1)) last_leaf) _ _ _ λ k.
        demanded functions s (suc d) at n (not (measured_abstract (record { code = byte_at s (at + 1); measured = measured }))) _ _ _ λ m.
        let h : at + 1 < length s = ltb-true _ _ p in
        record {
          text = head_at s at (at + 1) here refl ∙ ap₂ ◌∷◌ tag (head_at s (at + 1) (at + 2) h (omega arith));
          ends = omega arith;
          inside = omega arith;
          known = leb-true _ _ k;
          measurable = not-true _ m;
          counted = omega arith;
          few = omega arith;
        }

    call_of-sound : byte_at s at ≡ call_tag → byte_at s (at + 1) < functions → at + 2 < length s → (args : Reading Trees)
        → SoundAll functions s d (byte_at s (at + 2)) (at + 3) (n + 1) args
        → Sound functions s (suc d) at n (and_then args (λ es. done (call (byte_at s (at + 1)) es)))
    unfolding bytes_of nodes Known Measurable
    call_of-sound tag known h (refused number place) args = tt
    call_of-sound tag known h (done es next m) args =
        let number = head_at s (at + 2) (at + 3) h (omega arith) ∙ ap₂ ◌∷◌ (sym args.many) args.text in
        let function = head_at s (at + 1) (at + 2) (omega arith) (omega arith) ∙ ap (λ l. byte_at s (at + 1) ∷ l) number in
        record {
          text = head_at s at (at + 1) here refl ∙ ap₂ ◌∷◌ tag function;
          ends = omega arith;
          inside = args.inside;
          known = (known, args.known);
          measurable = args.measurable;
          counted = omega arith;
          few = args.few;
        }

    call-sound : (node : ℕ → ℕ → Reading Tree) → Nodes node → byte_at s at ≡ call_tag
        → Sound functions s (suc d) at n (call_at functions s node at n)
    unfolding call_at
    call-sound node k tag =
        demanded functions s (suc d) at n (present s (at + 1)) _ _ _ λ _.
        demanded functions s (suc d) at n (ltb (byte_at s (at + 1)) functions) _ _ _ λ f.
        demanded functions s (suc d) at n (present s (at + 2)) _ _ _ λ p.
        let h : at + 2 < length s = ltb-true _ _ p in
        call_of-sound tag (ltb-true _ _ f) h (args_at node (byte_at s (at + 2)) (at + 3) (n + 1))
        (args-sound node k (byte_at s (at + 2)) (at + 3) (n + 1) (omega arith) (omega arith))

    tagged_sound : (node : ℕ → ℕ → Reading Tree) → Nodes node → Sound functions s (suc d) at n (tagged_at functions s node at n)
    unfolding tagged_at
    tagged_sound node k =
        either_way functions s (suc d) at n (eqb (byte_at s at) leaf_tag) _ _
        (λ t. leaf-sound false (eqb-true _ _ t))
        (λ _. either_way functions s (suc d) at n (eqb (byte_at s at) call_tag) _ _
        (λ t. call-sound node k (eqb-true _ _ t))
        (λ _. either_way functions s (suc d) at n (eqb (byte_at s at) measured_tag) _ _
        (λ t. leaf-sound true (eqb-true _ _ t))
        (λ _. tt)))

module _ (functions : ℕ) (s : List ℕ) where
  pub node_sound : (d at n : ℕ) → Sound functions s d at n (node_at functions s d at n)
  unfolding node_at
  node_sound zero at n = demanded functions s zero at n (present s at) _ _ _ (λ _. tt)
  node_sound (suc d) at n =
      demanded functions s (suc d) at n (present s at) _ _ _ λ p.
      demanded functions s (suc d) at n (ltb n most_nodes) _ _ _ λ f.
      tagged_sound functions s d at n (ltb-true _ _ p) (ltb-true _ _ f) (node_at functions s d) (node_sound d)

-- ---- the whole

-- an expression that is accepted: its bytes are all that there is
pub record Spelt (functions : ℕ) (s : List ℕ) (e : Tree) : Type 0 where
  pub text : s ≡ bytes_of e
  pub known : Known functions e
  pub measurable : Measurable e
  pub few : nodes e ≤ most_nodes

module _ (functions : ℕ) (s : List ℕ) where
  abbrev Right : Expression → Type 0
  Right (read e) = Spelt functions s e
  Right (refused_as number place) = Unit

  nothing_left : (e : Tree) (at n : ℕ) → Found functions s deepest 0 0 e at n → (left : Bool) → present s at ≡ left
      → Right (choose left (refused_as 8 at) (read e))
  nothing_left e at n k true p = tt
  nothing_left e at n k false p = record {
    text = k.text ∙ ap (λ l. bytes_of e ++ l) (drop_of_length-le s (ltb-false _ _ p)) ∙ append-nil (bytes_of e);
    known = k.known;
    measurable = k.measurable;
    few = omega (arith, k.counted, k.few);
  }

  whole-right : (r : Reading Tree) → Sound functions s deepest 0 0 r → Right (whole s r)
  whole-right (refused number place) k = tt
  whole-right (done e at n) k = nothing_left e at n k (present s at) refl

  pub read-spelt : (e : Tree) → expression_of functions s ≡ read e → Spelt functions s e
  unfolding expression_of
  read-spelt e h = subst Right h (whole-right (node_at functions s deepest 0 0) (node_sound functions s deepest 0 0))
