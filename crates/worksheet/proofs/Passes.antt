-- The second pass, by what stands at an offset: one law for each way through `type_node` and `type_arguments`, so that the functions'
-- proofs only cite it.
-- Rests on the database only by the laws of `functions/proofs/Database.antt`. Assumes nothing.
use mathlib.Core.Path.{◌≡◌, refl, sym, ap, ap₂, subst, ◌∙◌}
use mathlib.Core.Bool.{Bool, true, false}
use mathlib.Core.List.{List, [], ◌∷◌, ◌++◌, append_assoc}
use Prim.Native.Nat.{ℕ, ◌+◌, ◌-◌, ◌*◌, ◌≤◌, ◌<◌}
use native.Mathlib.Omega.{arith}
use lib.Dec.{eqb}
use lib.ListN.{length, get_or, drop, length-append}
use Rattle.types.specs.Operand.{mark_of, codes}
use Rattle.types.specs.declared.operand.Operand.{Operand}
use Rattle.calls.specs.Choice.{Choice, chosen, wrong_count, none_after, none_concrete, resolve_of}
use Rattle.functions.specs.Functions.{listing_of}
use Rattle.scalars.specs.declared.refusal.Refusal.{Refusal}
use Rattle.scalars.specs.Paper.{refusal}
use Rattle.worksheet.specs.declared.sheet.Sheet.{Sheet}
use Rattle.worksheet.specs.declared.stack.Stack.{Stack}
use Rattle.std.specs.declared.result.Result.{Result}
use Rattle.std.proofs.Common.{Ok, Err}
use Rattle.expressions.specs.Tree.{Tree, Trees, leaf, call, none, more, count, call_tag, measured_tag, tag_of, bytes_of, bytes_of_all, nodes, nodes_all}
use Rattle.machine.specs.Line.{Line, leaf_kind, call_lines, encode}
use Rattle.machine.specs.Machine.{most_operands}
use Rattle.worksheet.specs.private.Sheet.{enough_bytes, Wrote}
use Rattle.worksheet.specs.Places.{inside, behind, starts}
use Rattle.worksheet.specs.Typer.{Typed, typed, refused, conclude, type_of, type_all}
use Rattle.worksheet.specs.private.Stack.{types_on, marks_on, starts_on, Pushed}
use Rattle.worksheet.specs.private.SecondPass.{pass_paper, Went, CallThere, CallClaim, CallTyped, NodeThere, NodeClaim, NodeTyped, ArgsThere, ArgsClaim, ArgsTyped}
use Rattle.expressions.proofs.Answers.{accepted-refused}
use Rattle.expressions.proofs.Bytes.{after, leaf_there_lem, call-there, bytes-least}
use Rattle.machine.proofs.LineBytes.{encode_append}
use Rattle.worksheet.proofs.Typings.{before, conclude_call, Sized, sized, SizedAll, sized-all, starts-many, nodes-least, count-nodes}
use Rattle.worksheet.proofs.Room.{four-each}
use Rattle.worksheet.proofs.Written.{wrote_nothing, wrote-both, wrote_as}
use Rattle.worksheet.proofs.Pushes.{pushed-nothing, pushed-both, types-full, marks-full, starts-full}

-- an answer cannot be both
pub clash : {A B : Type 0} {why : Refusal} {x : B} → Err why ≡ Ok x → A
clash e = let z : ◌≡◌ {A = ℕ} 0 1 = cc in absurd (omega arith)

-- two offsets that were answered are one
one_offset : {E : Type 0} {m n : ℕ} → ◌≡◌ {A = Result ℕ E} (Ok m) (Ok n) → m ≡ n
one_offset e = cc

-- a call's refusal is the node's, and behind its arguments stands the offset behind the node
abbrev pub node_answer : ℕ → Result Unit Refusal → Result ℕ Refusal
node_answer past (Ok done) = Ok past
node_answer past (Err why) = Err why

refused-after : (past : ℕ) (a : Result Unit Refusal) {n p : ℕ} → pass_paper a ≡ refusal n p [] → pass_paper (node_answer past a) ≡ refusal n p []
refused-after past (Ok done) e = accepted-refused e
refused-after past (Err why) e = e

-- a leaf's tag tells whether it is measured, and is not a call's
tag_tells : (m : Bool) → eqb (tag_of m) measured_tag ≡ m
tag_tells true = refl
tag_tells false = refl

no_call : (m : Bool) → tag_of m ≡ call_tag → ⊥
no_call true e = omega arith
no_call false e = omega arith

module _ (b : List ℕ) (at : ℕ) (s : Stack) (h : Sheet) where
  pub two_bytes : NodeThere b at s h → at + 1 < length b
  two_bytes n = go n.tree n.text
    where
      go : (e : Tree) → drop at b ≡ bytes_of e ++ n.tail → at + 1 < length b
      go (leaf l) t = (leaf_there_lem b at l n.tail t).here
      go (call f es) t = let k = call-there b at f es n.tail t in omega (arith, k.here)

  pub room : NodeThere b at s h → (s.top < most_operands) × (h.len + 4 ≤ enough_bytes)
  room n = let p = nodes-least n.tree in (omega (arith, n.stack_room), omega (arith, n.sheet-room))

  -- a leaf, whose tag is not a call's
  abbrev pub leaf_there : Operand
  leaf_there = record { code = get_or b (at + 1) 0; measured = eqb (get_or b at 0) measured_tag }

  pub leaf-typed : (switch : Bool) (s' : Stack) (h' : Sheet) → (get_or b at 0 ≡ call_tag → ⊥) → Pushed s (leaf_there ∷ []) (at ∷ []) s'
      → Wrote h (leaf_kind ∷ get_or b (at + 1) 0 ∷ mark_of leaf_there.measured ∷ 0 ∷ []) h' → NodeTyped b at switch s h (Ok (at + 2)) s' h'
  unfolding NodeTyped type_of bytes_of encode
  leaf-typed switch s' h' tag p w (leaf l) tail t =
      let there = leaf_there_lem b at l tail t in
      let is : leaf_there ≡ l =
      ap₂ (λ (c : ℕ) (m : Bool). record { code = c; measured = m }) there.type_is (ap (λ k. eqb k measured_tag) there.tag ∙ tag_tells l.measured) in
      record {
        answer_is = refl;
        pushed = subst (λ (o : Operand). Pushed s (o ∷ []) (at ∷ []) s') is p;
        wrote = subst (λ (o : Operand). Wrote h (leaf_kind ∷ o.code ∷ mark_of o.measured ∷ 0 ∷ []) h') is w;
      }
  leaf-typed switch s' h' tag p w (call f es) tail t = absurd (tag (call-there b at f es tail t).tag)

  module _ (a_call : get_or b at 0 ≡ call_tag) where
    pub three-bytes : NodeThere b at s h → at + 2 < length b
    three-bytes n = go n.tree n.text
      where
        go : (e : Tree) → drop at b ≡ bytes_of e ++ n.tail → at + 2 < length b
        go (leaf l) t = absurd (no_call l.measured (sym (leaf_there_lem b at l n.tail t).tag ∙ a_call))
        go (call f es) t = (call-there b at f es n.tail t).here

    pub args-there : NodeThere b at s h → ArgsThere b (at + 3) (get_or b (at + 2) 0) s h
    unfolding nodes
    args-there n = go n.tree n.text n.stack_room n.sheet-room
      where
        go : (e : Tree) → drop at b ≡ bytes_of e ++ n.tail → s.top + nodes e ≤ most_operands
            → h.len + 8 * nodes e ≤ enough_bytes + 4
            → ArgsThere b (at + 3) (get_or b (at + 2) 0) s h
        go (leaf l) t u v = absurd (no_call l.measured (sym (leaf_there_lem b at l n.tail t).tag ∙ a_call))
        go (call f es) t u v =
            let there = call-there b at f es n.tail t in
            record {
              trees = es;
              tail = n.tail;
              many = sym there.number;
              text = there.arguments;
              stack_room = omega arith;
              sheet-room = omega arith;
            }

    module _ (switch : Bool) (s' : Stack) (h' : Sheet) where
      -- a fault among the arguments
      pub call-wrong : (why : Refusal) → ArgsTyped b (at + 3) (get_or b (at + 2) 0) switch s h (Err why) s' h'
          → NodeTyped b at switch s h (Err why) s' h'
      unfolding NodeTyped ArgsTyped type_of
      call-wrong why inner (leaf l) tail t = absurd (no_call l.measured (sym (leaf_there_lem b at l tail t).tag ∙ a_call))
      call-wrong why inner (call f es) tail t =
          let there = call-there b at f es tail t in
          go (type_all listing_of switch es (inside at)) (inner es tail (sym there.number) there.arguments)
        where
          go : (x : Typed (List Operand)) → ArgsClaim es (inside at) s h (Err why) s' h' x
              → NodeClaim (call f es) at s h (Err why) s' h' (conclude_call listing_of switch f at (starts es (inside at)) x)
          go (refused k p) c = c
          go (typed ts ls) c = clash c.answer_is

      module _ (past : ℕ) (inner : ArgsTyped b (at + 3) (get_or b (at + 2) 0) switch s h (Ok past) s' h') where
        -- the operands are on the stack, with room for the call's lines
        pub call-room : NodeThere b at s h → CallThere (get_or b (at + 2) 0) s' h'
        unfolding ArgsTyped nodes
        call-room n = go n.tree n.text n.stack_room n.sheet-room
          where
            among : (f : ℕ) (es : Trees) → get_or b (at + 2) 0 ≡ count es → s.top + nodes (call f es) ≤ most_operands
                → h.len + 8 * nodes (call f es) ≤ enough_bytes + 4
                → (x : Typed (List Operand)) → ArgsClaim es (inside at) s h (Ok past) s' h' x → SizedAll es x → CallThere (get_or b (at + 2) 0) s' h'
            among f es m u v (refused k p) c z = accepted-refused c
            among f es m u v (typed ts ls) c z =
                let top = c.pushed.top_is in
                let len = c.wrote.len_is in
                let four = four-each ls in
                let few = z.few in
                let many = z.many in
                let nodes-few = count-nodes es in
                record { enough = omega arith; bounded = omega arith; room = omega arith }

            go : (e : Tree) → drop at b ≡ bytes_of e ++ n.tail → s.top + nodes e ≤ most_operands
                → h.len + 8 * nodes e ≤ enough_bytes + 4
                → CallThere (get_or b (at + 2) 0) s' h'
            go (leaf l) t u v = absurd (no_call l.measured (sym (leaf_there_lem b at l n.tail t).tag ∙ a_call))
            go (call f es) t u v =
                let there = call-there b at f es n.tail t in
                among f es there.number u v (type_all listing_of switch es (inside at))
                (inner es n.tail (sym there.number) there.arguments) (sized-all switch es (inside at))

        module _ (a : Result Unit Refusal) (s'' : Stack) (h'' : Sheet) where
          -- what is concluded of the operands
          concluded : (f : ℕ) (es : Trees) (os : List Operand) (ls : List Line)
              → Went (inside at + length (bytes_of_all es)) os (starts es (inside at)) ls s h (Ok past) s' h'
              → (c : Choice) → CallClaim at (types_on s) (marks_on s) (starts_on s) h' a s'' h'' (conclude f at (starts es (inside at)) os [] c)
              → NodeClaim (call f es) at s h (node_answer past a) s'' h'' (conclude f at (starts es (inside at)) os ls c)
          unfolding bytes_of
          concluded f es os ls g (chosen j rule) c = record {
            answer_is = ap (node_answer past) c.answer_is ∙ ap Ok (omega (arith, one_offset g.answer_is));
            pushed = record {
              types_are = c.types_are;
              marks_are = c.marks_are;
              starts_are = c.starts_are;
              top_is = omega (arith, c.top_is, types-full s);
            };
            wrote = wrote_as (sym (encode_append ls (call_lines f j (codes os) rule))) (wrote-both g.wrote c.wrote);
          }
          concluded f es os ls g wrong_count c = refused-after past a c
          concluded f es os ls g (none_after part k) c = refused-after past a c
          concluded f es os ls g none_concrete c = refused-after past a c

          pub call-typed : CallTyped (get_or b (at + 1) 0) (get_or b (at + 2) 0) at switch s' h' a s'' h''
              → NodeTyped b at switch s h (node_answer past a) s'' h''
          unfolding NodeTyped ArgsTyped CallTyped type_of
          call-typed made (leaf l) tail t = absurd (no_call l.measured (sym (leaf_there_lem b at l tail t).tag ∙ a_call))
          call-typed made (call f es) tail t =
              let there = call-there b at f es tail t in
              go there.function there.number (type_all listing_of switch es (inside at))
              (inner es tail (sym there.number) there.arguments) (sized-all switch es (inside at))
            where
              go : get_or b (at + 1) 0 ≡ f → get_or b (at + 2) 0 ≡ count es
                  → (x : Typed (List Operand)) → ArgsClaim es (inside at) s h (Ok past) s' h' x → SizedAll es x
                  → NodeClaim (call f es) at s h (node_answer past a) s'' h'' (conclude_call listing_of switch f at (starts es (inside at)) x)
              go fe ne (refused k p) c z = accepted-refused c
              go fe ne (typed os ls) c z =
                  let top = c.pushed.top_is in
                  let many = z.many in
                  let placed = starts-many es (inside at) in
                  concluded f es os ls c (resolve_of switch (listing_of f) os)
                  (rw fe at made (types_on s) (marks_on s) os (starts_on s) (starts es (inside at)) record {
                    types_are = c.pushed.types_are;
                    marks_are = c.pushed.marks_are;
                    starts_are = c.pushed.starts_are;
                    many = omega arith;
                    placed = omega arith;
                    types-low = omega (arith, types-full s);
                    marks-low = omega (arith, marks-full s);
                    starts-low = omega (arith, starts-full s);
                  })

module _ (b : List ℕ) (at left : ℕ) (switch : Bool) (s : Stack) (h : Sheet) where
  pub args_none : left ≡ 0 → ArgsTyped b at left switch s h (Ok at) s h
  unfolding ArgsTyped type_of bytes_of starts count encode
  args_none e none tail m t = record { answer_is = ap Ok (omega arith); pushed = pushed-nothing s; wrote = wrote_nothing h }
  args_none e (more x es) tail m t = absurd (omega arith)

  module _ (some : left ≡ 0 → ⊥) where
    pub node_there : ArgsThere b at left s h → NodeThere b at s h
    unfolding bytes_of nodes count
    node_there n = go n.trees n.many n.text n.stack_room n.sheet-room
      where
        go : (es : Trees) → count es ≡ left → drop at b ≡ bytes_of_all es ++ n.tail
            → s.top + nodes_all es < most_operands → h.len + 8 * nodes_all es + 4 ≤ enough_bytes → NodeThere b at s h
        go none m t u v = absurd (some (sym m))
        go (more e es) m t u v = record {
          tree = e;
          tail = bytes_of_all es ++ n.tail;
          text = t ∙ append_assoc (bytes_of e) (bytes_of_all es) n.tail;
          stack_room = omega arith;
          sheet-room = omega arith;
        }

    module _ (s' : Stack) (h' : Sheet) where
      -- a fault in the first argument
      pub args-wrong : (why : Refusal) → NodeTyped b at switch s h (Err why) s' h' → ArgsTyped b at left switch s h (Err why) s' h'
      unfolding NodeTyped ArgsTyped type_of bytes_of count
      args-wrong why one none tail m t = absurd (some (sym m))
      args-wrong why one (more e es) tail m t =
          go (type_of listing_of switch e at) (type_all listing_of switch es (behind e at))
          (one e (bytes_of_all es ++ tail) (t ∙ append_assoc (bytes_of e) (bytes_of_all es) tail))
        where
          go : (x : Typed Operand) (y : Typed (List Operand)) → NodeClaim e at s h (Err why) s' h' x
              → ArgsClaim (more e es) at s h (Err why) s' h' (before x y)
          go (refused k p) y c = c
          go (typed u ls) y c = clash c.answer_is

      module _ (next : ℕ) (one : NodeTyped b at switch s h (Ok next) s' h') where
        pub next-there : ArgsThere b at left s h → ArgsThere b next (left - 1) s' h' × (at < next) × (at < length b)
        unfolding NodeTyped bytes_of nodes count
        next-there n = go n.trees n.many n.text n.stack_room n.sheet-room
          where
            behind_it : (e : Tree) (es : Trees) → count (more e es) ≡ left → drop at b ≡ bytes_of e ++ (bytes_of_all es ++ n.tail)
                → s.top + nodes_all (more e es) < most_operands
                → h.len + 8 * nodes_all (more e es) + 4 ≤ enough_bytes
                → (x : Typed Operand) → NodeClaim e at s h (Ok next) s' h' x → Sized e x
                → ArgsThere b next (left - 1) s' h' × (at < next) × (at < length b)
            behind_it e es m t u v (refused j p) c z = accepted-refused c
            behind_it e es m t u v (typed y ls) c z =
                let top = c.pushed.top_is in
                let len = c.wrote.len_is in
                let four = four-each ls in
                let few = z.few in
                let offset = one_offset c.answer_is in
                let least = nodes-least e in
                let long = bytes-least e in
                let here = two_bytes b at s h (node_there n) in (
                  record {
                    trees = es;
                    tail = n.tail;
                    many = omega arith;
                    text = ap (λ j. drop j b) offset ∙ after b (bytes_of e) (bytes_of_all es ++ n.tail) at t;
                    stack_room = omega arith;
                    sheet-room = omega arith;
                  },
                  omega arith,
                  omega arith,
                )

            go : (es : Trees) → count es ≡ left → drop at b ≡ bytes_of_all es ++ n.tail
                → s.top + nodes_all es < most_operands → h.len + 8 * nodes_all es + 4 ≤ enough_bytes
                → ArgsThere b next (left - 1) s' h' × (at < next) × (at < length b)
            go none m t u v = absurd (some (sym m))
            go (more e es) m t u v =
                let t' : drop at b ≡ bytes_of e ++ (bytes_of_all es ++ n.tail) = t ∙ append_assoc (bytes_of e) (bytes_of_all es) n.tail in
                behind_it e es m t' u v (type_of listing_of switch e at) (one e (bytes_of_all es ++ n.tail) t')
                (sized switch e at)

        module _ (a : Result ℕ Refusal) (s'' : Stack) (h'' : Sheet) where
          -- one argument and those behind it
          both-went : (e : Tree) (es : Trees) (t : Operand) (ls : List Line) → Went (behind e at) (t ∷ []) (at ∷ []) ls s h (Ok next) s' h'
              → (y : Typed (List Operand)) → ArgsClaim es (behind e at) s' h' a s'' h'' y → ArgsClaim (more e es) at s h a s'' h'' (before (typed t ls) y)
          unfolding bytes_of starts
          both-went e es t ls g (refused k p) c = c
          both-went e es t ls g (typed ts ls') c = record {
            answer_is = c.answer_is ∙ ap Ok (omega (arith, length-append (bytes_of e) (bytes_of_all es)));
            pushed = pushed-both g.pushed c.pushed;
            wrote = wrote_as (sym (encode_append ls ls')) (wrote-both g.wrote c.wrote);
          }

          pub args-typed : ArgsTyped b next (left - 1) switch s' h' a s'' h'' → ArgsTyped b at left switch s h a s'' h''
          unfolding NodeTyped ArgsTyped type_of bytes_of count
          args-typed rest none tail m t = absurd (some (sym m))
          args-typed rest (more e es) tail m t =
              let t' : drop at b ≡ bytes_of e ++ (bytes_of_all es ++ tail) = t ∙ append_assoc (bytes_of e) (bytes_of_all es) tail in
              go t' (type_of listing_of switch e at) (one e (bytes_of_all es ++ tail) t')
            where
              go : drop at b ≡ bytes_of e ++ (bytes_of_all es ++ tail) → (x : Typed Operand) → NodeClaim e at s h (Ok next) s' h' x
                  → ArgsClaim (more e es) at s h a s'' h'' (before x (type_all listing_of switch es (behind e at)))
              go t' (refused k p) c = accepted-refused c
              go t' (typed u ls) c =
                  let offset = one_offset c.answer_is in
                  both-went e es u ls c (type_all listing_of switch es (behind e at))
                  (subst (λ j. ArgsClaim es j s' h' a s'' h'' (type_all listing_of switch es j)) offset
                  (rest es tail (omega arith) (ap (λ j. drop j b) offset ∙ after b (bytes_of e) (bytes_of_all es ++ tail) at t')))
