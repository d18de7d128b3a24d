-- The writer's turns: where a tree's bytes stand, the text of the tree is written, argument by argument. Assumes nothing.
use mathlib.Core.Path.{◌≡◌, refl, sym, ap, ap₂, subst, ◌∙◌}
use mathlib.Core.Bool.{Bool, true, false}
use mathlib.Core.List.{List, ◌∷◌, ◌++◌, append_assoc}
use Prim.Native.Nat.{ℕ, suc, ◌+◌, ◌-◌, ◌≤◌, ◌<◌}
use native.Mathlib.Numerals.{add-one}
use native.Mathlib.Omega.{arith}
use lib.Dec.{eqb}
use lib.ListN.{length, get_or, drop, set, length-append}
use lib.Seq.{sets}
use Rattle.types.specs.declared.operand.Operand.{Operand}
use Rattle.names.specs.Names.{measured_name}
use Rattle.names.specs.Spelling.{spelling_in}
use Rattle.expressions.specs.Tree.{Tree, Trees, leaf, call, none, more, count, tag_of, call_tag, measured_tag, bytes_of, bytes_of_all}
use Rattle.expressions.proofs.Bytes.{leaf_there_lem, call-there, after, bytes-least}
use Rattle.text.specs.declared.writer.Turn.{Turn}
use Rattle.text.specs.Tokens.{space_byte, open_byte, close_byte, comma_byte}
use Rattle.text.specs.Writing.{leaf_text, text_with, inside_with, others_with}
use Rattle.text.specs.private.WriteStep.{type_in, function_in, text_room, NodeThere, RestThere, Turned, NodeWritten, RestWritten}
use Rattle.text.proofs.Stores.{sets_append}

-- so many arguments' bytes stand at the offset, and there is room for their text and the closing bracket
pub record ArgsThere (b names index : List ℕ) (at k m : ℕ) : Type 0 where
  pub trees : Trees
  pub tail : List ℕ
  pub many : count trees ≡ k
  pub text : drop at b ≡ bytes_of_all trees ++ tail
  pub room : m + length (inside_with (type_in names index) (function_in names index) trees) ≤ text_room

unfoldable pub ArgsWritten : List ℕ → List ℕ → List ℕ → ℕ → ℕ → ℕ → List ℕ → List ℕ → Turn → Type 0
ArgsWritten b names index at k m strip strip' r =
    (es : Trees) (tail : List ℕ) → count es ≡ k → drop at b ≡ bytes_of_all es ++ tail
    → Turned (length (bytes_of_all es)) (inside_with (type_in names index) (function_in names index) es) at m strip strip' r

module _ (names index : List ℕ) where
  others-least : (es : Trees) → 1 ≤ length (others_with (type_in names index) (function_in names index) es)
  unfolding text_with
  others-least none = omega arith
  others-least (more e es) = omega arith

  inside-least : (es : Trees) → 1 ≤ length (inside_with (type_in names index) (function_in names index) es)
  unfolding text_with
  inside-least none = omega arith
  inside-least (more e es) =
      let t = text_with (type_in names index) (function_in names index) e in
      let r = others_with (type_in names index) (function_in names index) es in
      omega (arith, length-append t r, others-least es)

-- a byte stored behind bytes, and then more behind it
store_behind : (strip x t : List ℕ) (m named a : ℕ) → named ≡ m + length x
    → sets (set (sets strip m x) named a) (named + 1) t ≡ sets strip m (x ++ a ∷ t)
store_behind strip x t m named a e =
    ap (λ j. sets (set (sets strip m x) named a) j t) (add-one named)
    ∙ ap (λ j. sets (sets strip m x) j (a ∷ t)) e ∙ sym (sets_append strip m x (a ∷ t))

-- ---- a leaf's text, by whether it is measured

module _ (name : List ℕ) (at : ℕ) {measured : Bool} where
  module _ (is : measured ≡ true) (x : List ℕ) (w : x ≡ measured_name) where
    measured-text : leaf_text measured name ≡ x ++ space_byte ∷ name
    measured-text = ap (λ b. leaf_text b name) is ∙ ap (λ y. y ++ space_byte ∷ name) (sym w)

    pub word_room : at + length (leaf_text measured name) ≤ text_room → at + length x + 1 + length name ≤ text_room
    word_room h = omega (arith, ap length measured-text, length-append x (space_byte ∷ name))

    pub word-written : (strip s₁ s₂ : List ℕ) (full r : ℕ) → full ≡ at + length x → s₁ ≡ sets strip at x → r ≡ full + 1 + length name
        → s₂ ≡ sets (set s₁ full space_byte) (full + 1) name
        → (r ≡ at + length (leaf_text measured name)) × (s₂ ≡ sets strip at (leaf_text measured name))
    word-written strip s₁ s₂ full r f u g v = (
      omega (arith, ap length measured-text, length-append x (space_byte ∷ name)),
      v ∙ ap (λ l. sets (set l full space_byte) (full + 1) name) u ∙ store_behind strip x name at full space_byte f
          ∙ ap (sets strip at) (sym measured-text),
    )

  module _ (is : measured ≡ false) where
    name_text : leaf_text measured name ≡ name
    name_text = ap (λ b. leaf_text b name) is

    pub name_alone : at + length (leaf_text measured name) ≤ text_room → at + length name ≤ text_room
    name_alone h = omega (arith, ap length name_text)

    pub name_written : (strip s₁ : List ℕ) (r : ℕ) → r ≡ at + length name → s₁ ≡ sets strip at name
        → (r ≡ at + length (leaf_text measured name)) × (s₁ ≡ sets strip at (leaf_text measured name))
    name_written strip s₁ r g v = (omega (arith, ap length name_text), v ∙ ap (sets strip at) (sym name_text))

-- ---- the tag of a leaf

tag-measured : (measured : Bool) → eqb (tag_of measured) measured_tag ≡ measured
tag-measured false = refl
tag-measured true = refl

tag-leaf : {A : Type 0} (measured : Bool) → tag_of measured ≡ call_tag → A
tag-leaf false e = absurd (omega arith)
tag-leaf true e = absurd (omega arith)

-- ---- a node

module _ (b names index : List ℕ) (at m : ℕ) where
  pub two_bytes : NodeThere b names index at m → at + 1 < length b
  two_bytes n = go n.tree n.text
    where
      go : (e : Tree) → drop at b ≡ bytes_of e ++ n.tail → at + 1 < length b
      go (leaf l) t = (leaf_there_lem b at l n.tail t).here
      go (call f es) t = let here = (call-there b at f es n.tail t).here in omega arith

  module _ (tag : get_or b at 0 ≡ call_tag → ⊥) (x : List ℕ) (e : x ≡ spelling_in names index (get_or b (at + 1) 0)) where
    no_call : {A : Type 0} (f : ℕ) (es : Trees) (tail : List ℕ) → drop at b ≡ bytes_of (call f es) ++ tail → A
    no_call f es tail t = absurd (tag (call-there b at f es tail t).tag)

    -- the leaf's text, by the tag and the name that were found
    abbrev found : List ℕ
    found = leaf_text (eqb (get_or b at 0) measured_tag) x

    spelt-so : (l : Operand) (tail : List ℕ) → drop at b ≡ bytes_of (leaf l) ++ tail
        → found ≡ text_with (type_in names index) (function_in names index) (leaf l)
    unfolding text_with
    spelt-so l tail t =
        let here = leaf_there_lem b at l tail t in
        ap₂ leaf_text (ap (λ k. eqb k measured_tag) here.tag ∙ tag-measured l.measured) (e ∙ ap (spelling_in names index) here.type_is)

    pub leaf_room : NodeThere b names index at m → m + length found ≤ text_room
    leaf_room n = go n.tree n.text n.room
      where
        go : (e : Tree) → drop at b ≡ bytes_of e ++ n.tail → m + length (text_with (type_in names index) (function_in names index) e) ≤ text_room
            → m + length found ≤ text_room
        go (leaf l) t r = subst (λ y. m + length y ≤ text_room) (sym (spelt-so l n.tail t)) r
        go (call f es) t r = no_call f es n.tail t

    pub leaf-written : (strip strip' : List ℕ) (full : ℕ) → full ≡ m + length found → strip' ≡ sets strip m found
        → NodeWritten b names index at m strip strip' (record { at = at + 2; made = full })
    unfolding NodeWritten bytes_of
    leaf-written strip strip' full f w (leaf l) tail t =
        let spelt = spelt-so l tail t in
        record { at-is = refl; made-is = f ∙ ap (λ y. m + length y) spelt; written = w ∙ ap (sets strip m) spelt }
    leaf-written strip strip' full f w (call g es) tail t = no_call g es tail t

  module _ (tag : get_or b at 0 ≡ call_tag) where
    no-leaf : {A : Type 0} (l : Operand) (tail : List ℕ) → drop at b ≡ bytes_of (leaf l) ++ tail → A
    no-leaf l tail t = tag-leaf l.measured (sym (leaf_there_lem b at l tail t).tag ∙ tag)

    pub three_bytes : NodeThere b names index at m → at + 2 < length b
    three_bytes n = go n.tree n.text
      where
        go : (e : Tree) → drop at b ≡ bytes_of e ++ n.tail → at + 2 < length b
        go (leaf l) t = no-leaf l n.tail t
        go (call f es) t = (call-there b at f es n.tail t).here

    module _ (x : List ℕ) (e : x ≡ function_in names index (get_or b (at + 1) 0)) where
      -- the name and a pair of brackets have room
      pub name_room : NodeThere b names index at m → m + length x + 2 ≤ text_room
      unfolding text_with
      name_room n = go n.tree n.text n.room
        where
          go : (e : Tree) → drop at b ≡ bytes_of e ++ n.tail
              → m + length (text_with (type_in names index) (function_in names index) e) ≤ text_room → m + length x + 2 ≤ text_room
          go (leaf l) t r = no-leaf l n.tail t
          go (call f es) t r =
              let name = function_in names index f in
              let inside = inside_with (type_in names index) (function_in names index) es in
              let long : length x ≡ length name = ap length (e ∙ ap (function_in names index) (call-there b at f es n.tail t).function) in
              omega (arith, length-append name (open_byte ∷ inside), inside-least names index es)

      module _ (named : ℕ) (f : named ≡ m + length x) where
        pub args-there : NodeThere b names index at m → ArgsThere b names index (at + 3) (get_or b (at + 2) 0) (named + 1)
        unfolding text_with
        args-there n = go n.tree n.text n.room
          where
            go : (e : Tree) → drop at b ≡ bytes_of e ++ n.tail
                → m + length (text_with (type_in names index) (function_in names index) e) ≤ text_room
                → ArgsThere b names index (at + 3) (get_or b (at + 2) 0) (named + 1)
            go (leaf l) t r = no-leaf l n.tail t
            go (call g es) t r =
                let name = function_in names index g in
                let inside = inside_with (type_in names index) (function_in names index) es in
                let here = call-there b at g es n.tail t in
                let long : length x ≡ length name = ap length (e ∙ ap (function_in names index) here.function) in
                record {
                  trees = es;
                  tail = n.tail;
                  many = sym here.number;
                  text = here.arguments;
                  room = omega (arith, length-append name (open_byte ∷ inside));
                }

        pub call-written : (strip s₁ s₂ : List ℕ) (r : Turn) → s₁ ≡ set (sets strip m x) named open_byte
            → ArgsWritten b names index (at + 3) (get_or b (at + 2) 0) (named + 1) s₁ s₂ r → NodeWritten b names index at m strip s₂ r
        unfolding NodeWritten ArgsWritten text_with bytes_of
        call-written strip s₁ s₂ r o rest (leaf l) tail t = no-leaf l tail t
        call-written strip s₁ s₂ r o rest (call g es) tail t =
            let name = function_in names index g in
            let inside = inside_with (type_in names index) (function_in names index) es in
            let here = call-there b at g es tail t in
            let spelt : x ≡ name = e ∙ ap (function_in names index) here.function in
            let went = rest es tail (sym here.number) here.arguments in
            record {
              at-is = omega (arith, went.at-is);
              made-is = omega (arith, went.made-is, ap length spelt, length-append name (open_byte ∷ inside));
              written =
                  went.written ∙ ap (λ l. sets l (named + 1) inside) o ∙ store_behind strip x inside m named open_byte f
                  ∙ ap (λ y. sets strip m (y ++ open_byte ∷ inside)) spelt;
            }

-- ---- arguments

module _ (b names index : List ℕ) (at k m : ℕ) where
  pub args_none : (s s' : List ℕ) (r : Turn) → k ≡ 0 → s' ≡ set s m close_byte → r.at ≡ at → r.made ≡ m + 1
      → ArgsWritten b names index at k m s s' r
  unfolding ArgsWritten text_with bytes_of count
  args_none s s' r e w p q none tail n t = record { at-is = omega arith; made-is = q; written = w }
  args_none s s' r e w p q (more x es) tail n t = absurd (omega arith)

  module _ (some : k ≡ 0 → ⊥) where
    pub first-there : ArgsThere b names index at k m → NodeThere b names index at m
    unfolding text_with bytes_of count
    first-there n = go n.trees n.many n.text n.room
      where
        go : (es : Trees) → count es ≡ k → drop at b ≡ bytes_of_all es ++ n.tail
            → m + length (inside_with (type_in names index) (function_in names index) es) ≤ text_room → NodeThere b names index at m
        go none c t r = absurd (some (sym c))
        go (more e es) c t r =
            let text = text_with (type_in names index) (function_in names index) e in
            record {
              tree = e;
              tail = bytes_of_all es ++ n.tail;
              text = t ∙ append_assoc (bytes_of e) (bytes_of_all es) n.tail;
              room = omega (arith, length-append text (others_with (type_in names index) (function_in names index) es));
            }

    module _ (s s₁ : List ℕ) (one : Turn) (w : NodeWritten b names index at m s s₁ one) where
      pub others-there : ArgsThere b names index at k m → RestThere b names index one.at (k - 1) one.made × (at < one.at)
      unfolding NodeWritten text_with bytes_of count
      others-there n = go n.trees n.many n.text n.room
        where
          go : (es : Trees) → count es ≡ k → drop at b ≡ bytes_of_all es ++ n.tail
              → m + length (inside_with (type_in names index) (function_in names index) es) ≤ text_room
              → RestThere b names index one.at (k - 1) one.made × (at < one.at)
          go none c t r = absurd (some (sym c))
          go (more e es) c t r =
              let text = text_with (type_in names index) (function_in names index) e in
              let t' = t ∙ append_assoc (bytes_of e) (bytes_of_all es) n.tail in
              let went = w e (bytes_of_all es ++ n.tail) t' in (
                record {
                  trees = es;
                  tail = n.tail;
                  many = omega arith;
                  text = ap (λ j. drop j b) went.at-is ∙ after b (bytes_of e) (bytes_of_all es ++ n.tail) at t';
                  room = omega (arith, went.made-is, length-append text (others_with (type_in names index) (function_in names index) es));
                },
                omega (arith, went.at-is, bytes-least e),
              )

      pub args-written : (s₂ : List ℕ) (r : Turn) → RestWritten b names index one.at (k - 1) one.made s₁ s₂ r
          → ArgsWritten b names index at k m s s₂ r
      unfolding NodeWritten RestWritten ArgsWritten text_with bytes_of count
      args-written s₂ r rest none tail c t = absurd (some (sym c))
      args-written s₂ r rest (more e es) tail c t =
          let text = text_with (type_in names index) (function_in names index) e in
          let others = others_with (type_in names index) (function_in names index) es in
          let t' = t ∙ append_assoc (bytes_of e) (bytes_of_all es) tail in
          let went = w e (bytes_of_all es ++ tail) t' in
          let on = rest es tail (omega arith) (ap (λ j. drop j b) went.at-is ∙ after b (bytes_of e) (bytes_of_all es ++ tail) at t') in
          record {
            at-is = omega (arith, went.at-is, on.at-is, length-append (bytes_of e) (bytes_of_all es));
            made-is = omega (arith, went.made-is, on.made-is, length-append text others);
            written =
                on.written ∙ ap₂ (λ l j. sets l j others) went.written went.made-is ∙ sym (sets_append s m text others);
          }

-- ---- behind an argument

module _ (b names index : List ℕ) (at left m : ℕ) where
  pub close_room : RestThere b names index at left m → m + 1 ≤ text_room
  close_room n = omega (arith, n.room, others-least names index n.trees)

  pub rest-none : (s s' : List ℕ) → left ≡ 0 → s' ≡ set s m close_byte
      → RestWritten b names index at left m s s' (record { at = at; made = m + 1 })
  unfolding RestWritten text_with bytes_of count
  rest-none s s' e w none tail n t = record { at-is = omega arith; made-is = refl; written = w }
  rest-none s s' e w (more x es) tail n t = absurd (omega arith)

  module _ (some : left ≡ 0 → ⊥) where
    pub behind_comma : RestThere b names index at left m → ArgsThere b names index at left (m + 2)
    unfolding text_with bytes_of count
    behind_comma n = go n.trees n.many n.text n.room
      where
        go : (es : Trees) → count es ≡ left → drop at b ≡ bytes_of_all es ++ n.tail
            → m + length (others_with (type_in names index) (function_in names index) es) ≤ text_room → ArgsThere b names index at left (m + 2)
        go none c t r = absurd (some (sym c))
        go (more e es) c t r = record { trees = more e es; tail = n.tail; many = c; text = t; room = omega arith }

    pub comma_room : RestThere b names index at left m → m + 2 ≤ text_room
    comma_room n = let there = behind_comma n in omega (arith, there.room)

    pub rest-written : (s s₁ s₂ : List ℕ) (r : Turn) → s₁ ≡ set (set s m comma_byte) (m + 1) space_byte
        → ArgsWritten b names index at left (m + 2) s₁ s₂ r → RestWritten b names index at left m s s₂ r
    unfolding RestWritten ArgsWritten text_with bytes_of count
    rest-written s s₁ s₂ r w rest none tail c t = absurd (some (sym c))
    rest-written s s₁ s₂ r w rest (more e es) tail c t =
        let inside = inside_with (type_in names index) (function_in names index) (more e es) in
        let went = rest (more e es) tail c t in
        let two : m + 2 ≡ suc (suc m) = omega arith in
        record {
          at-is = went.at-is;
          made-is = omega (arith, went.made-is);
          written =
              went.written ∙ ap (λ l. sets l (m + 2) inside) w
              ∙ ap₂ (λ i j. sets (set (set s m comma_byte) i space_byte) j inside) (add-one m) two;
        }
