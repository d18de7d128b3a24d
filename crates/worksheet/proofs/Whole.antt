-- The whole answer: a fault of the first pass, or what the second pass makes of the tree that the first one accepted.
-- Rests on the database only by the laws of `functions/proofs/Database.antt`. Assumes nothing.
use mathlib.Core.Path.{◌≡◌, refl, sym, ap, ap₂, ◌∙◌}
use mathlib.Core.Bool.{Bool}
use mathlib.Core.List.{List, [], ◌∷◌, ◌++◌, append-nil}
use Prim.Native.Nat.{ℕ, ◌≤◌, ◌<◌}
use native.Mathlib.Omega.{arith}
use native.Mathlib.Decide.{dec_lt}
use borrow.Author.Tests.{lt-ltb, le-ltb, lt-leb, le-leb}
use lib.ListN.{length, get_or, take, drop}
use lib.Seq.{get_or-take}
use Rattle.types.specs.Operand.{mark_of, operand_of}
use Rattle.types.specs.declared.operand.Operand.{Operand}
use Rattle.types.proofs.Operands.{operand-back}
use Rattle.functions.specs.Functions.{function_count, listing_of}
use Rattle.scalars.specs.Paper.{Paper, accepted, refusal, answer_paper, verdict_paper}
use Rattle.scalars.specs.Paper as paper
use Rattle.worksheet.specs.declared.sheet.Sheet.{Sheet}
use Rattle.worksheet.specs.declared.stack.Stack.{Stack}
use Rattle.std.specs.declared.result.Result.{Result}
use Rattle.std.proofs.Common.{Ok, Err}
use Rattle.scalars.specs.declared.refusal.Refusal.{Refusal}
use Rattle.expressions.specs.Tree.{Tree, bytes_of}
use Rattle.expressions.specs.Reading.{read, expression_of, read_of}
use Rattle.machine.specs.Line.{Line, encode}
use Rattle.worksheet.specs.Typer.{Typed, typed, refused, type_of}
use Rattle.worksheet.specs.Answer.{with_room, buffer_after}
use Rattle.worksheet.specs.private.Sheet.{written}
use Rattle.worksheet.specs.Typing.{typing_of, typing, no_type, type_values, answer_of}
use Rattle.worksheet.specs.private.Stack.{types_on, marks_on, operand_at}
use Rattle.worksheet.specs.private.SecondPass.{NodeThere, NodeClaim, NodeTyped}
use Rattle.expressions.proofs.Sound.{Spelt, read-spelt}
use Rattle.expressions.proofs.Answers.{accepted-refused, accepted-tree, refused-fault}
use Rattle.worksheet.proofs.Passes.{clash}
use Rattle.lending.specs.Bytes.{room_for, placed}
use Rattle.lending.proofs.Placed.{placed-short, placed-fits}

-- an answer and a buffer that are those of a typing
abbrev pub Answered : List ℕ → Typed Operand → Paper → List ℕ → Type 0
Answered d x a d' = (a ≡ answer_of x) × (d' ≡ buffer_after x d)

-- the operand's values and the length, where there is room
abbrev room_answer : Operand → ℕ → Paper → Paper
room_answer o n (accepted vs) = accepted (type_values o n)
room_answer o n (refusal number place vs) = refusal number place no_type

abbrev pub answer_by : Operand → ℕ → Result Unit Refusal → Paper
answer_by o n = answer_paper (λ done. type_values o n) no_type

by_room : (o : Operand) (n : ℕ) (room : Result Unit Refusal) → answer_by o n room ≡ room_answer o n (verdict_paper room)
by_room o n (Ok done) = refl
by_room o n (Err why) = refl

-- the room comes last
with_room_lem : (d : List ℕ) (t : Operand) (ls : List Line) (result : Operand) (needed : ℕ) (bs : List ℕ)
    → result ≡ t → bs ≡ encode ls → needed ≡ length (encode ls)
    → Answered d (with_room d (typed t ls)) (room_answer result needed (room_for needed (length d))) (placed bs d)
with_room_lem d t ls result needed bs re be ne = go (dec_lt (length d) (length (encode ls)))
  where
    go : Dec (length d < length (encode ls))
        → Answered d (with_room d (typed t ls)) (room_answer result needed (room_for needed (length d))) (placed bs d)
    go (yes h) =
        rw (re, be, ne, lt-ltb (length d) (length (encode ls)) h, lt-leb (length (encode ls)) (length d) h)
        (refl, placed-short (encode ls) d h)
    go (no h) =
        let k : length (encode ls) ≤ length d = omega arith in
        rw (re, be, ne, le-ltb (length d) (length (encode ls)) k, le-leb (length (encode ls)) (length d) k)
        (refl, placed-fits (encode ls) d (length (encode ls)) refl k)

module _ (switch : Bool) (s d : List ℕ) where
  pub first_fault_lem : (n p : ℕ) → refusal n p (255 ∷ []) ≡ read_of (expression_of function_count s)
      → Answered d (typing switch s d) (refusal n p no_type) d
  unfolding typing_of
  first_fault_lem n p e = rw (refused-fault (expression_of function_count s) n p e) (refl, refl)

  module _ (n : ℕ) (ok : accepted (n ∷ []) ≡ read_of (expression_of function_count s)) where
    tree : (e : Tree) × (expression_of function_count s ≡ read e) × (drop 0 s ≡ bytes_of e ++ []) × Spelt function_count s e
    tree =
        let (e, x, m) = accepted-tree (expression_of function_count s) n ok in
        let spelt = read-spelt function_count s e x in
        (e, x, spelt.text ∙ sym (append-nil (bytes_of e)), spelt)

    module _ (st : Stack) (h : Sheet) (top : st.top ≡ 0) (len : h.len ≡ 0) where
      pub root-there : NodeThere s 0 st h
      root-there =
          let (e, x, text, spelt) = tree in
          record {
            tree = e;
            tail = [];
            text = text;
            stack_room = omega (arith, spelt.few);
            sheet-room = omega (arith, spelt.few);
          }

      -- a refusal of the second pass is the typing's
      pub second_fault_lem : (why : Refusal) (st' : Stack) (h' : Sheet) → NodeTyped s 0 switch st h (Err why) st' h'
          → Answered d (typing switch s d) (paper.refused why no_type) d
      unfolding NodeTyped typing_of
      second_fault_lem why st' h' done =
          let (e, x, text, spelt) = tree in
          rw x (go e (type_of listing_of switch e 0) (done e [] text))
        where
          go : (e : Tree) (x : Typed Operand) → NodeClaim e 0 st h (Err why) st' h' x → Answered d (with_room d x) (paper.refused why no_type) d
          go e (refused k p) c = (cc, refl)
          go e (typed t ls) c = clash c.answer_is

      -- otherwise its operand and lines are, but for the room
      module _ (past : ℕ) (st' : Stack) (h' : Sheet) (done : NodeTyped s 0 switch st h (Ok past) st' h') (room : Result Unit Refusal)
          (told : verdict_paper room ≡ room_for (length (written h')) (length d)) where
        typed-root : (e : Tree) (x : Typed Operand) → NodeClaim e 0 st h (Ok past) st' h' x
            → Answered d (with_room d x) (answer_by (operand_at st' 0) (length (written h')) room) (placed (written h') d)
        typed-root e (refused k p) c = accepted-refused c
        typed-root e (typed t ls) c =
            let types : types_on st' ≡ t.code ∷ [] = c.pushed.types_are ∙ ap (λ i. take i st.types ++ (t.code ∷ [])) top in
            let marks : marks_on st' ≡ mark_of t.measured ∷ [] =
            c.pushed.marks_are ∙ ap (λ i. take i st.marks ++ (mark_of t.measured ∷ [])) top in
            let here : 0 < st'.top = omega (arith, c.pushed.top_is) in
            let first : (l : List ℕ) (x : ℕ) → take st'.top l ≡ x ∷ [] → get_or l 0 0 ≡ x =
            λ l x e. sym (get_or-take st'.top l 0 0 here) ∙ ap (λ k. get_or k 0 0) e in
            let result : operand_at st' 0 ≡ t =
            ap₂ operand_of (first st'.types t.code types) (first st'.marks (mark_of t.measured) marks) ∙ operand-back t in
            let bytes : written h' ≡ encode ls = c.wrote.bytes_are ∙ ap (λ i. take i h.bytes ++ encode ls) len in
            rw (by_room (operand_at st' 0) (length (written h')) room, told)
            (with_room_lem d t ls (operand_at st' 0) (length (written h')) (written h') result bytes (ap length bytes))

        pub root_answer_lem : Answered d (typing switch s d) (answer_by (operand_at st' 0) (length (written h')) room) (placed (written h') d)
        unfolding NodeTyped typing_of
        root_answer_lem =
            let (e, x, text, spelt) = tree in
            rw x (typed-root e (type_of listing_of switch e 0) (done e [] text))
