-- The text of the tree that the first pass accepted. Assumes nothing.
use mathlib.Core.Path.{◌≡◌, sym, ap, ap₂, ◌∙◌}
use mathlib.Core.List.{List, [], ◌∷◌, ◌++◌, append-nil}
use Prim.Native.Nat.{ℕ, ◌≤◌}
use native.Mathlib.Omega.{arith}
use lib.ListN.{length, take, drop}
use lib.Seq.{length-sets}
use Rattle.scalars.specs.Paper.{accepted}
use Rattle.functions.specs.Functions.{function_count}
use Rattle.names.specs.Spelling.{built_in_names}
use Rattle.names.specs.Index.{built_in_index}
use Rattle.lending.specs.Bytes.{placed}
use Rattle.expressions.specs.Tree.{Tree, bytes_of}
use Rattle.expressions.specs.Reading.{read, expression_of, read_of}
use Rattle.expressions.proofs.Sound.{read-spelt}
use Rattle.expressions.proofs.Answers.{accepted-tree}
use Rattle.text.specs.declared.writer.Turn.{Turn}
use Rattle.text.specs.Writing.{text_with, text_of}
use Rattle.text.specs.Lent.{made_answer, lent_answer, lent_buffer}
use Rattle.text.specs.private.WriteStep.{type_in, function_in, text_room, NodeThere, Turned, NodeWritten}
use Rattle.text.proofs.SpeltTexts.{spelt-text, text-short}
use Rattle.text.proofs.Stores.{stored_front}

module _ (b : List ℕ) where
  module _ (n : ℕ) (ok : accepted (n ∷ []) ≡ read_of (expression_of function_count b)) (names index : List ℕ) (ne : names ≡ built_in_names)
      (ie : index ≡ built_in_index) where
    -- the tree that was read, and its text in the lent names
    root : (e : Tree) × (expression_of function_count b ≡ read e) × (drop 0 b ≡ bytes_of e ++ [])
        × (text_with (type_in names index) (function_in names index) e ≡ text_of e) × (length (text_of e) ≤ text_room)
    root =
        let (e, x, m) = accepted-tree (expression_of function_count b) n ok in
        let spelt = read-spelt function_count b e x in (
          e,
          x,
          spelt.text ∙ sym (append-nil (bytes_of e)),
          ap₂ (λ y z. text_with (type_in y z) (function_in y z) e) ne ie ∙ spelt-text e spelt.known,
          omega (arith, text-short e spelt.known, spelt.few),
        )

    pub root-there : NodeThere b names index 0 0
    root-there =
        let (e, x, text, spelling, short) = root in
        record { tree = e; tail = []; text = text; room = omega (arith, ap length spelling) }

    module _ (s s' : List ℕ) (r : Turn) (long : length s ≡ text_room) (w : NodeWritten b names index 0 0 s s' r) where
      turned : (e : Tree) → drop 0 b ≡ bytes_of e ++ []
          → Turned (length (bytes_of e)) (text_with (type_in names index) (function_in names index) e) 0 0 s s' r
      unfolding NodeWritten
      turned e text = w e [] text

      root-long : text_room ≡ length s'
      root-long =
          let (e, x, text, spelling, short) = root in
          let whole = text_with (type_in names index) (function_in names index) e in
          omega (arith, ap length (turned e text).written, length-sets s 0 whole)

      pub root-fits : r.made ≤ length s'
      root-fits =
          let (e, x, text, spelling, short) = root in
          omega (arith, (turned e text).made-is, ap length spelling, root-long)

      pub root_answer : (d : List ℕ) → (made_answer r.made (length d) ≡ lent_answer text_of (expression_of function_count b) (length d))
          × (placed (take r.made s') d ≡ lent_buffer text_of (expression_of function_count b) d)
      root_answer d =
          let (e, x, text, spelling, short) = root in
          let went = turned e text in
          let whole = text_with (type_in names index) (function_in names index) e in
          let made : r.made ≡ length whole = omega (arith, went.made-is) in
          let front : take r.made s' ≡ text_of e =
          ap₂ take made went.written ∙ stored_front s whole (omega (arith, ap length spelling)) ∙ spelling in
          let many : r.made ≡ length (text_of e) = made ∙ ap length spelling in
          rw x (ap (λ k. made_answer k (length d)) many, ap (λ l. placed l d) front)
