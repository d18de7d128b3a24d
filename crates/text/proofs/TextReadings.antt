-- The whole reading of a text: too long, the root's fault, a token left over, or the bytes of the tree that the definition reads.
-- Assumes nothing.
use mathlib.Core.Path.{◌≡◌, refl, sym, ap, ap₂, ◌∙◌, fun_ext}
use mathlib.Core.List.{List, [], ◌∷◌}
use Prim.Native.Nat.{ℕ, ◌≤◌, ◌<◌}
use native.Mathlib.Omega.{arith}
use borrow.Author.Tests.{lt-ltb, le-ltb}
use lib.ListN.{length, take}
use lib.Seq.{length-sets}
use Rattle.std.specs.Prelude.{Ok, Err}
use Rattle.scalars.specs.Refusal.{numbered}
use Rattle.scalars.specs.Paper.{refusal, unused}
use Rattle.scalars.specs.declared.refusal.Refusal.{Refusal}
use Rattle.names.specs.Names.{Named, named}
use Rattle.names.specs.Spelling.{built_in_names}
use Rattle.names.specs.Index.{word_in, built_in_index}
use Rattle.names.proofs.BuiltIn.{built_in_word}
use Rattle.lending.specs.Bytes.{placed}
use Rattle.expressions.specs.Tree.{Tree, bytes_of, deepest}
use Rattle.expressions.specs.Reading.{read, refused_as}
use Rattle.text.specs.declared.token.Token.{Token}
use Rattle.text.specs.declared.token.Token.TheVariants.{Open, Close, Comma, Run, End}
use Rattle.text.specs.declared.reader.Past.{Past}
use Rattle.text.specs.Tokens.{next, place}
use Rattle.text.specs.Grammar.{most_bytes}
use Rattle.text.specs.Reading.{node_at, at_end, whole, reading_of, reading}
use Rattle.text.specs.Lent.{made_answer, lent_answer, lent_buffer}
use Rattle.text.specs.private.ReadStep.{Went, NodeRead}
use Rattle.text.proofs.Stores.{stored_front}

-- what is answered, and what the lent buffer holds then
abbrev pub Answers : List ℕ → List ℕ → ℕ → ℕ → Type 0
Answers s out number place =
    (refusal number place (unused ∷ []) ≡ lent_answer bytes_of (reading s) (length out)) × (out ≡ lent_buffer bytes_of (reading s) out)

-- any token but the end is left over
abbrev pub NoEnd : Token → Type 0
NoEnd t = (p : ℕ) → t ≡ End p → ⊥

end-misplaced : (t : Token) → NoEnd t → (look : List ℕ → Named) (s : List ℕ) (e : Tree) → at_end look s e t ≡ refused_as 15 (place t)
end-misplaced (End p) h look s e = absurd (h p refl)
end-misplaced (Open p) h look s e = refl
end-misplaced (Close p) h look s e = refl
end-misplaced (Comma p) h look s e = refl
end-misplaced (Run p q) h look s e = refl

module _ (s out : List ℕ) where
  refuses : (number place : ℕ) → reading s ≡ refused_as number place → Answers s out number place
  refuses number place e = rw e (refl, refl)

  pub too_long : most_bytes < length s → Answers s out 15 most_bytes
  unfolding reading_of
  too_long h = refuses 15 most_bytes (simp (lt-ltb most_bytes (length s) h))

  module _ (short : length s ≤ most_bytes) (names index : List ℕ) (ne : names ≡ built_in_names) (ie : index ≡ built_in_index) where
    -- the lent names are the built-in ones
    look_is : word_in names index ≡ named
    look_is = ap₂ word_in ne ie ∙ fun_ext built_in_word

    short-is : reading s ≡ whole (word_in names index) s (node_at (word_in names index) s deepest 0 0)
    unfolding reading_of
    short-is = sym (ap (λ look. reading_of look s) look_is) ∙ simp (le-ltb most_bytes (length s) short)

    module _ (strip strip' : List ℕ) where
      pub root-fault : (why : Refusal) → NodeRead s 0 0 0 strip strip' (node_at (word_in names index) s deepest 0 0) (Err why) → Answers s out (numbered why).0 (numbered why).1
      unfolding NodeRead
      root-fault why x = refuses (numbered why).0 (numbered why).1 (short-is ∙ ap (whole (word_in names index) s) x)

      module _ (o : Past) (root : NodeRead s 0 0 0 strip strip' (node_at (word_in names index) s deepest 0 0) (Ok o)) where
        tree : Went bytes_of (λ e. 1) s 0 0 0 strip strip' (node_at (word_in names index) s deepest 0 0) o
        unfolding NodeRead
        tree = root

        pub tree-room : length strip ≡ 192 → o.made ≤ length strip'
        tree-room l = omega (arith, tree.room, tree.few, ap length tree.written ∙ length-sets strip 0 (bytes_of tree.tree))

        made-is : o.made ≡ length (bytes_of tree.tree)
        made-is = omega (arith, tree.made-is)

        module _ (t : Token) (token : t ≡ next s o.at) where
          ended : reading s ≡ at_end (word_in names index) s tree.tree t
          ended =
              short-is
              ∙ ap (whole (word_in names index) s) tree.is
              ∙ sym (ap (at_end (word_in names index) s tree.tree) token)

          pub left_over : (p : ℕ) → NoEnd t → p ≡ place t → Answers s out 15 p
          left_over p h q = refuses 15 p (ended ∙ end-misplaced t h (word_in names index) s tree.tree ∙ ap (refused_as 15) (sym q))

          module _ (p : ℕ) (last : t ≡ End p) where
            accepted-is : reading s ≡ read tree.tree
            accepted-is = ended ∙ ap (at_end (word_in names index) s tree.tree) last

            pub read_answer : made_answer o.made (length out) ≡ lent_answer bytes_of (reading s) (length out)
            read_answer = rw accepted-is (ap (λ n. made_answer n (length out)) made-is)

            pub read_buffer : length strip ≡ 192 → placed (take o.made strip') out ≡ lent_buffer bytes_of (reading s) out
            read_buffer l =
                let b = bytes_of tree.tree in
                rw accepted-is
                (ap (λ x. placed x out)
                (ap₂ take made-is tree.written ∙ stored_front strip b (omega (arith, tree.room, tree.few, made-is))))
