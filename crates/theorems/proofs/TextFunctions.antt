-- Reading and writing texts is what specs/TextFunctions.antt says of the entry points. What goes into a lent buffer is said once, of a tree
-- that was read; the rest is what holds of the definitions. Assumes nothing.
use mathlib.Core.Path.{◌≡◌, refl, sym, ap, ◌∙◌}
use mathlib.Core.Logic.{◌↔◌, ◌⊎◌, ⊎_elim, inl, inr}
use mathlib.Core.Bool.{Bool, true, false}
use mathlib.Core.List.{List, [], ◌∷◌, ◌++◌}
use Prim.Native.Nat.{ℕ, ◌*◌, ◌≤◌, ◌<◌}
use native.Mathlib.Omega.{arith}
use borrow.Author.Tests.{lt-ltb, le-ltb, ltb-true, ltb-false}
use lib.Dec.{ltb}
use lib.ListN.{length, take, drop, length-append}
use lib.Seq.{take-append_seam}
use Rattle.scalars.specs.Mask.{choose}
use Rattle.scalars.specs.Paper.{unused}
use Rattle.scalars.specs.Paper as paper
use Rattle.lending.proofs.Placed.{placed-short, placed-fits}
use Rattle.functions.specs.Functions.{function_count}
use Rattle.expressions.specs.Tree.{Tree, Trees, leaf, call, none, more, bytes_of, bytes_of_all, nodes, nodes_all}
use Rattle.expressions.specs.Reading.{Expression, read, refused_as, expression_of}
use Rattle.expressions.proofs.Answers.{accepted-refused}
use Rattle.std.specs.Prelude.{Result}
use Rattle.scalars.specs.declared.refusal.Refusal.{Refusal}
use Rattle.text.specs.Grammar.{most_bytes, Spells}
use Rattle.text.specs.Lent.{lent_answer, lent_buffer}
use Rattle.text.specs.Reading.{reading}
use Rattle.text.specs.TextPaper.{text_paper}
use Rattle.text.specs.Writing.{text_of}
use Rattle.text.proofs.SpeltTexts.{text-short}
use Rattle.theorems.specs.TextFunctions.{Lends, Reads, Writes, Theorem}
use Rattle.theorems.proofs.AcceptsExactly.{accepts-only}
use Rattle.theorems.proofs.Texts.{texts}

-- a node has at most three bytes of its own
mutual
  unfolding bytes_of nodes

  few_bytes : (e : Tree) → length (bytes_of e) ≤ 3 * nodes e
  few_bytes (leaf l) = omega arith
  few_bytes (call f es) = omega (arith, few_bytes-all es)

  few_bytes-all : (es : Trees) → length (bytes_of_all es) ≤ 3 * nodes_all es
  few_bytes-all none = omega arith
  few_bytes-all (more e es) = omega (arith, length-append (bytes_of e) (bytes_of_all es), few_bytes e, few_bytes-all es)

-- what a promise on a lent buffer says, x being what was read
module _ (wanted : Tree → List ℕ) (x : Expression) (d : List ℕ) (r : Result ℕ Refusal) (d' : List ℕ)
    (answer : text_paper r ≡ lent_answer wanted x (length d)) (buffer : d' ≡ lent_buffer wanted x d) where
  answered : {y : Expression} → x ≡ y → text_paper r ≡ lent_answer wanted y (length d)
  answered h = answer ∙ ap (λ y. lent_answer wanted y (length d)) h

  left : {y : Expression} → x ≡ y → d' ≡ lent_buffer wanted y d
  left h = buffer ∙ ap (λ y. lent_buffer wanted y d) h

  made : (e : Tree) → x ≡ read e → length (wanted e) ≤ length d → text_paper r ≡ paper.accepted (length (wanted e) ∷ [])
  made e h k =
      answered h
      ∙ ap (λ b. choose b (paper.refusal 10 (length (wanted e)) (unused ∷ [])) (paper.accepted (length (wanted e) ∷ [])))
      (le-ltb (length d) (length (wanted e)) k)

  front : (e : Tree) → x ≡ read e → length (wanted e) ≤ length d → d' ≡ wanted e ++ drop (length (wanted e)) d
  front e h k = left h ∙ placed-fits (wanted e) d (length (wanted e)) refl k

  too_short : (e : Tree) → x ≡ read e → length d < length (wanted e)
      → text_paper r ≡ paper.refusal 10 (length (wanted e)) (unused ∷ [])
  too_short e h k =
      answered h
      ∙ ap (λ b. choose b (paper.refusal 10 (length (wanted e)) (unused ∷ [])) (paper.accepted (length (wanted e) ∷ [])))
      (lt-ltb (length d) (length (wanted e)) k)

  unmade : (n p : ℕ) → x ≡ refused_as n p → text_paper r ≡ paper.refusal n p (unused ∷ [])
  unmade n p h = answered h

  -- a tree was read, n bytes are wanted of it, and they fit
  abbrev Made : ℕ → Type 0
  Made n = (e : Tree) × (x ≡ read e) × (length (wanted e) ≡ n) × (n ≤ length d)

  only-made : (n : ℕ) → text_paper r ≡ paper.accepted (n ∷ []) → Made n
  only-made n h = go x refl
    where
      fit : (e : Tree) → x ≡ read e → (b : Bool) → ltb (length d) (length (wanted e)) ≡ b → Made n
      fit e q true k = accepted-refused (sym h ∙ too_short e q (ltb-true (length d) (length (wanted e)) k))
      fit e q false k =
          let room = ltb-false (length d) (length (wanted e)) k in
          let z : paper.accepted (length (wanted e) ∷ []) ≡ paper.accepted (n ∷ []) = sym (made e q room) ∙ h in
          let m : length (wanted e) ≡ n = cc in
          (e, q, m, omega arith)

      go : (y : Expression) → x ≡ y → Made n
      go (read e) q = fit e q (ltb (length d) (length (wanted e))) refl
      go (refused_as k p) q = accepted-refused (sym h ∙ unmade k p q)

  -- a refusal: the fault that was read, or 10 where a tree was
  module _ (n p : ℕ) (h : text_paper r ≡ paper.refusal n p (unused ∷ [])) where
    data Why : Type 0 where
      unread : x ≡ refused_as n p → Why
      roomless : (e : Tree) → x ≡ read e → length d < length (wanted e) → n ≡ 10 → Why

    why : Why
    why = go x refl
      where
        fit : (e : Tree) → x ≡ read e → (b : Bool) → ltb (length d) (length (wanted e)) ≡ b → Why
        fit e q true k =
            let less = ltb-true (length d) (length (wanted e)) k in
            let z = sym h ∙ too_short e q less in
            roomless e q less cc
        fit e q false k = accepted-refused (sym (made e q (ltb-false (length d) (length (wanted e)) k)) ∙ h)

        go : (y : Expression) → x ≡ y → Why
        go (read e) q = fit e q (ltb (length d) (length (wanted e))) refl
        go (refused_as k j) q =
            let z = sym h ∙ unmade k j q in
            let same : refused_as k j ≡ refused_as n p = cc in
            unread (q ∙ same)

    kept : d' ≡ d
    kept = go why
      where
        go : Why → d' ≡ d
        go (unread q) = left q
        go (roomless e q k _) = left q ∙ placed-short (wanted e) d k

  lends : (Given : Tree → Type 0) → ((e : Tree) → x ≡ read e ↔ Given e) → Lends Given wanted d r d'
  lends Given same =
      record {
        accepted = λ n. (
          λ h. let (e, q, m, k) = only-made n h in (e, (same e).0 q, m, k),
          λ (e, g, m, k). made e ((same e).1 g) (omega arith) ∙ ap (λ (j : ℕ). paper.accepted (j ∷ [])) m,
        );
        in_front = λ e g. front e ((same e).1 g);
        short = λ e g. too_short e ((same e).1 g);
        kept = kept;
      }

module _ (s d : List ℕ) (r : Result ℕ Refusal) (d' : List ℕ)
    (answer : text_paper r ≡ lent_answer bytes_of (reading s) (length d)) (buffer : d' ≡ lent_buffer bytes_of (reading s) d) where
  -- what reads back a text of a tree whose bytes fit
  reads-back : (e : Tree) → reading s ≡ read e → (b : List ℕ) → bytes_of e ≡ b → length b ≤ length d
      → (text_paper r ≡ paper.accepted (length b ∷ [])) × (take (length b) d' ≡ b)
  reads-back e h b same room =
      let k : length (bytes_of e) ≤ length d = rw (sym same) at room in
      let l : d' ≡ bytes_of e ++ drop (length (bytes_of e)) d = front bytes_of (reading s) d r d' answer buffer e h k in (
        rw same at (made bytes_of (reading s) d r d' answer buffer e h k),
        rw same at (ap (take (length (bytes_of e))) l ∙ take-append_seam (bytes_of e) (drop (length (bytes_of e)) d)),
      )

  numbers : (n p : ℕ) {h : text_paper r ≡ paper.refusal n p (unused ∷ [])} → Why bytes_of (reading s) d r d' answer buffer n p h
      → (n ≡ 9) ⊎ (n ≡ 10) ⊎ (n ≡ 14) ⊎ (n ≡ 15)
  numbers n p (roomless e q k is) = inr (inl is)
  numbers n p (unread q) =
      let x = texts.refused s (λ e k. let z = sym q ∙ (texts.exactly s e).1 k in let y : ◌≡◌ {A = ℕ} 0 1 = cc in omega arith) in
      let z = sym q ∙ x.answer in
      let same : x.number ≡ n = cc in
      ⊎_elim (λ i. inl (sym same ∙ i)) (⊎_elim (λ i. inr (inr (inl (sym same ∙ i)))) (λ i. inr (inr (inr (sym same ∙ i))))) x.one_of

  read-so : Reads s d r d'
  read-so =
      record {
        lends = lends bytes_of (reading s) d r d' answer buffer (Spells s) (texts.exactly s);
        suffices = λ h e k. omega (arith, few_bytes e, k.within.few);
        faulty = λ h none.
            let k = texts.refused s none in (
              k.number,
              k.place,
              unmade bytes_of (reading s) d r d' answer buffer k.number k.place k.answer,
              k.one_of,
              k.inside h,
              texts.first_fault s k.number k.place h k.answer,
            );
        too_long = λ h. unmade bytes_of (reading s) d r d' answer buffer 15 most_bytes (texts.too_long s h);
        numbers = λ n p h. numbers n p (why bytes_of (reading s) d r d' answer buffer n p h);
      }

module _ (b d : List ℕ) (r : Result ℕ Refusal) (d' : List ℕ)
    (answer : text_paper r ≡ lent_answer text_of (expression_of function_count b) (length d))
    (buffer : d' ≡ lent_buffer text_of (expression_of function_count b) d) where
  abbrev first : Expression
  first = expression_of function_count b

  -- the text in the final buffer is read as the tree whose bytes are b
  written : (n : ℕ) → text_paper r ≡ paper.accepted (n ∷ []) → (e : Tree) × (reading (take n d') ≡ read e) × (bytes_of e ≡ b)
  written n h =
      let (e, q, m, k) = only-made text_of first d r d' answer buffer n h in
      let (again, same, short) = texts.there_and_back b e q in
      let l : d' ≡ text_of e ++ drop (length (text_of e)) d =
      front text_of first d r d' answer buffer e q (omega arith) in
      let t : take n d' ≡ text_of e =
      ap (λ j. take j d') (sym m) ∙ ap (take (length (text_of e))) l ∙ take-append_seam (text_of e) (drop (length (text_of e)) d) in
      (e, ap reading t ∙ again, same)

  write_so : Writes b d r d'
  write_so =
      record {
        lends = lends text_of first d r d' answer buffer (λ e. first ≡ read e) (λ e. (λ h. h, λ h. h));
        suffices = λ h e q.
            let w = (accepts-only function_count b e q).1.within in
            omega (arith, text-short e w.known, w.few);
        within = λ e q. (texts.there_and_back b e q).2;
        faulty = unmade text_of first d r d' answer buffer;
        back = λ n h κs a q v promised these room.
            let (e, again, same) = written n h in
            reads-back a.0.now a.1.0.now q _ promised.0 promised.1 e (ap reading these ∙ again) b same room;
      }

pub text_functions : Theorem
text_functions = record {
  reads = λ κs a r v promised. read-so _ _ _ _ promised.0 promised.1;
  writes = λ κs a r v promised. write_so _ _ _ _ promised.0 promised.1;
}
