-- Demand 3 holds of the entry points, as specs/Expressions.antt states it. The typing of bytes is the type t and lines ls exactly where
-- the bytes give them and there is room (`typing-fits`, `typing-typed`); the rest is demand 3 of trees, and that the first pass accepts
-- exactly the bytes of the expressions within the limits. Assumes nothing.
use mathlib.Core.Path.{◌≡◌, refl, sym, ap, ap₂, ◌∙◌}
use mathlib.Core.Logic.{◌⊎◌, inl, inr}
use mathlib.Core.Bool.{Bool, true, false}
use mathlib.Core.List.{List, ◌++◌}
use Prim.Native.Nat.{ℕ, ◌<◌}
use native.Mathlib.Omega.{arith}
use borrow.Author.Tests.{le-leb, lt-leb, leb-true}
use lib.Dec.{leb}
use lib.ListN.{length, take, drop}
use lib.Seq.{take-append_seam}
use Rattle.scalars.specs.Mask.{choose}
use Rattle.scalars.specs.Paper as paper
use Rattle.types.specs.Operand.{mark_of, operand_of}
use Rattle.types.specs.declared.operand.Operand.{Operand}
use Rattle.types.proofs.Operands.{operand-back}
use Rattle.functions.specs.Functions.{function_count, listing_of}
use Rattle.expressions.specs.Tree.{Tree}
use Rattle.expressions.specs.Reading.{Expression, read, refused_as, expression_of}
use Rattle.machine.specs.Line.{Line, encode}
use Rattle.machine.specs.Machine.{run_bytes}
use Rattle.machine.specs.Run.{ran_of}
use Rattle.std.specs.Prelude.{Result}
use Rattle.scalars.specs.declared.refusal.Refusal.{Refusal}
use Rattle.worksheet.specs.declared.typer.Typed as answer
use Rattle.worksheet.specs.Typer.{Typed, typed, refused, type_of}
use Rattle.worksheet.specs.Answer.{with_room, buffer_after}
use Rattle.worksheet.specs.Typing.{after_reading, typing_of, typing, no_type, type_values, answer_of, type_paper}
use Rattle.theorems.specs.Meaning.{Gives, Stuck}
use Rattle.theorems.specs.Demand3 as trees
use Rattle.expressions.proofs.Answers.{accepted-refused}
use Rattle.theorems.proofs.AcceptsExactly.{accepts-only, accepts-all}
use Rattle.theorems.proofs.Demand3.{for_trees}
use Rattle.theorems.specs.Expressions.{Spells, Giving, Room, Worksheet, Demand3, Theorem}

-- no typing is both
typed-refused : {A : Type 0} {o : Operand} {n p : ℕ} {ls : List Line} → typed o ls ≡ refused n p → A
typed-refused e = let z : ◌≡◌ {A = ℕ} 0 1 = cc in absurd (omega arith)

module _ (switch : Bool) (s d : List ℕ) where
  spelt-read : (e : Tree) → Spells s e → expression_of function_count s ≡ read e
  spelt-read e k = accepts-all function_count s e k.text k.well_formed

  demands : (e : Tree) → Spells s e → trees.Demand3 listing_of switch e
  demands e k = for_trees switch e k.well_formed

  -- lines that fit are the typing
  typing-fits : (e : Tree) (o : Operand) (ls : List Line) → Giving switch s d e o ls → Room switch s d ls → typing switch s d ≡ typed o ls
  unfolding typing_of
  typing-fits e o ls k h =
      rw (spelt-read e k.spelt, ((demands e k.spelt).accepted o ls).1 k.given, le-leb (length (encode ls)) (length d) h)

  -- lines that do not fit are refused
  typing-short : (e : Tree) (o : Operand) (ls : List Line) → Giving switch s d e o ls → length d < length (encode ls)
      → typing switch s d ≡ refused 10 (length (encode ls))
  unfolding typing_of
  typing-short e o ls k h =
      rw (spelt-read e k.spelt, ((demands e k.spelt).accepted o ls).1 k.given, lt-leb (length (encode ls)) (length d) h)

  -- and the typing is lines that fit
  room : (o : Operand) (ls : List Line) (y : Typed Operand) → with_room d y ≡ typed o ls → (y ≡ typed o ls) × Room switch s d ls
  room o ls (refused n p) q = typed-refused (sym q)
  room o ls (typed o' ls') q = go (leb (length (encode ls')) (length d)) refl q
    where
      go : (b : Bool) → leb (length (encode ls')) (length d) ≡ b
          → choose b (typed o' ls') (refused 10 (length (encode ls'))) ≡ typed o ls
          → (typed o' ls' ≡ typed o ls) × Room switch s d ls
      go false p q = typed-refused (sym q)
      go true p q =
          let m : ls' ≡ ls = cc in
          (q, rw m at (leb-true (length (encode ls')) (length d) p))

  typing-typed : (o : Operand) (ls : List Line) → typing switch s d ≡ typed o ls
      → (e : Tree) × Giving switch s d e o ls × Room switch s d ls
  unfolding typing_of
  typing-typed o ls q = go (expression_of function_count s) refl q
    where
      go : (x : Expression) → expression_of function_count s ≡ x → after_reading listing_of switch d x ≡ typed o ls
          → (e : Tree) × Giving switch s d e o ls × Room switch s d ls
      go (refused_as n p) x q = typed-refused (sym q)
      go (read e) x q =
          let (text, formed) = accepts-only function_count s e x in
          let k : Spells s e = record { text = text; well_formed = formed } in
          let (y, held) = room o ls (type_of listing_of switch e 0) q in
          (e, record { spelt = k; given = ((demands e k).accepted o ls).0 y }, held)

  -- no expression gives lines and is stuck, nor gives lines and is spelt by nothing
  one-reading : (e e' : Tree) → Spells s e → Spells s e' → e ≡ e'
  one-reading e e' k k' = let p = spelt-read e k in let p' = spelt-read e' k' in cc

  abbrev Faulty : Type 0
  Faulty = ((e : Tree) → Spells s e → ⊥) ⊎ ((e : Tree) × Spells s e × Stuck listing_of switch e)

  never-typed : Faulty → (o : Operand) (ls : List Line) → typing switch s d ≡ typed o ls → ⊥
  never-typed (inl unspelt) o ls q = let (e, k, h) = typing-typed o ls q in unspelt e k.spelt
  never-typed (inr (e, k, stuck)) o ls q =
      let (e', k', h) = typing-typed o ls q in
      let same : e ≡ e' = one-reading e e' k k'.spelt in
      (demands e' k'.spelt).never_both o ls k'.given (rw same at stuck)

  faulty : ((e : Tree) (o : Operand) (ls : List Line) → Giving switch s d e o ls → Room switch s d ls)
      → (n p : ℕ) → typing switch s d ≡ refused n p → Faulty
  faulty roomy n p q = go (expression_of function_count s) refl
    where
      either : (e : Tree) → Spells s e → ((o : Operand) × (ls : List Line) × Gives listing_of switch e o ls) ⊎ Stuck listing_of switch e → Faulty
      either e k (inr stuck) = inr (e, k, stuck)
      either e k (inl (o, ls, g)) =
          let w : Giving switch s d e o ls = record { spelt = k; given = g } in
          typed-refused (sym (typing-fits e o ls w (roomy e o ls w)) ∙ q)

      go : (x : Expression) → expression_of function_count s ≡ x → Faulty
      go (refused_as k p) x = inl (λ e f. let x' = spelt-read e f in let z : ◌≡◌ {A = ℕ} 0 1 = cc in omega arith)
      go (read e) x =
          let (text, formed) = accepts-only function_count s e x in
          let k : Spells s e = record { text = text; well_formed = formed } in
          either e k (demands e k).either_one

  module _ (r : Result answer.Typed Refusal) (d' : List ℕ) (answer : type_paper r ≡ answer_of (typing switch s d))
      (buffer : d' ≡ buffer_after (typing switch s d) d) where
    answered : {x : Typed Operand} → typing switch s d ≡ x → type_paper r ≡ answer_of x
    answered q = answer ∙ ap answer_of q

    left : {x : Typed Operand} → typing switch s d ≡ x → d' ≡ buffer_after x d
    left q = buffer ∙ ap (λ y. buffer_after y d) q

    typed-lines : (o : Operand) (n : ℕ) → type_paper r ≡ paper.accepted (type_values o n) → (x : Typed Operand) → typing switch s d ≡ x
        → (ls : List Line) × (typing switch s d ≡ typed o ls) × (length (encode ls) ≡ n)
    typed-lines o n h (typed o' ls) q =
        let e : paper.accepted (type_values o' (length (encode ls))) ≡ paper.accepted (type_values o n) = sym (answered q) ∙ h in
        let c : o'.code ≡ o.code = cc in
        let b : mark_of o'.measured ≡ mark_of o.measured = cc in
        let m : o' ≡ o = sym (operand-back o') ∙ ap₂ operand_of c b ∙ operand-back o in
        let k : length (encode ls) ≡ n = cc in
        (ls, rw m at q, k)
    typed-lines o n h (refused k p) q = accepted-refused (sym h ∙ answered q)

    refused_by : (n p : ℕ) → type_paper r ≡ paper.refusal n p no_type → (x : Typed Operand) → typing switch s d ≡ x
        → typing switch s d ≡ refused n p
    refused_by n p h (refused n' p') q =
        let e : paper.refusal n' p' no_type ≡ paper.refusal n p no_type = sym (answered q) ∙ h in
        let m : n' ≡ n = cc in
        let k : p' ≡ p = cc in
        rw (m, k) at q
    refused_by n p h (typed o ls) q = accepted-refused (sym (answered q) ∙ h)

    refusal : Faulty → (x : Typed Operand) → typing switch s d ≡ x → (n : ℕ) × (p : ℕ) × (type_paper r ≡ paper.refusal n p no_type)
    refusal f (typed o ls) q = absurd (never-typed f o ls q)
    refusal f (refused n p) q = (n, p, answered q)

    accepted-fits : (o : Operand) (n : ℕ) → type_paper r ≡ paper.accepted (type_values o n)
        → (e : Tree) × (ls : List Line) × Giving switch s d e o ls × Room switch s d ls × (length (encode ls) ≡ n)
    accepted-fits o n h =
        let (ls, q, long) = typed-lines o n h (typing switch s d) refl in
        let (e, k, held) = typing-typed o ls q in
        (e, ls, k, held, long)

    fits-accepted : (o : Operand) (n : ℕ) (e : Tree) (ls : List Line) → Giving switch s d e o ls → Room switch s d ls → length (encode ls) ≡ n
        → type_paper r ≡ paper.accepted (type_values o n)
    fits-accepted o n e ls k h long = answered (typing-fits e o ls k h) ∙ ap (λ (m : ℕ). paper.accepted (type_values o m)) long

    sheet : (e : Tree) (o : Operand) (ls : List Line) → Giving switch s d e o ls → Room switch s d ls → Worksheet switch s d d' e o ls
    sheet e o ls k h =
        let w = (demands e k.spelt).worksheet o ls k.given in
        let l : d' ≡ encode ls ++ drop (length (encode ls)) d = left (typing-fits e o ls k h) in
        let front : take (length (encode ls)) d' ≡ encode ls =
        ap (take (length (encode ls))) l ∙ take-append_seam (encode ls) (drop (length (encode ls)) d) in
        record {
          in_front = l;
          its_own = w.its_own;
          runs = λ κs a q v promised these. promised ∙ ap (λ b. ran_of (run_bytes listing_of b)) (these ∙ front) ∙ ap ran_of w.bytes_run;
        }

    holds : Demand3 switch s d r d'
    holds =
        record {
          accepted = λ o n. (accepted-fits o n, λ (e, ls, k, h, long). fits-accepted o n e ls k h long);
          worksheet = sheet;
          refused = λ roomy. (
            λ (n, p, h). faulty roomy n p (refused_by n p h (typing switch s d) refl),
            λ f. refusal f (typing switch s d) refl,
          );
          short = λ e o ls k h. answered (typing-short e o ls k h);
          suffices = λ h e o ls k. omega (arith, ((demands e k.spelt).worksheet o ls k.given).suffice);
          kept = λ n p h. left (refused_by n p h (typing switch s d) refl);
        }

pub demand_3 : Theorem
demand_3 κs a r v promised = holds _ _ _ _ _ promised.0 promised.1
