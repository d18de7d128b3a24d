-- Reading and writing texts is what specs/Texts.antt says. Assumes nothing.
use mathlib.Core.Path.{◌≡◌, refl, sym}
use mathlib.Core.Logic.{◌⊎◌, inl, inr}
use mathlib.Core.Bool.{Bool, true, false}
use mathlib.Core.List.{List}
use Prim.Native.Nat.{ℕ, ◌≤◌, ◌<◌}
use native.Mathlib.Omega.{arith}
use borrow.Author.Tests.{lt-ltb, ltb-true, ltb-false}
use lib.Dec.{ltb}
use lib.ListN.{length}
use Rattle.scalars.specs.Mask.{choose}
use Rattle.functions.specs.Functions.{function_count}
use Rattle.names.specs.Names.{named}
use Rattle.expressions.specs.Tree.{Tree, bytes_of, deepest}
use Rattle.expressions.specs.Limits.{Measurable}
use Rattle.expressions.specs.Reading.{Reading, done, refused, Expression, read, refused_as, expression_of}
use Rattle.text.specs.declared.token.Token.{Token}
use Rattle.text.specs.declared.token.Token.TheVariants.{Open, Close, Comma, Run, End}
use Rattle.text.specs.Tokens.{next}
use Rattle.text.specs.Grammar.{most_bytes, Spells}
use Rattle.text.specs.Reading.{node_at, at_end, whole, reading_of, reading}
use Rattle.text.specs.Writing.{text_of}
use Rattle.theorems.specs.FirstPass.{AbstractAt}
use Rattle.theorems.specs.Texts.{Refused, Theorem}
use Rattle.theorems.proofs.AcceptsExactly.{accepts-only, measurable-accepted, abstract_refused}
use Rattle.theorems.proofs.TextTokens.{Standing, standing}
use Rattle.theorems.proofs.TextSpelt.{Why, limit, strange, wrong, NodeOk}
use Rattle.theorems.proofs.TextSound.{node_ok}
use Rattle.theorems.proofs.TextWritten.{written_spells}
use Rattle.theorems.proofs.TextFaults.{first_fault_lem}
use Rattle.theorems.proofs.TextExact.{read_if, read-only_if, one-spelled}

there_and_back : (b : List ℕ) (e : Tree) → expression_of function_count b ≡ read e
    → (reading (text_of e) ≡ read e) × (bytes_of e ≡ b) × (length (text_of e) ≤ most_bytes)
there_and_back b e h =
    let x = accepts-only function_count b e h in
    let y = written_spells e x.1.within in
    (read_if (text_of e) e y, sym x.0, y.short)

passes-first : (s : List ℕ) (e : Tree) → reading s ≡ read e → Measurable e → expression_of function_count (bytes_of e) ≡ read e
passes-first s e h = measurable-accepted function_count e (read-only_if s e h).within

stopped-first : (s : List ℕ) (e : Tree) → reading s ≡ read e → (Measurable e → ⊥)
    → (p : ℕ) × AbstractAt e 0 p × (expression_of function_count (bytes_of e) ≡ refused_as 17 p)
stopped-first s e h = abstract_refused function_count e (read-only_if s e h).within

-- ---- refusals

record Within (s : List ℕ) (n p : ℕ) : Type 0 where
  one_of : (n ≡ 9) ⊎ (n ≡ 14) ⊎ (n ≡ 15)
  within : p ≤ most_bytes
  inside : length s ≤ most_bytes → p ≤ length s

abbrev RefusalOk : List ℕ → Expression → Type 0
RefusalOk s (read e) = Unit
RefusalOk s (refused_as n p) = Within s n p

which : (s : List ℕ) (n p : ℕ) → Why s p n → (n ≡ 9) ⊎ (n ≡ 14) ⊎ (n ≡ 15)
which s n p (limit e h) = inl refl
which s n p (strange e h u other) = inr (inl refl)
which s n p wrong = inr (inr refl)

module _ (s : List ℕ) (h : length s ≤ most_bytes) where
  left_over : (p : ℕ) → p ≤ length s → Within s 15 p
  left_over p k = record { one_of = inr (inr refl); within = omega arith; inside = λ _. k }

  end-within : (e : Tree) (a : ℕ) → a ≤ length s → (t : Token) → Standing s a t → RefusalOk s (at_end named s e t)
  end-within e a k (End p) t = tt
  end-within e a k (Open p) t = left_over p (t.within k)
  end-within e a k (Close p) t = left_over p (t.within k)
  end-within e a k (Comma p) t = left_over p (t.within k)
  end-within e a k (Run p q) t = left_over p (t.within k)

  whole-within : (r : Reading Tree) → NodeOk s deepest 0 0 r → RefusalOk s (whole named s r)
  whole-within (refused n p) x = record { one_of = which s n p x.why; within = omega (arith, x.within); inside = λ _. x.within }
  whole-within (done e a m) x = end-within e a x.within (next s a) (standing s a)

refusal_ok : (s : List ℕ) → RefusalOk s (reading s)
unfolding reading_of
refusal_ok s = go (ltb most_bytes (length s)) refl
  where
    go : (b : Bool) → ltb most_bytes (length s) ≡ b → RefusalOk s (choose b (refused_as 15 most_bytes) (whole named s (node_at named s deepest 0 0)))
    go true e = record { one_of = inr (inr refl); within = omega arith; inside = λ h. absurd (omega (arith, h, ltb-true most_bytes (length s) e)) }
    go false e = whole-within s (ltb-false most_bytes (length s) e) (node_at named s deepest 0 0) (node_ok s deepest 0 0 (omega arith))

is-refused : (s : List ℕ) → ((e : Tree) → Spells s e → ⊥) → Refused s
is-refused s no-tree = go (reading s) refl (refusal_ok s)
  where
    go : (r : Expression) → reading s ≡ r → RefusalOk s r → Refused s
    go (read e) h x = absurd (no-tree e (read-only_if s e h))
    go (refused_as n p) h x = record { number = n; place = p; answer = h; one_of = x.one_of; within = x.within; inside = x.inside }

too_long : (s : List ℕ) → most_bytes < length s → reading s ≡ refused_as 15 most_bytes
unfolding reading_of
too_long s h = simp (lt-ltb most_bytes (length s) h)

pub texts : Theorem
texts = record {
  exactly = λ s e. (read-only_if s e, read_if s e);
  one_tree = one-spelled;
  there_and_back = there_and_back;
  passes = passes-first;
  stopped = stopped-first;
  refused = is-refused;
  too_long = too_long;
  first_fault = first_fault_lem;
}
