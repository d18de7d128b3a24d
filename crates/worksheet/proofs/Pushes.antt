-- Operands pushed on top of operands.
-- Assumes nothing.
use mathlib.Core.Path.{◌≡◌, sym, ap, ◌∙◌}
use mathlib.Core.List.{List, [], ◌++◌, append_assoc, append-nil}
use Prim.Native.Nat.{ℕ}
use native.Mathlib.Omega.{arith}
use lib.ListN.{length, length-append}
use lib.Seq.{length-take-le}
use Rattle.types.specs.Operand.{codes, marks}
use Rattle.types.specs.declared.operand.Operand.{Operand}
use Rattle.types.proofs.Operands.{codes_append, marks_append}
use Rattle.worksheet.specs.declared.stack.Stack.{Stack}
use Rattle.worksheet.specs.private.Stack.{types_on, marks_on, starts_on, Pushed}

pub pushed-nothing : (s : Stack) → Pushed s [] [] s
pushed-nothing s = record {
  types_are = sym (append-nil (types_on s));
  marks_are = sym (append-nil (marks_on s));
  starts_are = sym (append-nil (starts_on s));
  top_is = omega arith;
}

pub pushed-both : {s m r : Stack} {os os' : List Operand} {ps ps' : List ℕ} → Pushed s os ps m → Pushed m os' ps' r
    → Pushed s (os ++ os') (ps ++ ps') r
pushed-both {s} {m} {r} {os} {os'} {ps} {ps'} a b = record {
  types_are =
      b.types_are ∙ ap (λ l. l ++ codes os') a.types_are ∙ append_assoc (types_on s) (codes os) (codes os')
      ∙ ap (λ l. types_on s ++ l) (sym (codes_append os os'));
  marks_are =
      b.marks_are ∙ ap (λ l. l ++ marks os') a.marks_are ∙ append_assoc (marks_on s) (marks os) (marks os')
      ∙ ap (λ l. marks_on s ++ l) (sym (marks_append os os'));
  starts_are = b.starts_are ∙ ap (λ l. l ++ ps') a.starts_are ∙ append_assoc (starts_on s) ps ps';
  top_is = omega (arith, a.top_is, b.top_is, length-append os os');
}

-- there are as many of each as the stack counts
module _ (s : Stack) where
  pub types-full : length (types_on s) ≡ s.top
  types-full = length-take-le s.top s.types (omega (arith, s.types_long, s.few))

  pub marks-full : length (marks_on s) ≡ s.top
  marks-full = length-take-le s.top s.marks (omega (arith, s.marks_long, s.few))

  pub starts-full : length (starts_on s) ≡ s.top
  starts-full = length-take-le s.top s.starts (omega (arith, s.starts_long, s.few))
