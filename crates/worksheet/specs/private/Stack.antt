-- What the functions of src/stack.rt promise: operands on top of others, and operands taken off.
use Rattle.std.specs.Prelude.{◌≡◌, List, ◌++◌, ℕ, ◌+◌, ◌-◌, length, get_or, take, drop}
use Rattle.types.specs.Operand.{operand_of, codes, marks}
use Rattle.types.specs.declared.operand.Operand.{Operand}
use Rattle.worksheet.specs.declared.stack.Stack.{Stack}

-- the operands' types, their marks, and the offsets of their first bytes, the top last
abbrev pub types_on : Stack → List ℕ
types_on s = take s.top s.types

abbrev pub marks_on : Stack → List ℕ
marks_on s = take s.top s.marks

abbrev pub starts_on : Stack → List ℕ
starts_on s = take s.top s.starts

-- these operands, which begin at these offsets, were pushed onto those of s
pub record Pushed (s : Stack) (os : List Operand) (ps : List ℕ) (r : Stack) : Type 0 where
  pub types_are : types_on r ≡ types_on s ++ codes os
  pub marks_are : marks_on r ≡ marks_on s ++ marks os
  pub starts_are : starts_on r ≡ starts_on s ++ ps
  pub top_is : r.top ≡ s.top + length os

-- the operand of a number, counted from the bottom
abbrev pub operand_at : Stack → ℕ → Operand
operand_at s i = operand_of (get_or s.types i 0) (get_or s.marks i 0)

-- what stands on top in an array of which so many are counted
abbrev pub top_part : List ℕ → ℕ → ℕ → List ℕ
top_part l top n = take (top - (top - n)) (drop (top - n) l)

-- the operands on top were taken off
pub record Cut (s : Stack) (n : ℕ) (r : Stack) : Type 0 where
  pub types_same : r.types ≡ s.types
  pub marks-same : r.marks ≡ s.marks
  pub starts-same : r.starts ≡ s.starts
  pub top_is : r.top ≡ s.top - n
