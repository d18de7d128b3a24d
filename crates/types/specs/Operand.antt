-- Document 02, (v): 'Every operand record now carries whether it is constant or measured.' Operands, and their types and marks side by
-- side.
use Rattle.std.specs.Prelude.{Bool, true, false, List, [], ◌∷◌, ℕ, eqb, leb}
use Rattle.scalars.specs.Mask.{both, either}
use Rattle.types.specs.Domain.{is_abstract}
use Rattle.types.specs.declared.operand.Operand.{Operand}

-- a mark is a byte: 0 constant, 1 measured
abbrev pub measured_mark : ℕ
measured_mark = 1

abbrev pub mark_of : Bool → ℕ
mark_of false = 0
mark_of true = measured_mark

abbrev pub mark? : ℕ → Bool
mark? m = leb m measured_mark

-- the operand of a type and a mark
abbrev pub operand_of : ℕ → ℕ → Operand
operand_of t m = record { code = t; measured = eqb m measured_mark }

-- measured and abstract: 'a force reading can't be an abstract number'
abbrev pub measured_abstract : Operand → Bool
measured_abstract o = both o.measured (is_abstract o.code)

-- operands by their types and marks side by side, and back
abbrev pub operands_of : List ℕ → List ℕ → List Operand
operands_of [] ms = []
operands_of (t ∷ ts) [] = []
operands_of (t ∷ ts) (m ∷ ms) = operand_of t m ∷ operands_of ts ms

abbrev pub codes : List Operand → List ℕ
codes [] = []
codes (o ∷ os) = o.code ∷ codes os

abbrev pub marks : List Operand → List ℕ
marks [] = []
marks (o ∷ os) = mark_of o.measured ∷ marks os

-- some operand is measured: of operands, and by their marks
abbrev pub any_measured : List Operand → Bool
any_measured [] = false
any_measured (o ∷ os) = either o.measured (any_measured os)

abbrev pub any_mark : List ℕ → Bool
any_mark [] = false
any_mark (m ∷ ms) = either (eqb m measured_mark) (any_mark ms)

-- what asks a call to drop rules with an abstract argument: the switch, or a measured operand
abbrev pub concrete_only : Bool → Bool → Bool
concrete_only switch measured = either switch measured
