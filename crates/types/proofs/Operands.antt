-- Operands whose types and marks stand side by side. Assumes nothing.
use mathlib.Core.Path.{◌≡◌, refl, ap, ap₂}
use mathlib.Core.Bool.{Bool, true, false}
use mathlib.Core.List.{List, [], ◌∷◌, ◌++◌}
use Prim.Native.Nat.{ℕ, suc}
use native.Mathlib.Omega.{arith}
use lib.Dec.{eqb}
use lib.ListN.{length}
use Rattle.scalars.specs.Mask.{either}
use Rattle.types.specs.declared.operand.Operand.{Operand}
use Rattle.types.specs.Operand.{measured_mark, mark_of, operand_of, operands_of, codes, marks, any_measured, any_mark}

-- as many types as marks are the types and marks of operands
pub codes-beside : (ts ms : List ℕ) → length ts ≡ length ms → codes (operands_of ts ms) ≡ ts
codes-beside [] ms e = refl
codes-beside (t ∷ ts) [] e = absurd (omega arith)
codes-beside (t ∷ ts) (m ∷ ms) e = ap (λ (us : List ℕ). t ∷ us) (codes-beside ts ms (omega arith))

pub measured-beside : (ts ms : List ℕ) → length ts ≡ length ms → any_measured (operands_of ts ms) ≡ any_mark ms
measured-beside [] [] e = refl
measured-beside [] (m ∷ ms) e = absurd (omega arith)
measured-beside (t ∷ ts) [] e = absurd (omega arith)
measured-beside (t ∷ ts) (m ∷ ms) e = ap (either (eqb m measured_mark)) (measured-beside ts ms (omega arith))

-- operands are known by their marks
mark_tells : (b : Bool) → eqb (mark_of b) measured_mark ≡ b
mark_tells true = refl
mark_tells false = refl

pub operand-back : (o : Operand) → operand_of o.code (mark_of o.measured) ≡ o
operand-back o = ap (λ (b : Bool). record { code = o.code; measured = b }) (mark_tells o.measured)

pub measured-marks : (os : List Operand) → any_mark (marks os) ≡ any_measured os
measured-marks [] = refl
measured-marks (o ∷ os) = ap₂ either (mark_tells o.measured) (measured-marks os)

-- types and marks of operands one behind the other, as many as there are
pub codes-length : (os : List Operand) → length (codes os) ≡ length os
codes-length [] = refl
codes-length (o ∷ os) = ap suc (codes-length os)

pub marks-length : (os : List Operand) → length (marks os) ≡ length os
marks-length [] = refl
marks-length (o ∷ os) = ap suc (marks-length os)

pub codes_append : (os os' : List Operand) → codes (os ++ os') ≡ codes os ++ codes os'
codes_append [] os' = refl
codes_append (o ∷ os) os' = ap (λ (ts : List ℕ). o.code ∷ ts) (codes_append os os')

pub marks_append : (os os' : List Operand) → marks (os ++ os') ≡ marks os ++ marks os'
marks_append [] os' = refl
marks_append (o ∷ os) os' = ap (λ (ms : List ℕ). mark_of o.measured ∷ ms) (marks_append os os')
