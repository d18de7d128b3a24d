-- Operands turned over: their types are turned over, and one of them is measured if one was.
-- Assumes nothing.
use mathlib.Core.Path.{◌≡◌, refl, ◌∙◌}
use mathlib.Core.Bool.{Bool, true, false}
use mathlib.Core.List.{List, [], ◌∷◌, reverse, reverse_aux}
use Rattle.scalars.specs.Mask.{either}
use Rattle.types.specs.Operand.{codes, any_measured}
use Rattle.types.specs.declared.operand.Operand.{Operand}

codes-before : (xs ys : List Operand) → codes (reverse_aux xs ys) ≡ reverse_aux (codes xs) (codes ys)
codes-before [] ys = refl
codes-before (x ∷ xs) ys = codes-before xs (x ∷ ys)

pub codes-turned : (xs : List Operand) → codes (reverse xs) ≡ reverse (codes xs)
codes-turned xs = codes-before xs []

moved : (a b c : Bool) → either b (either a c) ≡ either (either a b) c
moved true true c = refl
moved true false c = refl
moved false b c = refl

measured-before : (xs ys : List Operand) → any_measured (reverse_aux xs ys) ≡ either (any_measured xs) (any_measured ys)
measured-before [] ys = refl
measured-before (x ∷ xs) ys = measured-before xs (x ∷ ys) ∙ moved x.measured (any_measured xs) (any_measured ys)

none_else : (b : Bool) → either b false ≡ b
none_else true = refl
none_else false = refl

pub measured-turned : (xs : List Operand) → any_measured (reverse xs) ≡ any_measured xs
measured-turned xs = measured-before xs [] ∙ none_else (any_measured xs)
