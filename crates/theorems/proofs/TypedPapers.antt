-- The paper's numbers determine what `type_expression` answers: two answers with the same number, place and values are equal. Assumes nothing.
use mathlib.Core.Path.{◌≡◌, ap}
use mathlib.Core.List.{List}
use Prim.Native.Nat.{ℕ}
use lib.ListN.{get_or}
use Rattle.std.specs.Prelude.{Result}
use Rattle.scalars.specs.declared.refusal.Refusal.{Refusal}
use Rattle.types.specs.Operand.{operand_of}
use Rattle.types.specs.declared.operand.Operand.{Operand}
use Rattle.types.proofs.Operands.{operand-back}
use Rattle.scalars.proofs.Papers.{answer-one}
use Rattle.worksheet.specs.declared.typer.Typed.{Typed}
use Rattle.worksheet.specs.Typing.{no_type, type_values, type_paper}

abbrev typed_named : List ℕ → Typed
typed_named vs = record { result = operand_of (get_or vs 0 0) (get_or vs 1 0); len = get_or vs 2 0 }

typed_back : (t : Typed) → typed_named (type_values t.result t.len) ≡ t
typed_back t = ap (λ (o : Operand). record { result = o; len = t.len }) (operand-back t.result)

pub type_one : (a b : Result Typed Refusal) → type_paper a ≡ type_paper b → a ≡ b
type_one = answer-one (λ t. type_values t.result t.len) no_type typed_named typed_back
