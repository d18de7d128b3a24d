-- The length that is answered is no more than the lent buffer's: callers may cut the worksheet off there. Assumes nothing.
use mathlib.Core.Path.{◌≡◌, refl}
use mathlib.Core.Bool.{Bool, true, false}
use mathlib.Core.List.{List}
use Prim.Native.Nat.{ℕ, ◌≤◌}
use native.Mathlib.Omega.{arith}
use borrow.Author.Tests.{leb-true}
use lib.Dec.{leb}
use lib.ListN.{length}
use Rattle.scalars.specs.Mask.{choose}
use Rattle.scalars.specs.Paper.{accepted}
use Rattle.types.specs.declared.operand.Operand.{Operand}
use Rattle.functions.specs.Functions.{function_count, listing_of}
use Rattle.expressions.specs.Reading.{Expression, read, refused_as, expression_of}
use Rattle.machine.specs.Line.{encode}
use Rattle.worksheet.specs.Typer.{Typed, typed, refused, type_of}
use Rattle.worksheet.specs.Answer.{with_room}
use Rattle.worksheet.specs.Typing.{after_reading, typing_of, typing, type_values, answer_of}
use Rattle.expressions.proofs.Answers.{accepted-refused}

module _ (d : List ℕ) (t : Operand) (n : ℕ) where
  room_fits : (x : Typed Operand) → accepted (type_values t n) ≡ answer_of (with_room d x) → n ≤ length d
  room_fits (refused k p) e = accepted-refused e
  room_fits (typed t' ls) e = go (leb (length (encode ls)) (length d)) refl e
    where
      go : (b : Bool) → leb (length (encode ls)) (length d) ≡ b
          → accepted (type_values t n) ≡ answer_of (choose b (typed t' ls) (refused 10 (length (encode ls)))) → n ≤ length d
      go false p e = accepted-refused e
      go true p e = let m : n ≡ length (encode ls) = cc in omega (arith, leb-true (length (encode ls)) (length d) p)

  pub typed-fits : (switch : Bool) (s : List ℕ) → accepted (type_values t n) ≡ answer_of (typing switch s d) → n ≤ length d
  unfolding typing_of
  typed-fits switch s e = go (expression_of function_count s) e
    where
      go : (x : Expression) → accepted (type_values t n) ≡ answer_of (after_reading listing_of switch d x) → n ≤ length d
      go (read tree) e = room_fits (type_of listing_of switch tree 0) e
      go (refused_as k p) e = accepted-refused e
