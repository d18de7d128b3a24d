-- The worksheet's length, as `type_expression` promises it, is at most that of the buffer that was lent. Assumes nothing.
use Rattle.std.proofs.Common.{◌≡◌, ℕ, ◌≤◌, Bool, List, length, Result, Ok, Err, IfOk, arith}
use Rattle.scalars.specs.declared.refusal.Refusal.{Refusal}
use Rattle.worksheet.specs.Typing.{typing, type_paper, answer_of}
use Rattle.worksheet.specs.declared.typer.Typed.{Typed}
use Rattle.worksheet.proofs.Lengths.{typed-fits}

pub sheet_fits : (r : Result Typed Refusal) (switch : Bool) (s d : List ℕ) (n : ℕ) → length d ≡ n → type_paper r ≡ answer_of (typing switch s d)
    → IfOk r (λ t. t.len ≤ n)
sheet_fits (Ok t) switch s d n l e = omega (arith, l, typed-fits d t.result t.len switch s e)
sheet_fits (Err why) switch s d n l e = tt
