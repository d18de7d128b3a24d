-- The paper's numbers determine how a run goes out: two answers with the same number, place and values are equal. Shown by reading an end
-- back. Assumes nothing.
use mathlib.Core.Path.{◌≡◌, refl, sym, ap, ◌∙◌}
use mathlib.Core.Bool.{Bool, true, false}
use mathlib.Core.List.{List, [], ◌∷◌}
use Prim.Native.Nat.{ℕ}
use native.Mathlib.Omega.{arith}
use lib.Dec.{ltb}
use lib.ListN.{get_or, drop}
use Rattle.std.specs.Prelude.{Option, Some, None, Result, Ok, Err}
use Rattle.scalars.specs.Mask.{choose}
use Rattle.scalars.specs.Paper.{Paper, place, values}
use Rattle.types.specs.Operand.{mark_of, operand_of}
use Rattle.types.specs.declared.operand.Operand.{Operand}
use Rattle.machine.specs.declared.machine.Ended.{Ended}
use Rattle.machine.specs.declared.machine.Stopped.{Stopped}
use Rattle.machine.specs.Run.{top_values, ended_paper, run_paper}

-- the topmost operand, where its mark is one
abbrev top_named : List ℕ → Option Operand
top_named vs = choose (ltb (get_or vs 1 0) 2) (Some (operand_of (get_or vs 0 0) (get_or vs 1 0))) None

some_back : (c : ℕ) (b : Bool) → top_named (c ∷ mark_of b ∷ []) ≡ Some (record { code = c; measured = b })
some_back c true = refl
some_back c false = refl

top_back : (o : Option Operand) → top_named (top_values o) ≡ o
top_back None = refl
top_back (Some o) = some_back o.code o.measured

abbrev ended_named : List ℕ → Ended
ended_named vs = record { operands = get_or vs 0 0; top = top_named (drop 1 vs) }

ended_back : (e : Ended) → ended_named (values (ended_paper e)) ≡ e
ended_back e = ap (λ (o : Option Operand). record { operands = e.operands; top = o }) (top_back e.top)

pub run-one : (a b : Result Ended Stopped) → run_paper a ≡ run_paper b → a ≡ b
run-one (Ok e) (Ok f) h = ap Ok (sym (ended_back e) ∙ ap (λ (p : Paper). ended_named (values p)) h ∙ ended_back f)
run-one (Ok e) (Err l) h = let z : ◌≡◌ {A = ℕ} 0 1 = cc in absurd (omega arith)
run-one (Err k) (Ok f) h = let z : ◌≡◌ {A = ℕ} 0 1 = cc in absurd (omega arith)
run-one (Err k) (Err l) h = ap (λ (n : ℕ). Err (record { 0 = n })) (ap place h)
