-- How a run goes out: the machine whose stack has its top last, stopped at a line or come to the end of the bytes, tells how the strict
-- machine goes out; and a line that was done leaves it the same run from the next line on.
-- Assumes nothing.
use mathlib.Core.Path.{◌≡◌, sym, ap, ◌∙◌}
use mathlib.Core.List.{List, [], reverse, reverse-reverse}
use mathlib.Core.Option.{Option, none, some}
use Prim.Native.Nat.{ℕ, suc, ◌+◌, ◌-◌, ◌≤◌, ◌<◌}
use native.Mathlib.Numerals.{add-one}
use native.Mathlib.Omega.{arith}
use lib.ListN.{length, get_or, take, drop, length-drop}
use Rattle.std.proofs.lemmas.List.{take_all}
use Rattle.types.specs.declared.operand.Operand.{Operand}
use Rattle.rules.specs.Signature.{Signature}
use Rattle.scalars.specs.Paper.{refusal}
use Rattle.machine.specs.Line.{Line, line_of, lines_of}
use Rattle.machine.specs.Machine.{Outcome, ended, stopped, next, step_if, run_bytes}
use Rattle.machine.specs.private.TopLast.{step_last}
use Rattle.machine.specs.Run.{stop_number, no_run, ran_of}
use Rattle.machine.specs.private.MachineStack.{ran_last}
use Rattle.machine.proofs.TopLast.{turned, run_last, top_last}
use Rattle.machine.proofs.Walk.{lines_end, lines-partial, lines_next}

clash : {A : Type 0} {s : List Operand} {n : ℕ} → ended s ≡ stopped n → A
clash e = absurd (let z : ◌≡◌ {A = ℕ} 0 1 = cc in omega arith)

ended_ran : (o : Outcome) (s : List Operand) → ended s ≡ turned o → ran_last s ≡ ran_of o
ended_ran (ended s') s e =
    let p : s ≡ reverse s' = cc in
    ap (λ (l : List Operand). ran_of (ended l)) (ap reverse p ∙ reverse-reverse s')
ended_ran (stopped n) s e = clash e

stopped_ran : (o : Outcome) (n : ℕ) → stopped n ≡ turned o → refusal stop_number n no_run ≡ ran_of o
stopped_ran (ended s) n e = clash (sym e)
stopped_ran (stopped m) n e = cc

-- what the first line of bytes does to a stack
abbrev pub first_line : (ℕ → List Signature) → List ℕ → List Operand → Option (List Operand)
first_line listing_of bs s = step_if (step_last listing_of) (line_of (get_or bs 0 0) (get_or bs 1 0) (get_or bs 2 0) (get_or bs 3 0)) s

-- the bytes behind it
abbrev pub behind_line : List ℕ → List ℕ
behind_line bs = take (length bs - 4) (drop 4 bs)

behind-is : (bs : List ℕ) → behind_line bs ≡ drop 4 bs
behind-is bs = take_all (length bs - 4) (drop 4 bs) (omega (arith, length-drop 4 bs))

pub lines-counted : (bs : List ℕ) (n most : ℕ) → 4 ≤ length bs → n + length bs ≤ most → n + 1 + length (behind_line bs) ≤ most
lines-counted bs n most h few = omega (arith, ap length (behind-is bs), length-drop 4 bs)

module _ (listing_of : ℕ → List Signature) (sheet bs : List ℕ) (n : ℕ) (s : List Operand)
    (inv : run_last listing_of (lines_of bs) n s ≡ run_last listing_of (lines_of sheet) 0 []) where
  -- the run over these bytes goes out as the whole run does
  from : {os : List (Option Line)} → lines_of bs ≡ os → run_last listing_of os n s ≡ turned (run_bytes listing_of sheet)
  from e = ap (λ (os : List (Option Line)). run_last listing_of os n s) (sym e) ∙ inv ∙ top_last listing_of sheet

  pub run-ended : length bs ≡ 0 → ran_last s ≡ ran_of (run_bytes listing_of sheet)
  run-ended h = ended_ran (run_bytes listing_of sheet) s (from (lines_end bs h))

  pub run-partial : 0 < length bs → length bs < 4 → refusal stop_number n no_run ≡ ran_of (run_bytes listing_of sheet)
  run-partial h l = stopped_ran (run_bytes listing_of sheet) n (from (lines-partial bs h l))

  module _ (whole : 4 ≤ length bs) where
    one_line : {o : Option (List Operand)} → o ≡ first_line listing_of bs s
        → next n (λ (s' : List Operand). run_last listing_of (lines_of (drop 4 bs)) (suc n) s') o ≡ turned (run_bytes listing_of sheet)
    one_line e = ap (next n (λ (s' : List Operand). run_last listing_of (lines_of (drop 4 bs)) (suc n) s')) e ∙ from (lines_next bs whole)

    pub run-stopped : none ≡ first_line listing_of bs s → refusal stop_number n no_run ≡ ran_of (run_bytes listing_of sheet)
    run-stopped e = stopped_ran (run_bytes listing_of sheet) n (one_line e)

    pub run-next : (s' : List Operand) → some s' ≡ first_line listing_of bs s
        → run_last listing_of (lines_of (behind_line bs)) (n + 1) s' ≡ run_last listing_of (lines_of sheet) 0 []
    run-next s' e = rw (behind-is bs, add-one) (one_line e ∙ sym (top_last listing_of sheet))
