-- How a run of the strict machine goes out: the paper of `run_worksheet`'s answer, and what it is for each outcome.
use Rattle.std.specs.Prelude.{List, [], ◌∷◌, ℕ, length, Some, None, Ok, Err}
use Rattle.std.specs.declared.option.Option.{Option}
use Rattle.std.specs.declared.result.Result.{Result}
use Rattle.scalars.specs.Mask.{head_or}
use Rattle.types.specs.Operand.{mark_of, codes, marks}
use Rattle.types.specs.declared.operand.Operand.{Operand}
use Rattle.scalars.specs.Paper.{Paper, accepted, refusal, unused}
use Rattle.machine.specs.declared.machine.Ended.{Ended}
use Rattle.machine.specs.declared.machine.Stopped.{Stopped}
use Rattle.machine.specs.Machine.{Outcome, ended, stopped}

-- a stop is no refusal of the table: it has a number of its own, and the line as its place
abbrev pub stop_number : ℕ
stop_number = 255

-- an end: how many operands are left and the topmost one's type and mark, 255 where there is none
abbrev pub no_run : List ℕ
no_run = unused ∷ unused ∷ unused ∷ []

abbrev pub top_type : Option Operand → ℕ
top_type (Some o) = o.code
top_type None = unused

abbrev pub top_mark : Option Operand → ℕ
top_mark (Some o) = mark_of o.measured
top_mark None = unused

abbrev pub top_values : Option Operand → List ℕ
top_values o = top_type o ∷ top_mark o ∷ []

abbrev pub ended_paper : Ended → Paper
ended_paper e = accepted (e.operands ∷ top_values e.top)

abbrev pub run_paper : Result Ended Stopped → Paper
run_paper (Ok e) = ended_paper e
run_paper (Err at) = refusal stop_number at.0 no_run

abbrev pub ran_of : Outcome → Paper
ran_of (ended s) = accepted (length s ∷ head_or unused (codes s) ∷ head_or unused (marks s) ∷ [])
ran_of (stopped n) = refusal stop_number n no_run
