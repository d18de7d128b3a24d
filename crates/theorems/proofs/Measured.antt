-- No measured operand is ever abstract, as specs/Measured.antt states it: of the machine by proofs/MeasuredRuns.antt, of the typer by
-- proofs/MeasuredTypes.antt; and so over the 79 functions, whose rules proofs/MeasuredRules.antt tests. Assumes nothing.
use Rattle.functions.specs.Functions.{listing_of}
use Rattle.theorems.specs.Measured.{Measured, Theorem}
use Rattle.theorems.proofs.MeasuredRules.{of_functions}
use Rattle.theorems.proofs.MeasuredRuns.{lines_leave, bytes_leave}
use Rattle.theorems.proofs.MeasuredTypes.{expression-concrete, operands-concrete}

pub measured : Theorem
measured rules_of rules = record {
  lines = lines_leave rules_of rules;
  bytes = bytes_leave rules_of rules;
  expression = expression-concrete rules_of rules;
  operands = operands-concrete rules_of rules;
}

pub measured_functions : Measured listing_of
measured_functions = measured listing_of of_functions
