-- `read_measured` meets its contract: each way through it is a law of proofs/ReaderSteps.antt. Assumes nothing.
use mathlib.Core.Path.{ap}
use Rattle.std.proofs.Common.{Ok}
use Rattle.names.proofs.WordPapers.{unknown-is}
use Rattle.text.proofs.ReaderSteps as steps
use Rattle.text.proofs.source.Source.read_measured.Goals as goal

pub returns-in-Some-TypeName : goal.returns-in-Some-TypeName
returns-in-Some-TypeName c =
    steps.measured_type _ _ _ _ _ _ _ _ _ c.in-Run.ensures.token _
    (steps.type_named _ _ c.in-Some-TypeName.ensures _ c.in-Some-TypeName.field-0-is) c.requires _
    (ap Ok c.put_leaf.ensures.past) c.put_leaf.ensures.written

pub returns-in-Some-FunctionName : goal.returns-in-Some-FunctionName
returns-in-Some-FunctionName c =
    steps.function_type _ _ _ _ _ _ _ _ _ c.in-Run.ensures.token _
    (steps.function_named _ _ c.in-Some-FunctionName.ensures _ c.in-Some-FunctionName.field-0-is)

pub returns-in-None : goal.returns-in-None
returns-in-None c =
    steps.unknown_type _ _ _ _ _ _ _ _ _ c.in-Run.ensures.token
    (unknown-is _ c.in-None.ensures)

pub returns-in_default : goal.returns-in_default
returns-in_default c = steps.no_type _ _ _ _ _ _ _ _ _ c.next_token.ensures.token c.in_default.not-Run c.place.ensures
