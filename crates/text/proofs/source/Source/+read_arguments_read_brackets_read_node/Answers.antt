-- `read_node`, `read_brackets` and `read_arguments`, which call each other, read what the definition does and write the bytes of what they
-- read: each way through them is a law of proofs/ReaderSteps.antt.
-- Assumes nothing.
use mathlib.Core.Path.{refl, ap}
use native.Mathlib.Omega.{arith}
use Rattle.std.proofs.Common.{Ok}
use Rattle.scalars.proofs.HandedOn.{handed_on}
use Rattle.names.proofs.WordPapers.{unknown-is}
use Rattle.text.specs.private.ReadStep.{NodeRead, ArgsRead}
use Rattle.text.proofs.ReaderSteps as steps
use Rattle.text.proofs.source.Source.+read_arguments_read_brackets_read_node.Goals as goal

-- ---- arguments

pub read_arguments-returns-in_err-one : goal.read_arguments-returns-in_err-one
read_arguments-returns-in_err-one t c =
    rw (handed_on c.from_residual.ensures.1) (steps.argument-fault _ _ _ _ _ _ c.requires.0 _ _ _ _ c.in_err-one.ensures)

pub read_arguments-read_arguments-requires : goal.read_arguments-read_arguments-requires
unfolding NodeRead
read_arguments-read_arguments-requires t c =
    let x = c.in_ok-one.ensures in
    (omega (arith, c.decreases, x.moves, c.in-Comma.ensures.place), (x.few, x.room))

pub read_arguments-returns-in_err-others-in-Comma : goal.read_arguments-returns-in_err-others-in-Comma
read_arguments-returns-in_err-others-in-Comma t c =
    rw (handed_on c.from_residual-in_err-others-in-Comma.ensures.1) (steps.others-fault _ _ _ _ _ _ c.requires.0 _ _ _ c.in_ok-one.ensures _ c.in-Comma.ensures.token _ refl _ _ _
    c.in_err-others-in-Comma.ensures)

pub read_arguments-overflow_add-result-in-Comma : goal.read_arguments-overflow_add-result-in-Comma
unfolding ArgsRead
read_arguments-overflow_add-result-in-Comma t c =
    let x = c.in_ok-others-in-Comma.ensures 65 (omega arith) in
    record { fits = omega (arith, x.grows, x.few) }

pub read_arguments-returns-in-Close : goal.read_arguments-returns-in-Close
read_arguments-returns-in-Close t c =
    steps.last-argument _ _ _ _ _ _ c.requires.0 _ _ _ c.in_ok-one.ensures _ c.in-Close.ensures.token _ refl

pub read_arguments-returns-in_ok-others-in-Comma : goal.read_arguments-returns-in_ok-others-in-Comma
read_arguments-returns-in_ok-others-in-Comma t c =
    steps.others _ _ _ _ _ _ c.requires.0 _ _ _ c.in_ok-one.ensures _ c.in-Comma.ensures.token _ refl _ _
    c.in_ok-others-in-Comma.ensures

pub read_arguments-returns-in_default : goal.read_arguments-returns-in_default
read_arguments-returns-in_default t c =
    steps.no_comma _ _ _ _ _ _ c.requires.0 _ _ _ c.in_ok-one.ensures _ c.next_token.ensures.token _ _
    (c.in_default.not-Close, c.in_default.not-Comma) c.place.ensures

-- ---- brackets

pub read_brackets-returns-in-Close : goal.read_brackets-returns-in-Close
read_brackets-returns-in-Close t c =
    steps.empty_brackets _ _ _ _ _ _ _ _ _ c.in-Open.ensures.token _ c.in-Close.ensures.token _ refl c.requires.0 c.requires.1
    refl

pub read_brackets-returns-in_default-next_token : goal.read_brackets-returns-in_default-next_token
read_brackets-returns-in_default-next_token t c =
    steps.full_brackets _ _ _ _ _ _ _ _ _ c.in-Open.ensures.token _ c.next_token-in-Open.ensures.token _
    c.in_default-next_token.not-Close c.read_arguments.ensures

pub read_brackets-returns-in_default : goal.read_brackets-returns-in_default
read_brackets-returns-in_default t c =
    steps.no_open _ _ _ _ _ _ _ _ _ _ c.next_token.ensures.token c.in_default.not-Open c.place.ensures

-- ---- a node

pub read_node-returns-then-nodes-ge-MOST_NODES : goal.read_node-returns-then-nodes-ge-MOST_NODES
read_node-returns-then-nodes-ge-MOST_NODES t c =
    steps.too_large _ _ _ _ _ _ _ _ _ _ c.in-Run.ensures.token c.then-nodes-ge-MOST_NODES.either

pub read_node-returns-then-is_measured : goal.read_node-returns-then-is_measured
read_node-returns-then-is_measured t c =
    steps.measured_node _ _ _ _ _ _ _ _ _ _ c.in-Run.ensures.token c.if-nodes-ge-MOST_NODES.false c.if-depth-gt-DEEPEST.false
    c.is_measured.ensures c.if-is_measured.true _ c.read_measured.ensures

pub read_node-returns-in_err-past-in-Some-FunctionName : goal.read_node-returns-in_err-past-in-Some-FunctionName
read_node-returns-in_err-past-in-Some-FunctionName t c =
    rw (handed_on c.from_residual.ensures.1) (steps.call-fault _ _ _ _ _ _ _ _ _ _ c.in-Run.ensures.token c.if-nodes-ge-MOST_NODES.false c.if-depth-gt-DEEPEST.false
    c.is_measured.ensures c.if-is_measured.false _ (steps.function_named _ _ c.in-Some-FunctionName.ensures _ c.in-Some-FunctionName.field-0-is) _ _
    c.in_err-past-in-Some-FunctionName.ensures)

pub read_node-overflow_cast-past : goal.read_node-overflow_cast-past
unfolding ArgsRead
read_node-overflow_cast-past t c =
    let x = c.in_ok-past-in-Some-FunctionName.ensures in
    omega (arith, x.grows, x.few)

pub read_node-returns-in-None : goal.read_node-returns-in-None
read_node-returns-in-None t c =
    steps.unknown_node _ _ _ _ _ _ _ _ _ _ c.in-Run.ensures.token c.if-nodes-ge-MOST_NODES.false c.if-depth-gt-DEEPEST.false
    c.is_measured.ensures c.if-is_measured.false (unknown-is _ c.in-None.ensures)

pub read_node-returns-in-Some-TypeName : goal.read_node-returns-in-Some-TypeName
read_node-returns-in-Some-TypeName t c =
    steps.leaf_node _ _ _ _ _ _ _ _ _ _ c.in-Run.ensures.token c.if-nodes-ge-MOST_NODES.false c.if-depth-gt-DEEPEST.false
    c.is_measured.ensures c.if-is_measured.false _ (steps.type_named _ _ c.in-Some-TypeName.ensures _ c.in-Some-TypeName.field-0-is) c.requires.1 _
    (ap Ok c.put_leaf.ensures.past) c.put_leaf.ensures.written

pub read_node-returns-in_ok-past-in-Some-FunctionName : goal.read_node-returns-in_ok-past-in-Some-FunctionName
read_node-returns-in_ok-past-in-Some-FunctionName t c =
    steps.call_node _ _ _ _ _ _ _ _ _ _ c.in-Run.ensures.token c.if-nodes-ge-MOST_NODES.false c.if-depth-gt-DEEPEST.false
    c.is_measured.ensures c.if-is_measured.false _ (steps.function_named _ _ c.in-Some-FunctionName.ensures _ c.in-Some-FunctionName.field-0-is) _ _
    c.in_ok-past-in-Some-FunctionName.ensures _ _ c.put.ensures c.put-in-Some-FunctionName.ensures
    c.put-in-Some-FunctionName-2.ensures

pub read_node-returns-in_default : goal.read_node-returns-in_default
read_node-returns-in_default t c =
    steps.no_run _ _ _ _ _ _ _ _ _ _ c.next_token.ensures.token c.in_default.not-Run c.place.ensures
