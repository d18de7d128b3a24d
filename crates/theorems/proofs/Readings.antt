-- The readings of specs/Readings.antt hold, each table by one statement: document 01's at the bench, document 02's of measured operands, and the Rust's
-- tests of a walk over set bits.
-- Assumes nothing.
use mathlib.Core.Path.{◌≡◌, refl}
use Rattle.scalars.specs.Mask.{bits}
use Rattle.scalars.specs.Domain.{converts}
use Rattle.types.specs.Domain.{is_abstract, first_unknown}
use Rattle.types.specs.Conversion.{combination, agree, agreed, first_of, giver_of, consensus_of}
use Rattle.types.specs.TypeCode.{predeclared_code}
use Rattle.rules.specs.Signature.{reaches}
use Rattle.calls.specs.Choice.{narrow, resolve}
use Rattle.rules.specs.Rule.{rule_of}
use Rattle.regular.specs.Regular.{codes_of, concluded_of, regular_rules}
use Rattle.functions.specs.Sequences.{float_scalars, concrete_float_scalars, concrete_int_scalars, vector_sizes, vector, matrix, scalar_or_vecn}
use Rattle.functions.specs.ListedRules.{listed_rules}
use Rattle.functions.specs.Functions.{function_sets, function_set_of, listing_of}
use Rattle.calls.specs.Call.{call_of, survivors_of, survivors_of_call}
use Rattle.expressions.specs.Tree.{count, bytes_of, bytes_of_all}
use Rattle.expressions.specs.Reading.{args_at, leaf_at, call_at, tagged_at, node_at, expression_of}
use Rattle.machine.specs.Line.{encode}
use Rattle.worksheet.specs.Places.{starts}
use Rattle.worksheet.specs.Typer.{type_of, type_all}
use Rattle.worksheet.specs.Typing.{typing_of}
use Rattle.theorems.specs.Readings.{asked, paper, measured_asked, measured_paper, walked, tested}

pub readings : asked ≡ paper
unfolding asked paper bits converts is_abstract first_unknown combination agree agreed first_of giver_of consensus_of predeclared_code reaches narrow resolve rule_of codes_of concluded_of regular_rules float_scalars concrete_float_scalars concrete_int_scalars vector_sizes vector matrix scalar_or_vecn function_sets function_set_of listed_rules listing_of call_of survivors_of survivors_of_call args_at leaf_at call_at tagged_at node_at expression_of count bytes_of bytes_of_all starts type_of type_all encode typing_of
readings = refl

pub measured-readings : measured_asked ≡ measured_paper
unfolding measured_asked measured_paper bits converts is_abstract predeclared_code reaches narrow resolve rule_of codes_of concluded_of regular_rules float_scalars concrete_float_scalars concrete_int_scalars vector_sizes vector matrix scalar_or_vecn function_sets function_set_of listed_rules listing_of call_of args_at leaf_at call_at tagged_at node_at expression_of count bytes_of bytes_of_all starts type_of type_all encode typing_of
measured-readings = refl

pub walks : walked ≡ tested
unfolding walked tested bits
walks = refl
