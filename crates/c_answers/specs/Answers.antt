-- The struct of an answer, from the number, the place and the values that its paper gives; a value that is not there is 255. A mark is 0
-- for constant, 1 for measured, 255 where there is none.
use Rattle.scalars.specs.Paper.{Paper, number, place, value}
use Rattle.c_answers.specs.declared.answers.ChosenForC.{ChosenForC}
use Rattle.c_answers.specs.declared.answers.RuleForC.{RuleForC}
use Rattle.c_answers.specs.declared.answers.RegularForC.{RegularForC}
use Rattle.c_answers.specs.declared.answers.ConsensusForC.{ConsensusForC}
use Rattle.c_answers.specs.declared.answers.TextForC.{TextForC}
use Rattle.c_answers.specs.declared.answers.TypeForC.{TypeForC}
use Rattle.c_answers.specs.declared.answers.RunForC.{RunForC}
use Rattle.c_answers.specs.declared.answers.MaskForC.{MaskForC}

-- a chosen rule: its index, the four arguments, their count, the result; and the call's mark
unfoldable pub chosen_for_c : Paper → ChosenForC
chosen_for_c p =
    record { number = number p; index = value 0 p; a0 = value 1 p; a1 = value 2 p; a2 = value 3 p; a3 = value 4 p; count = value 5 p; result = value 6 p; mark = value 7 p; place = place p }

-- a rule: the four arguments, their count, the result
unfoldable pub rule_for_c : Paper → RuleForC
rule_for_c p =
    record { number = number p; a0 = value 0 p; a1 = value 1 p; a2 = value 2 p; a3 = value 3 p; count = value 4 p; result = value 5 p; place = place p }

-- a Regular set: the arity, the masks of constructors and scalars, the conclusion's number
unfoldable pub regular_for_c : Paper → RegularForC
regular_for_c p = record { number = number p; arity = value 0 p; constructors = value 1 p; scalars = value 2 p; conclusion = value 3 p; place = place p }

-- a consensus: its scalar, the giver's kind, the component's number
unfoldable pub consensus_for_c : Paper → ConsensusForC
consensus_for_c p = record { number = number p; scalar = value 0 p; giver = value 1 p; component = value 2 p; place = place p }

-- the type of an expression, its mark, and its worksheet's length
unfoldable pub type_for_c : Paper → TypeForC
type_for_c p = record { number = number p; code = value 0 p; mark = value 1 p; length = value 2 p; place = place p }

-- a text read or written: how many bytes were put into the lent ones
unfoldable pub text_for_c : Paper → TextForC
text_for_c p = record { number = number p; length = value 0 p; place = place p }

-- a run: how many operands are left, and the topmost one's type and mark
unfoldable pub run_for_c : Paper → RunForC
run_for_c p = record { number = number p; top = value 1 p; mark = value 2 p; operands = value 0 p; place = place p }

-- an answer whose value stands in lent bytes
unfoldable pub mask_for_c : Paper → MaskForC
mask_for_c p = record { number = number p; place = place p }
