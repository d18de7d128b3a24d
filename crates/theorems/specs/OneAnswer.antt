-- 'What each answer must determine': each public function's promise determines its entire answer and the final contents of every lent
-- slice, refusals included. Said of each function's contract itself: take any arguments, and any two answers, each with the contents that
-- lent slices hold at the end, that the `ensures` clauses permit of these arguments; then the answers are equal, and so are the contents.
use Rattle.std.specs.Prelude.{◌≡◌}
use Rattle.theorems.specs.ByContract.{Ended, Post, Lfts, Args, Res, Lasts, at_exit}
use Rattle.scalars.specs.contracts as scalars
use Rattle.scalars.proofs as scalars_proofs
use Rattle.scalars.specs.contracts.one_bits_iter as one_bits_iter
use Rattle.scalars.proofs.one_bits_iter as one_bits_iter_proofs
use Rattle.scalars.specs.contracts.refusal as refusal
use Rattle.scalars.proofs.refusal as refusal_proofs
use Rattle.scalars.specs.contracts.scalar_set as scalar_set
use Rattle.scalars.proofs.scalar_set as scalar_set_proofs
use Rattle.types.specs.contracts as types
use Rattle.types.proofs as types_proofs
use Rattle.types.specs.contracts.constructor_set as constructor_set
use Rattle.types.proofs.constructor_set as constructor_set_proofs
use Rattle.types.specs.contracts.operand as operand
use Rattle.types.proofs.operand as operand_proofs
use Rattle.expressions.specs.contracts as expressions
use Rattle.expressions.proofs as expressions_proofs
use Rattle.rules.specs.contracts as rules
use Rattle.rules.proofs as rules_proofs
use Rattle.rules.specs.contracts.rule as rule
use Rattle.rules.proofs.rule as rule_proofs
use Rattle.regular.specs.contracts.regular as regular
use Rattle.regular.proofs.regular as regular_proofs
use Rattle.functions.specs.contracts as functions
use Rattle.functions.proofs as functions_proofs
use Rattle.lists.specs.contracts as lists
use Rattle.lists.proofs as lists_proofs
use Rattle.lists.specs.contracts.any_overload_set as any_overload_set
use Rattle.lists.proofs.any_overload_set as any_overload_set_proofs
use Rattle.lists.specs.contracts.list as list
use Rattle.lists.proofs.list as list_proofs
use Rattle.calls.specs.contracts as calls
use Rattle.calls.proofs as calls_proofs
use Rattle.calls.specs.contracts.outcome as outcome
use Rattle.calls.proofs.outcome as outcome_proofs
use Rattle.lending.specs.contracts as lending
use Rattle.lending.proofs as lending_proofs
use Rattle.names.specs.contracts as names
use Rattle.names.proofs as names_proofs
use Rattle.text.specs.contracts as text
use Rattle.text.proofs as text_proofs
use Rattle.c_sets.specs.contracts as c_sets
use Rattle.c_sets.proofs as c_sets_proofs
use Rattle.c_sets.specs.contracts.list_parts as list_parts
use Rattle.c_sets.proofs.list_parts as list_parts_proofs
use Rattle.c_sets.specs.contracts.regular_parts as regular_parts
use Rattle.c_sets.proofs.regular_parts as regular_parts_proofs
use Rattle.machine.specs.contracts as machine
use Rattle.machine.proofs as machine_proofs
use Rattle.worksheet.specs.contracts as worksheet
use Rattle.worksheet.proofs as worksheet_proofs
use Rattle.c_answers.specs.contracts.from_answers as from_answers
use Rattle.c_answers.proofs.from_answers as from_answers_proofs
use Rattle.azwukran.specs.contracts as azwukran
use Rattle.azwukran.proofs as azwukran_proofs

-- of a function's parameters and result, and of what its clauses permit; v and w are what lent slices hold at the end
abbrev pub OneAnswer : (T : Ended) → Post T → Type 0
OneAnswer T post =
    (κs : Lfts T.signature.lifetimes) (a : Args T.signature κs) (x y : Res T.signature κs) (v w : Lasts T κs a)
    → post κs a x (at_exit T κs a v) → post κs a y (at_exit T κs a w) → (x ≡ y) × (v ≡ w)

-- each public function, by crate
pub record EachFunction : Type 0 where
  -- scalars
  pub «OneBitsIter::next» : OneAnswer one_bits_iter.OneBitsIterIterator.next.ended one_bits_iter_proofs.OneBitsIterIterator.next.Reads.Post
  pub «OneBit::number» : OneAnswer one_bits_iter.OneBit.number.ended one_bits_iter_proofs.OneBit.number.Reads.Post
  pub «members_of» : OneAnswer scalars.members_of.ended scalars_proofs.members_of.Reads.Post
  pub «members_within» : OneAnswer scalars.members_within.ended scalars_proofs.members_within.Reads.Post
  pub «Refusal::number» : OneAnswer refusal.Refusal.number.ended refusal_proofs.Refusal.number.Reads.Post
  pub «Refusal::place» : OneAnswer refusal.Refusal.place.ended refusal_proofs.Refusal.place.Reads.Post
  pub «ScalarSet::singleton» : OneAnswer scalar_set.ScalarSet.singleton.ended scalar_set_proofs.ScalarSet.singleton.Reads.Post
  pub «ScalarSet::convertible_from» : OneAnswer scalar_set.ScalarSet.convertible_from.ended scalar_set_proofs.ScalarSet.convertible_from.Reads.Post
  pub «ScalarSet::meet» : OneAnswer scalar_set.ScalarSet.meet.ended scalar_set_proofs.ScalarSet.meet.Reads.Post
  pub «ScalarSet::contains» : OneAnswer scalar_set.ScalarSet.contains.ended scalar_set_proofs.ScalarSet.contains.Reads.Post
  pub «ScalarSet::most_general_scalar» : OneAnswer scalar_set.ScalarSet.most_general_scalar.ended scalar_set_proofs.ScalarSet.most_general_scalar.Reads.Post
  pub «ScalarSet::members» : OneAnswer scalar_set.ScalarSet.members.ended scalar_set_proofs.ScalarSet.members.Reads.Post
  pub «ScalarSet::named» : OneAnswer scalar_set.ScalarSet.named.ended scalar_set_proofs.ScalarSet.named.Reads.Post
  -- types
  pub «ConstructorSet::singleton» : OneAnswer constructor_set.ConstructorSet.singleton.ended constructor_set_proofs.ConstructorSet.singleton.Reads.Post
  pub «ConstructorSet::meet» : OneAnswer constructor_set.ConstructorSet.meet.ended constructor_set_proofs.ConstructorSet.meet.Reads.Post
  pub «ConstructorSet::is_singleton» : OneAnswer constructor_set.ConstructorSet.is_singleton.ended constructor_set_proofs.ConstructorSet.is_singleton.Reads.Post
  pub «ConstructorSet::members» : OneAnswer constructor_set.ConstructorSet.members.ended constructor_set_proofs.ConstructorSet.members.Reads.Post
  pub «Constructor::size» : OneAnswer constructor_set.Constructor.size.ended constructor_set_proofs.Constructor.size.Reads.Post
  pub «ConstructorSet::size» : OneAnswer constructor_set.ConstructorSet.size.ended constructor_set_proofs.ConstructorSet.size.Reads.Post
  pub «ConstructorSet::vecn» : OneAnswer constructor_set.ConstructorSet.vecn.ended constructor_set_proofs.ConstructorSet.vecn.Reads.Post
  pub «ConstructorSize::constructor» : OneAnswer constructor_set.ConstructorSize.constructor.ended constructor_set_proofs.ConstructorSize.constructor.Reads.Post
  pub «ConstructorSize::to_inner» : OneAnswer constructor_set.ConstructorSize.to_inner.ended constructor_set_proofs.ConstructorSize.to_inner.Reads.Post
  pub «automatically_converts_to» : OneAnswer types.automatically_converts_to.ended types_proofs.automatically_converts_to.Reads.Post
  pub «automatic_conversion_combine» : OneAnswer types.automatic_conversion_combine.ended types_proofs.automatic_conversion_combine.Reads.Post
  pub «automatic_conversion_consensus» : OneAnswer types.automatic_conversion_consensus.ended types_proofs.automatic_conversion_consensus.Reads.Post
  pub «code_of» : OneAnswer types.code_of.ended types_proofs.code_of.Reads.Post
  pub «leaf_scalar» : OneAnswer types.leaf_scalar.ended types_proofs.leaf_scalar.Reads.Post
  pub «is_abstract» : OneAnswer types.is_abstract.ended types_proofs.is_abstract.Reads.Post
  -- expressions
  pub «read_expression» : OneAnswer expressions.read_expression.ended expressions_proofs.read_expression.Reads.Post
  pub «Operand::of» : OneAnswer operand.Operand.of.ended operand_proofs.Operand.of.Reads.Post
  pub «Operand::mark» : OneAnswer operand.Operand.mark.ended operand_proofs.Operand.mark.Reads.Post
  pub «Operand::is_measured_abstract» : OneAnswer operand.Operand.is_measured_abstract.ended operand_proofs.Operand.is_measured_abstract.Reads.Post
  pub «any_measured» : OneAnswer types.any_measured.ended types_proofs.any_measured.Reads.Post
  pub «concrete_only» : OneAnswer types.concrete_only.ended types_proofs.concrete_only.Reads.Post
  -- rules
  pub «no_rules» : OneAnswer rules.no_rules.ended rules_proofs.no_rules.Reads.Post
  pub «no_codes» : OneAnswer rules.no_codes.ended rules_proofs.no_codes.Reads.Post
  pub «Rule::checked» : OneAnswer rule.Rule.checked.ended rule_proofs.Rule.checked.Reads.Post
  pub «Rule::known» : OneAnswer rule.Rule.known.ended rule_proofs.Rule.known.Reads.Post
  pub «Rule::cleaned» : OneAnswer rule.Rule.cleaned.ended rule_proofs.Rule.cleaned.Reads.Post
  pub «Rule::len» : OneAnswer rule.Rule.len.ended rule_proofs.Rule.len.Reads.Post
  pub «Rule::passes» : OneAnswer rule.Rule.passes.ended rule_proofs.Rule.passes.Reads.Post
  pub «Rule::argument» : OneAnswer rule.Rule.argument.ended rule_proofs.Rule.argument.Reads.Post
  pub «reaches» : OneAnswer rules.reaches.ended rules_proofs.reaches.Reads.Post
  pub «for_frexp_modf» : OneAnswer rules.for_frexp_modf.ended rules_proofs.for_frexp_modf.Reads.Post
  -- regular
  pub «Regular::verdict» : OneAnswer regular.Regular.verdict.ended regular_proofs.Regular.verdict.Reads.Post
  pub «Regular::is_empty» : OneAnswer regular.Regular.is_empty.ended regular_proofs.Regular.is_empty.Reads.Post
  pub «Regular::holds_none» : OneAnswer regular.Regular.holds_none.ended regular_proofs.Regular.holds_none.Reads.Post
  pub «Regular::min_arguments» : OneAnswer regular.Regular.min_arguments.ended regular_proofs.Regular.min_arguments.Reads.Post
  pub «Regular::max_arguments» : OneAnswer regular.Regular.max_arguments.ended regular_proofs.Regular.max_arguments.Reads.Post
  pub «Regular::arg» : OneAnswer regular.Regular.arg.ended regular_proofs.Regular.arg.Reads.Post
  pub «Regular::narrow» : OneAnswer regular.Regular.narrow.ended regular_proofs.Regular.narrow.Reads.Post
  pub «Regular::concrete_only» : OneAnswer regular.Regular.concrete_only.ended regular_proofs.Regular.concrete_only.Reads.Post
  pub «Regular::concrete» : OneAnswer regular.Regular.concrete.ended regular_proofs.Regular.concrete.Reads.Post
  pub «Regular::most_preferred» : OneAnswer regular.Regular.most_preferred.ended regular_proofs.Regular.most_preferred.Reads.Post
  pub «Regular::rule_of» : OneAnswer regular.Regular.rule_of.ended regular_proofs.Regular.rule_of.Reads.Post
  pub «Regular::overload_list» : OneAnswer regular.Regular.overload_list.ended regular_proofs.Regular.overload_list.Reads.Post
  pub «Regular::allowed_args» : OneAnswer regular.Regular.allowed_args.ended regular_proofs.Regular.allowed_args.Reads.Post
  pub «ConclusionRule::try_from» : OneAnswer regular.ConclusionRuleTryFromU8.try_from.ended regular_proofs.ConclusionRuleTryFromU8.try_from.Reads.Post
  pub «u8::from» : OneAnswer regular.U8FromConclusionRule.from.ended regular_proofs.U8FromConclusionRule.from.Reads.Post
  -- functions
  pub «rule_at» : OneAnswer functions.rule_at.ended functions_proofs.rule_at.Reads.Post
  pub «rule_count» : OneAnswer functions.rule_count.ended functions_proofs.rule_count.Reads.Post
  pub «listed_rule» : OneAnswer functions.listed_rule.ended functions_proofs.listed_rule.Reads.Post
  pub «function_set» : OneAnswer functions.function_set.ended functions_proofs.function_set.Reads.Post
  pub «rule_total» : OneAnswer functions.rule_total.ended functions_proofs.rule_total.Reads.Post
  -- lists
  pub «AnyOverloadSet::from_regular» : OneAnswer any_overload_set.AnyOverloadSet.from_regular.ended any_overload_set_proofs.AnyOverloadSet.from_regular.Reads.Post
  pub «AnyOverloadSet::from_list» : OneAnswer any_overload_set.AnyOverloadSet.from_list.ended any_overload_set_proofs.AnyOverloadSet.from_list.Reads.Post
  pub «AnyOverloadSet::is_empty» : OneAnswer any_overload_set.AnyOverloadSet.is_empty.ended any_overload_set_proofs.AnyOverloadSet.is_empty.Reads.Post
  pub «AnyOverloadSet::min_arguments» : OneAnswer any_overload_set.AnyOverloadSet.min_arguments.ended any_overload_set_proofs.AnyOverloadSet.min_arguments.Reads.Post
  pub «AnyOverloadSet::max_arguments» : OneAnswer any_overload_set.AnyOverloadSet.max_arguments.ended any_overload_set_proofs.AnyOverloadSet.max_arguments.Reads.Post
  pub «AnyOverloadSet::arg» : OneAnswer any_overload_set.AnyOverloadSet.arg.ended any_overload_set_proofs.AnyOverloadSet.arg.Reads.Post
  pub «AnyOverloadSet::concrete_only» : OneAnswer any_overload_set.AnyOverloadSet.concrete_only.ended any_overload_set_proofs.AnyOverloadSet.concrete_only.Reads.Post
  pub «AnyOverloadSet::most_preferred» : OneAnswer any_overload_set.AnyOverloadSet.most_preferred.ended any_overload_set_proofs.AnyOverloadSet.most_preferred.Reads.Post
  pub «AnyOverloadSet::overload_list» : OneAnswer any_overload_set.AnyOverloadSet.overload_list.ended any_overload_set_proofs.AnyOverloadSet.overload_list.Reads.Post
  pub «AnyOverloadSet::allowed_args» : OneAnswer any_overload_set.AnyOverloadSet.allowed_args.ended any_overload_set_proofs.AnyOverloadSet.allowed_args.Reads.Post
  pub «expand» : OneAnswer lists.expand.ended lists_proofs.expand.Reads.Post
  pub «List::from_rules» : OneAnswer list.List.from_rules.ended list_proofs.List.from_rules.Reads.Post
  pub «List::checked» : OneAnswer list.List.checked.ended list_proofs.List.checked.Reads.Post
  pub «List::arg» : OneAnswer list.List.arg.ended list_proofs.List.arg.Reads.Post
  pub «List::concrete_only» : OneAnswer list.List.concrete_only.ended list_proofs.List.concrete_only.Reads.Post
  pub «List::is_empty» : OneAnswer list.List.is_empty.ended list_proofs.List.is_empty.Reads.Post
  pub «List::min_arguments» : OneAnswer list.List.min_arguments.ended list_proofs.List.min_arguments.Reads.Post
  pub «List::max_arguments» : OneAnswer list.List.max_arguments.ended list_proofs.List.max_arguments.Reads.Post
  pub «List::most_preferred» : OneAnswer list.List.most_preferred.ended list_proofs.List.most_preferred.Reads.Post
  pub «List::overload_list» : OneAnswer list.List.overload_list.ended list_proofs.List.overload_list.Reads.Post
  pub «List::allowed_args» : OneAnswer list.List.allowed_args.ended list_proofs.List.allowed_args.Reads.Post
  pub «List::rule» : OneAnswer list.List.rule.ended list_proofs.List.rule.Reads.Post
  pub «filter» : OneAnswer lists.filter.ended lists_proofs.filter.Reads.Post
  pub «filter_both» : OneAnswer lists.filter_both.ended lists_proofs.filter_both.Reads.Post
  pub «longest» : OneAnswer lists.longest.ended lists_proofs.longest.Reads.Post
  -- calls
  pub «call_of» : OneAnswer calls.call_of.ended calls_proofs.call_of.Reads.Post
  pub «outcome_of» : OneAnswer calls.outcome_of.ended calls_proofs.outcome_of.Reads.Post
  pub «survivors_of» : OneAnswer calls.survivors_of.ended calls_proofs.survivors_of.Reads.Post
  pub «full_list» : OneAnswer calls.full_list.ended calls_proofs.full_list.Reads.Post
  pub «Refusal::from» : OneAnswer outcome.RefusalFromNoRule.from.ended outcome_proofs.RefusalFromNoRule.from.Reads.Post
  pub «none_left» : OneAnswer calls.none_left.ended calls_proofs.none_left.Reads.Post
  -- lending
  pub «lend_bytes» : OneAnswer lending.lend_bytes.ended lending_proofs.lend_bytes.Reads.Post
  pub «mask_in» : OneAnswer lending.mask_in.ended lending_proofs.mask_in.Reads.Post
  pub «lend_mask» : OneAnswer lending.lend_mask.ended lending_proofs.lend_mask.Reads.Post
  -- names
  pub «built_in_names» : OneAnswer names.built_in_names.ended names_proofs.built_in_names.Reads.Post
  pub «built_in_index» : OneAnswer names.built_in_index.ended names_proofs.built_in_index.Reads.Post
  -- of a part that is handed out, its bytes: no contract speaks of where they stand
  pub «spelling» : (κs : Lfts (names.spelling.ended).signature.lifetimes) (a : Args (names.spelling.ended).signature κs)
      (x y : Res (names.spelling.ended).signature κs) (v w : Lasts names.spelling.ended κs a)
      → names_proofs.spelling.Reads.Post κs a x (at_exit names.spelling.ended κs a v)
      → names_proofs.spelling.Reads.Post κs a y (at_exit names.spelling.ended κs a w) → (x.now ≡ y.now) × (v ≡ w)
  pub «word_of» : OneAnswer names.word_of.ended names_proofs.word_of.Reads.Post
  pub «measured_name» : OneAnswer names.measured_name.ended names_proofs.measured_name.Reads.Post
  pub «is_measured» : OneAnswer names.is_measured.ended names_proofs.is_measured.Reads.Post
  -- text
  pub «read_text» : OneAnswer text.read_text.ended text_proofs.read_text.Reads.Post
  pub «write_text» : OneAnswer text.write_text.ended text_proofs.write_text.Reads.Post
  -- c_sets
  pub «ListParts::arg» : OneAnswer list_parts.ListParts.arg.ended list_parts_proofs.ListParts.arg.Reads.Post
  pub «ListParts::concrete_only» : OneAnswer list_parts.ListParts.concrete_only.ended list_parts_proofs.ListParts.concrete_only.Reads.Post
  pub «ListParts::preferred» : OneAnswer list_parts.ListParts.preferred.ended list_parts_proofs.ListParts.preferred.Reads.Post
  pub «rules_in» : OneAnswer c_sets.rules_in.ended c_sets_proofs.rules_in.Reads.Post
  pub «RegularParts::set» : OneAnswer regular_parts.RegularParts.set.ended regular_parts_proofs.RegularParts.set.Reads.Post
  pub «RegularParts::arg» : OneAnswer regular_parts.RegularParts.arg.ended regular_parts_proofs.RegularParts.arg.Reads.Post
  pub «RegularParts::concrete_only» : OneAnswer regular_parts.RegularParts.concrete_only.ended regular_parts_proofs.RegularParts.concrete_only.Reads.Post
  pub «RegularParts::preferred» : OneAnswer regular_parts.RegularParts.preferred.ended regular_parts_proofs.RegularParts.preferred.Reads.Post
  pub «RegularParts::rule» : OneAnswer regular_parts.RegularParts.rule.ended regular_parts_proofs.RegularParts.rule.Reads.Post
  -- machine
  pub «run_worksheet» : OneAnswer machine.run_worksheet.ended machine_proofs.run_worksheet.Reads.Post
  -- worksheet
  pub «type_expression» : OneAnswer worksheet.type_expression.ended worksheet_proofs.type_expression.Reads.Post
  -- c_answers
  pub «ChosenForC::from::Chosen» : OneAnswer from_answers.ChosenForCFromResultChosenRefusal.from.ended from_answers_proofs.ChosenForCFromResultChosenRefusal.from.Reads.Post
  pub «ChosenForC::from::Called» : OneAnswer from_answers.ChosenForCFromResultCalledRefusal.from.ended from_answers_proofs.ChosenForCFromResultCalledRefusal.from.Reads.Post
  pub «RuleForC::from» : OneAnswer from_answers.RuleForCFromResultRuleRefusal.from.ended from_answers_proofs.RuleForCFromResultRuleRefusal.from.Reads.Post
  pub «RegularForC::from» : OneAnswer from_answers.RegularForCFromResultRegularRefusal.from.ended from_answers_proofs.RegularForCFromResultRegularRefusal.from.Reads.Post
  pub «ConsensusForC::from» : OneAnswer from_answers.ConsensusForCFromResultConsensusRefusal.from.ended from_answers_proofs.ConsensusForCFromResultConsensusRefusal.from.Reads.Post
  pub «TextForC::from» : OneAnswer from_answers.TextForCFromResultUsizeRefusal.from.ended from_answers_proofs.TextForCFromResultUsizeRefusal.from.Reads.Post
  pub «MaskForC::from» : OneAnswer from_answers.MaskForCFromResultUnitRefusal.from.ended from_answers_proofs.MaskForCFromResultUnitRefusal.from.Reads.Post
  -- azwukran
  pub «azwukran_list_arg_shape» : OneAnswer azwukran.azwukran_list_arg_shape.ended azwukran_proofs.azwukran_list_arg_shape.Reads.Post
  pub «azwukran_list_arg_number» : OneAnswer azwukran.azwukran_list_arg_number.ended azwukran_proofs.azwukran_list_arg_number.Reads.Post
  pub «azwukran_list_concrete_only» : OneAnswer azwukran.azwukran_list_concrete_only.ended azwukran_proofs.azwukran_list_concrete_only.Reads.Post
  pub «azwukran_list_preferred» : OneAnswer azwukran.azwukran_list_preferred.ended azwukran_proofs.azwukran_list_preferred.Reads.Post
  pub «azwukran_regular_arg_shape» : OneAnswer azwukran.azwukran_regular_arg_shape.ended azwukran_proofs.azwukran_regular_arg_shape.Reads.Post
  pub «azwukran_regular_arg_number» : OneAnswer azwukran.azwukran_regular_arg_number.ended azwukran_proofs.azwukran_regular_arg_number.Reads.Post
  pub «azwukran_regular_concrete_only» : OneAnswer azwukran.azwukran_regular_concrete_only.ended azwukran_proofs.azwukran_regular_concrete_only.Reads.Post
  pub «azwukran_regular_preferred» : OneAnswer azwukran.azwukran_regular_preferred.ended azwukran_proofs.azwukran_regular_preferred.Reads.Post
  pub «azwukran_regular_rule» : OneAnswer azwukran.azwukran_regular_rule.ended azwukran_proofs.azwukran_regular_rule.Reads.Post
  pub «azwukran_call» : OneAnswer azwukran.azwukran_call.ended azwukran_proofs.azwukran_call.Reads.Post
  pub «azwukran_survivors» : OneAnswer azwukran.azwukran_survivors.ended azwukran_proofs.azwukran_survivors.Reads.Post
  pub «azwukran_rule» : OneAnswer azwukran.azwukran_rule.ended azwukran_proofs.azwukran_rule.Reads.Post
  pub «azwukran_consensus» : OneAnswer azwukran.azwukran_consensus.ended azwukran_proofs.azwukran_consensus.Reads.Post
  pub «azwukran_type» : OneAnswer azwukran.azwukran_type.ended azwukran_proofs.azwukran_type.Reads.Post
  pub «azwukran_read_text» : OneAnswer azwukran.azwukran_read_text.ended azwukran_proofs.azwukran_read_text.Reads.Post
  pub «azwukran_write_text» : OneAnswer azwukran.azwukran_write_text.ended azwukran_proofs.azwukran_write_text.Reads.Post
  pub «azwukran_run» : OneAnswer azwukran.azwukran_run.ended azwukran_proofs.azwukran_run.Reads.Post
