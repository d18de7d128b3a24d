-- Each public function has one answer, as specs/OneAnswer.antt states it: its promise is an equation, of the answer or of its paper, and
-- papers are one to one. Assumes nothing.
use mathlib.Core.Path.{◌≡◌, refl, sym, ap, ap₂, ◌∙◌}
use native.Mathlib.Omega.{arith}
use lib.ListN.{length}
use Rattle.std.specs.Prelude.{Option, Some, None, Result, Ok}
use Rattle.scalars.specs.Walk.{OneBitsGive}
use Rattle.scalars.specs.declared.one_bits_iter.OneBit.{OneBit}
use Rattle.scalars.specs.declared.one_bits_iter.OneBitsIter.{OneBitsIter}
use Rattle.scalars.specs.Mask.{sift}
use Rattle.scalars.specs.Paper.{number, place, values}
use Rattle.rules.specs.Rule.{passes}
use Rattle.rules.specs.declared.rule.Part.TheVariants.{Number}
use Rattle.rules.specs.declared.rule.Keep.TheVariants.{Argument}
use Rattle.lists.specs.List.{signatures}
use Rattle.lists.specs.AnyPaper.{no_regular, no_list, none_like}
use Rattle.lists.specs.declared.walks.BothSteps.{BothSteps}
use Rattle.scalars.proofs.Papers.{refusal-one, walk-one, members-one, scalar-one, test-one, verdict_one, count-one}
use Rattle.types.proofs.TypePapers.{size-one, constructor-one, code_one, combination-one, consensus-one, leaf-one}
use Rattle.theorems.proofs.ReadPapers.{read_one}
use Rattle.rules.proofs.RulePapers.{listing-one, types-one, rule-one}
use Rattle.regular.proofs.SetPapers.{regular-one, set-one}
use Rattle.functions.proofs.FunctionPapers.{function-one}
use Rattle.theorems.proofs.AnyPapers.{any-one}
use Rattle.theorems.proofs.ChosenPapers.{list-one, chosen-one}
use Rattle.theorems.proofs.SurvivorsPapers.{survivors-one}
use Rattle.calls.proofs.OutcomePapers.{outcome-one}
use Rattle.calls.proofs.CallPapers.{call-one}
use Rattle.lending.proofs.MaskPapers.{mask_one}
use Rattle.names.proofs.WordPapers.{word-one}
use Rattle.text.proofs.TextPapers.{text-one}
use Rattle.theorems.proofs.RunPapers.{run-one}
use Rattle.theorems.proofs.TypedPapers.{type_one}
use Rattle.theorems.specs.OneAnswer.{EachFunction}

-- a step of a walk, and what is left of the walk
step-one : (s : OneBitsIter) (x y : Option OneBit) (t u : OneBitsIter) → OneBitsGive s x t → OneBitsGive s y u → (x ≡ y) × (t ≡ u)
step-one s (Some b) y t u p q = walk-one (Some b) y t u (p.1 ∙ sym q.1)
step-one s None (Some d) t u p q = let z = ap (λ w. length (values w)) (p.1 ∙ sym q.1) in absurd (omega arith)
step-one s None None t u p q = (refl, p.0.1 ∙ sym q.0.1)

-- accepted values
ok-one : {A E : Type 0} (x y : A) → ◌≡◌ {A = Result A E} (Ok x) (Ok y) → x ≡ y
ok-one x y e = cc

-- two sets of a List's rules
both_one : (a b : BothSteps) → a.shaped.0 ≡ b.shaped.0 → a.left.0 ≡ b.left.0 → a ≡ b
both_one a b shaped left = ap₂ (λ m n. record { shaped = record { 0 = m }; left = record { 0 = n } }) shaped left

pub each-function : EachFunction
each-function = record {
  -- scalars
  «OneBitsIter::next» = λ κs a x y v w p q. let e = step-one a.0.now x y v.0 w.0 p.0 q.0 in (e.0, ap (λ l. (l, tt)) e.1);
  «OneBit::number» = λ κs a x y v w p q. (ap (λ k. record { 0 = k }) (p ∙ sym q), refl);
  «members_of» = λ κs a x y v w p q. (ok-one x y (members-one (Ok x) (Ok y) (p ∙ sym q)), refl);
  «members_within» = λ κs a x y v w p q. (members-one x y (p.0 ∙ sym q.0), refl);
  «Refusal::number» = λ κs a x y v w p q. (p ∙ sym q, refl);
  «Refusal::place» = λ κs a x y v w p q. (p ∙ sym q, refl);
  «ScalarSet::singleton» = λ κs a x y v w p q. (ap (λ k. record { 0 = k }) (p ∙ sym q), refl);
  «ScalarSet::convertible_from» = λ κs a x y v w p q. (ap (λ k. record { 0 = k }) (p ∙ sym q), refl);
  «ScalarSet::meet» = λ κs a x y v w p q. (ap (λ k. record { 0 = k }) (p ∙ sym q), refl);
  «ScalarSet::contains» = λ κs a x y v w p q. (p ∙ sym q, refl);
  «ScalarSet::most_general_scalar» = λ κs a x y v w p q. (scalar-one x y (p ∙ sym q), refl);
  «ScalarSet::members» = λ κs a x y v w p q. (members-one x y (p ∙ sym q), refl);
  «ScalarSet::named» = λ κs a x y v w p q. (p ∙ sym q, refl);
  -- types
  «ConstructorSet::singleton» = λ κs a x y v w p q. (ap (λ k. record { 0 = k }) (p ∙ sym q), refl);
  «ConstructorSet::meet» = λ κs a x y v w p q. (ap (λ k. record { 0 = k }) (p ∙ sym q), refl);
  «ConstructorSet::is_singleton» = λ κs a x y v w p q. (p ∙ sym q, refl);
  «ConstructorSet::members» = λ κs a x y v w p q. (members-one x y (p ∙ sym q), refl);
  «Constructor::size» = λ κs a x y v w p q. (size-one x y (p ∙ sym q), refl);
  «ConstructorSet::size» = λ κs a x y v w p q. (size-one x y (p ∙ sym q), refl);
  «ConstructorSet::vecn» = λ κs a x y v w p q. (ap (λ k. record { 0 = k }) (p ∙ sym q), refl);
  «ConstructorSize::constructor» = λ κs a x y v w p q. (constructor-one x y (p ∙ sym q), refl);
  «ConstructorSize::to_inner» = λ κs a x y v w p q. (code_one x y (p ∙ sym q), refl);
  «automatically_converts_to» = λ κs a x y v w p q. (test-one x y (p ∙ sym q), refl);
  «automatic_conversion_combine» = λ κs a x y v w p q. (combination-one x y (p ∙ sym q), refl);
  «automatic_conversion_consensus» = λ κs a x y v w p q. (consensus-one x y (p ∙ sym q), refl);
  «code_of» = λ κs a x y v w p q. (code_one x y (p ∙ sym q), refl);
  «leaf_scalar» = λ κs a x y v w p q. (leaf-one x y (p ∙ sym q), refl);
  «is_abstract» = λ κs a x y v w p q. (p ∙ sym q, refl);
  -- expressions
  «read_expression» = λ κs a x y v w p q. (read_one x y (p ∙ sym q), refl);
  «Operand::of» = λ κs a x y v w p q. (p ∙ sym q, refl);
  «Operand::mark» = λ κs a x y v w p q. (p ∙ sym q, refl);
  «Operand::is_measured_abstract» = λ κs a x y v w p q. (p ∙ sym q, refl);
  «any_measured» = λ κs a x y v w p q. (p ∙ sym q, refl);
  «concrete_only» = λ κs a x y v w p q. (p ∙ sym q, refl);
  -- rules
  «no_rules» = λ κs a x y v w p q. (p ∙ sym q, refl);
  «no_codes» = λ κs a x y v w p q. (p ∙ sym q, refl);
  «Rule::checked» = λ κs a x y v w p q. (rule-one x y (p ∙ sym q), refl);
  «Rule::known» = λ κs a x y v w p q. (p ∙ sym q, refl);
  «Rule::cleaned» = λ κs a x y v w p q. (p ∙ sym q, refl);
  «Rule::len» = λ κs a x y v w p q. (p ∙ sym q, refl);
  «Rule::passes» = λ κs a x y v w p q. (p ∙ sym q, refl);
  «Rule::argument» = λ κs a x y v w p q. (p ∙ sym q, refl);
  «reaches» = λ κs a x y v w p q. (p ∙ sym q, refl);
  «for_frexp_modf» = λ κs a x y v w p q. (code_one x y (p ∙ sym q), refl);
  -- regular
  «Regular::verdict» = λ κs a x y v w p q. (verdict_one x y (p ∙ sym q), refl);
  «Regular::is_empty» = λ κs a x y v w p q. (test-one x y (p ∙ sym q), refl);
  «Regular::holds_none» = λ κs a x y v w p q. (p ∙ sym q, refl);
  «Regular::min_arguments» = λ κs a x y v w p q. (count-one x y (p ∙ sym q), refl);
  «Regular::max_arguments» = λ κs a x y v w p q. (count-one x y (p ∙ sym q), refl);
  «Regular::arg» = λ κs a x y v w p q. (regular-one x y (p ∙ sym q), refl);
  «Regular::narrow» = λ κs a x y v w p q. (set-one x y (p ∙ sym q), refl);
  «Regular::concrete_only» = λ κs a x y v w p q. (regular-one x y (p ∙ sym q), refl);
  «Regular::concrete» = λ κs a x y v w p q. (set-one x y (p ∙ sym q), refl);
  «Regular::most_preferred» = λ κs a x y v w p q. (rule-one x y (p ∙ sym q), refl);
  «Regular::rule_of» = λ κs a x y v w p q. (rule-one x y (p ∙ sym q), refl);
  «Regular::overload_list» = λ κs a x y v w p q. (listing-one x y (p ∙ sym q), refl);
  «Regular::allowed_args» = λ κs a x y v w p q. (types-one x y (p ∙ sym q), refl);
  «ConclusionRule::try_from» = λ κs a x y v w p q. (p ∙ sym q, refl);
  «u8::from» = λ κs a x y v w p q. (p ∙ sym q, refl);
  -- functions
  «rule_at» = λ κs a x y v w p q. (rule-one x y (p ∙ sym q), refl);
  «rule_count» = λ κs a x y v w p q. (p ∙ sym q, refl);
  «listed_rule» = λ κs a x y v w p q. (p ∙ sym q, refl);
  «function_set» = λ κs a x y v w p q. (function-one x y (p ∙ sym q), refl);
  «rule_total» = λ κs a x y v w p q. (count-one x y (p ∙ sym q), refl);
  -- lists
  «AnyOverloadSet::from_regular» = λ κs a x y v w p q. (any-one no_regular x y (p ∙ sym q), refl);
  «AnyOverloadSet::from_list» = λ κs a x y v w p q. (any-one no_list x y (p ∙ sym q), refl);
  «AnyOverloadSet::is_empty» = λ κs a x y v w p q. (test-one x y (p ∙ sym q), refl);
  «AnyOverloadSet::min_arguments» = λ κs a x y v w p q. (count-one x y (p ∙ sym q), refl);
  «AnyOverloadSet::max_arguments» = λ κs a x y v w p q. (count-one x y (p ∙ sym q), refl);
  «AnyOverloadSet::arg» = λ κs a x y v w p q. (any-one (none_like a.0) x y (p ∙ sym q), refl);
  «AnyOverloadSet::concrete_only» = λ κs a x y v w p q. (any-one (none_like a.0) x y (p ∙ sym q), refl);
  «AnyOverloadSet::most_preferred» = λ κs a x y v w p q. (rule-one x y (p ∙ sym q), refl);
  «AnyOverloadSet::overload_list» = λ κs a x y v w p q. (listing-one x y (p ∙ sym q), refl);
  «AnyOverloadSet::allowed_args» = λ κs a x y v w p q. (types-one x y (p ∙ sym q), refl);
  «expand» = λ κs a x y v w p q. (list-one x y (p ∙ sym q), refl);
  «List::from_rules» = λ κs a x y v w p q. (list-one x y (p ∙ sym q), refl);
  «List::checked» = λ κs a x y v w p q. (list-one x y (p ∙ sym q), refl);
  «List::arg» = λ κs a x y v w p q. (list-one x y (p ∙ sym q), refl);
  «List::concrete_only» = λ κs a x y v w p q. (list-one x y (p ∙ sym q), refl);
  «List::is_empty» = λ κs a x y v w p q. (test-one x y (p ∙ sym q), refl);
  «List::min_arguments» = λ κs a x y v w p q. (count-one x y (p ∙ sym q), refl);
  «List::max_arguments» = λ κs a x y v w p q. (count-one x y (p ∙ sym q), refl);
  «List::most_preferred» = λ κs a x y v w p q. (chosen-one x y (p ∙ sym q), refl);
  «List::overload_list» = λ κs a x y v w p q. (listing-one x y (p ∙ sym q), refl);
  «List::allowed_args» = λ κs a x y v w p q. (types-one x y (p ∙ sym q), refl);
  «List::rule» = λ κs a x y v w p q. (p ∙ sym q, refl);
  «filter» = λ κs a x y v w p q. (ap (λ k. record { 0 = k }) (p ∙ sym q), refl);
  «filter_both» = λ κs a x y v w p q. (both_one x y (p.0 ∙ sym q.0) (p.1 ∙ ap (sift (passes (Argument Number a.1.1.0 a.1.1.1.0)) (signatures a.0)) (p.0 ∙ sym q.0) ∙ sym q.1), refl);
  «longest» = λ κs a x y v w p q. (count-one x y (p ∙ sym q), refl);
  -- calls
  «call_of» = λ κs a x y v w p q. (call-one x y (p ∙ sym q), refl);
  «outcome_of» = λ κs a x y v w p q. (outcome-one x y (p ∙ sym q), refl);
  «survivors_of» = λ κs a x y v w p q. (survivors-one x y (p ∙ sym q), refl);
  «full_list» = λ κs a x y v w p q. (p ∙ sym q, refl);
  «Refusal::from» = λ κs a x y v w p q. (let e = p ∙ sym q in refusal-one x y (ap number e) (ap place e), refl);
  «none_left» = λ κs a x y v w p q. (refusal-one x y (ap number (p ∙ sym q)) (ap place (p ∙ sym q)), refl);
  -- lending
  «lend_bytes» = λ κs a x y v w p q. (verdict_one x y (p.0 ∙ sym q.0), ap (λ l. (tt, (l, tt))) (p.1 ∙ sym q.1));
  «mask_in» = λ κs a x y v w p q. (mask_one x y (p ∙ sym q), refl);
  «lend_mask» = λ κs a x y v w p q. (verdict_one x y (p.0 ∙ sym q.0), ap (λ l. (tt, (tt, (l, tt)))) (p.1 ∙ sym q.1));
  -- names
  «built_in_names» = λ κs a x y v w p q. (p ∙ sym q, refl);
  «built_in_index» = λ κs a x y v w p q. (p ∙ sym q, refl);
  «spelling» = λ κs a x y v w p q. (p ∙ sym q, refl);
  «word_of» = λ κs a x y v w p q. (word-one x y (p ∙ sym q), refl);
  «measured_name» = λ κs a x y v w p q. (p ∙ sym q, refl);
  «is_measured» = λ κs a x y v w p q. (p ∙ sym q, refl);
  -- text
  «read_text» = λ κs a x y v w p q. (text-one x y (p.0 ∙ sym q.0), ap (λ l. (tt, (l, tt))) (p.1 ∙ sym q.1));
  «write_text» = λ κs a x y v w p q. (text-one x y (p.0 ∙ sym q.0), ap (λ l. (tt, (l, tt))) (p.1 ∙ sym q.1));
  -- c_sets
  «ListParts::arg» = λ κs a x y v w p q. (list-one x y (p ∙ sym q), refl);
  «ListParts::concrete_only» = λ κs a x y v w p q. (list-one x y (p ∙ sym q), refl);
  «ListParts::preferred» = λ κs a x y v w p q. (chosen-one x y (p ∙ sym q), refl);
  «rules_in» = λ κs a x y v w p q. (p ∙ sym q, refl);
  «RegularParts::set» = λ κs a x y v w p q. (regular-one x y (p ∙ sym q), refl);
  «RegularParts::arg» = λ κs a x y v w p q. (regular-one x y (p ∙ sym q), refl);
  «RegularParts::concrete_only» = λ κs a x y v w p q. (regular-one x y (p ∙ sym q), refl);
  «RegularParts::preferred» = λ κs a x y v w p q. (rule-one x y (p ∙ sym q), refl);
  «RegularParts::rule» = λ κs a x y v w p q. (rule-one x y (p ∙ sym q), refl);
  -- machine
  «run_worksheet» = λ κs a x y v w p q. (run-one x y (p ∙ sym q), refl);
  -- worksheet
  «type_expression» = λ κs a x y v w p q. (type_one x y (p.0 ∙ sym q.0), ap (λ l. (tt, (tt, (l, tt)))) (p.1 ∙ sym q.1));
  -- c_answers
  «ChosenForC::from::Chosen» = λ κs a x y v w p q. (p ∙ sym q, refl);
  «ChosenForC::from::Called» = λ κs a x y v w p q. (p ∙ sym q, refl);
  «RuleForC::from» = λ κs a x y v w p q. (p ∙ sym q, refl);
  «RegularForC::from» = λ κs a x y v w p q. (p ∙ sym q, refl);
  «ConsensusForC::from» = λ κs a x y v w p q. (p ∙ sym q, refl);
  «TextForC::from» = λ κs a x y v w p q. (p ∙ sym q, refl);
  «MaskForC::from» = λ κs a x y v w p q. (p ∙ sym q, refl);
  -- azwukran
  «azwukran_list_arg_shape» = λ κs a x y v w p q. (p.0 ∙ sym q.0, ap (λ l. (tt, (tt, (tt, (tt, (l, tt)))))) (p.1 ∙ sym q.1));
  «azwukran_list_arg_number» = λ κs a x y v w p q. (p.0 ∙ sym q.0, ap (λ l. (tt, (tt, (tt, (tt, (l, tt)))))) (p.1 ∙ sym q.1));
  «azwukran_list_concrete_only» = λ κs a x y v w p q. (p.0 ∙ sym q.0, ap (λ l. (tt, (tt, (l, tt)))) (p.1 ∙ sym q.1));
  «azwukran_list_preferred» = λ κs a x y v w p q. (p ∙ sym q, refl);
  «azwukran_regular_arg_shape» = λ κs a x y v w p q. (p ∙ sym q, refl);
  «azwukran_regular_arg_number» = λ κs a x y v w p q. (p ∙ sym q, refl);
  «azwukran_regular_concrete_only» = λ κs a x y v w p q. (p ∙ sym q, refl);
  «azwukran_regular_preferred» = λ κs a x y v w p q. (p ∙ sym q, refl);
  «azwukran_regular_rule» = λ κs a x y v w p q. (p ∙ sym q, refl);
  «azwukran_call» = λ κs a x y v w p q. (p ∙ sym q, refl);
  «azwukran_survivors» = λ κs a x y v w p q. (p.0 ∙ sym q.0, ap (λ l. (tt, (tt, (tt, (tt, (l, tt)))))) (p.1 ∙ sym q.1));
  «azwukran_rule» = λ κs a x y v w p q. (p ∙ sym q, refl);
  «azwukran_consensus» = λ κs a x y v w p q. (p ∙ sym q, refl);
  «azwukran_type» = λ κs a x y v w p q. (p.0 ∙ sym q.0, ap (λ l. (tt, (tt, (l, tt)))) (p.1 ∙ sym q.1));
  «azwukran_read_text» = λ κs a x y v w p q. (p.0 ∙ sym q.0, ap (λ l. (tt, (l, tt))) (p.1 ∙ sym q.1));
  «azwukran_write_text» = λ κs a x y v w p q. (p.0 ∙ sym q.0, ap (λ l. (tt, (l, tt))) (p.1 ∙ sym q.1));
  «azwukran_run» = λ κs a x y v w p q. (p ∙ sym q, refl);
}
