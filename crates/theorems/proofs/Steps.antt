-- Steps are what specs/Steps.antt says, of either kind of set. Assumes nothing.
use Rattle.regular.specs.Regular.{regular_rules}
use Rattle.lists.specs.List.{listing, kept}
use Rattle.rules.specs.declared.rule.Keep.TheVariants.{Argument}
use Rattle.theorems.specs.Steps.{step_regular, single_regular, single_list, Lasting, Theorem}
use Rattle.theorems.proofs.ListSteps.{listing-kept, kept_comm, kept-twice, list-shape_first, list-number_first}
use Rattle.theorems.proofs.InTurn.{filters, pairs}
use Rattle.theorems.proofs.SetSteps.{argument-rules, step-rules, step-lasting, regular-shape_first, regular-number_first}

pub steps : Theorem
steps = record {
  lists = filters (λ l. Unit) listing kept (λ k l h. tt) (λ k l h. listing-kept k l);
  list_pairs = pairs listing kept single_list (λ part i t. listing-kept (Argument part i t)) list-shape_first list-number_first;
  lists_commute = kept_comm;
  lists_twice = kept-twice;
  regulars = filters Lasting regular_rules step_regular step-lasting step-rules;
  regular_pairs = pairs regular_rules step_regular single_regular argument-rules regular-shape_first regular-number_first;
}
