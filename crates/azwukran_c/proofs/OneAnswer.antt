-- Each function that C calls has one answer: take any arguments, and any two answers, each with the contents that lent slices hold at the
-- end, that its `ensures` clauses permit of these arguments; then the answers are equal, and so are the contents. It is what
-- crates/theorems/specs/OneAnswer.antt says of the library's functions of these names, said of the exported ones. Assumes nothing.
use mathlib.Core.Path.{◌≡◌, sym, refl, ap, ◌∙◌}
use contract.Lifetimes.{Lfts}
use denote.Triple.Entry.{Args, Res}
use denote.Triple.Clauses.{Ended, AtExit, Lasts, at_exit}
use Rattle.azwukran_c.specs.contracts as exported
use Rattle.azwukran_c.proofs as exported_proofs

-- of a function's parameters and result, and of what its clauses permit; v and w are what lent slices hold at the end
abbrev OneAnswer : (T : Ended) → ((κs : Lfts T.signature.lifetimes) → Args T.signature κs → Res T.signature κs → AtExit T κs → Type 0) → Type 0
OneAnswer T post =
    (κs : Lfts T.signature.lifetimes) (a : Args T.signature κs) (x y : Res T.signature κs) (v w : Lasts T κs a)
    → post κs a x (at_exit T κs a v) → post κs a y (at_exit T κs a w) → (x ≡ y) × (v ≡ w)

pub record EachExported : Type 0 where
  pub azwukran_list_arg_shape : OneAnswer exported.list_sets.azwukran_list_arg_shape.ended exported_proofs.list_sets.azwukran_list_arg_shape.Reads.Post
  pub azwukran_list_arg_number : OneAnswer exported.list_sets.azwukran_list_arg_number.ended exported_proofs.list_sets.azwukran_list_arg_number.Reads.Post
  pub azwukran_list_concrete_only : OneAnswer exported.list_sets.azwukran_list_concrete_only.ended exported_proofs.list_sets.azwukran_list_concrete_only.Reads.Post
  pub azwukran_list_preferred : OneAnswer exported.list_sets.azwukran_list_preferred.ended exported_proofs.list_sets.azwukran_list_preferred.Reads.Post
  pub azwukran_regular_arg_shape : OneAnswer exported.regular_sets.azwukran_regular_arg_shape.ended exported_proofs.regular_sets.azwukran_regular_arg_shape.Reads.Post
  pub azwukran_regular_arg_number : OneAnswer exported.regular_sets.azwukran_regular_arg_number.ended exported_proofs.regular_sets.azwukran_regular_arg_number.Reads.Post
  pub azwukran_regular_concrete_only : OneAnswer exported.regular_sets.azwukran_regular_concrete_only.ended exported_proofs.regular_sets.azwukran_regular_concrete_only.Reads.Post
  pub azwukran_regular_preferred : OneAnswer exported.regular_sets.azwukran_regular_preferred.ended exported_proofs.regular_sets.azwukran_regular_preferred.Reads.Post
  pub azwukran_regular_rule : OneAnswer exported.regular_sets.azwukran_regular_rule.ended exported_proofs.regular_sets.azwukran_regular_rule.Reads.Post
  pub azwukran_call : OneAnswer exported.single_calls.azwukran_call.ended exported_proofs.single_calls.azwukran_call.Reads.Post
  pub azwukran_survivors : OneAnswer exported.single_calls.azwukran_survivors.ended exported_proofs.single_calls.azwukran_survivors.Reads.Post
  pub azwukran_rule : OneAnswer exported.single_calls.azwukran_rule.ended exported_proofs.single_calls.azwukran_rule.Reads.Post
  pub azwukran_consensus : OneAnswer exported.single_calls.azwukran_consensus.ended exported_proofs.single_calls.azwukran_consensus.Reads.Post
  pub azwukran_type : OneAnswer exported.worksheets.azwukran_type.ended exported_proofs.worksheets.azwukran_type.Reads.Post
  pub azwukran_read_text : OneAnswer exported.texts.azwukran_read_text.ended exported_proofs.texts.azwukran_read_text.Reads.Post
  pub azwukran_write_text : OneAnswer exported.texts.azwukran_write_text.ended exported_proofs.texts.azwukran_write_text.Reads.Post
  pub azwukran_run : OneAnswer exported.worksheets.azwukran_run.ended exported_proofs.worksheets.azwukran_run.Reads.Post

pub each_exported : EachExported
each_exported = record {
  azwukran_list_arg_shape = λ κs a x y v w p q. (p.0 ∙ sym q.0, ap (λ l. (tt, (tt, (tt, (tt, (l, tt)))))) (p.1 ∙ sym q.1));
  azwukran_list_arg_number = λ κs a x y v w p q. (p.0 ∙ sym q.0, ap (λ l. (tt, (tt, (tt, (tt, (l, tt)))))) (p.1 ∙ sym q.1));
  azwukran_list_concrete_only = λ κs a x y v w p q. (p.0 ∙ sym q.0, ap (λ l. (tt, (tt, (l, tt)))) (p.1 ∙ sym q.1));
  azwukran_list_preferred = λ κs a x y v w p q. (p ∙ sym q, refl);
  azwukran_regular_arg_shape = λ κs a x y v w p q. (p ∙ sym q, refl);
  azwukran_regular_arg_number = λ κs a x y v w p q. (p ∙ sym q, refl);
  azwukran_regular_concrete_only = λ κs a x y v w p q. (p ∙ sym q, refl);
  azwukran_regular_preferred = λ κs a x y v w p q. (p ∙ sym q, refl);
  azwukran_regular_rule = λ κs a x y v w p q. (p ∙ sym q, refl);
  azwukran_call = λ κs a x y v w p q. (p ∙ sym q, refl);
  azwukran_survivors = λ κs a x y v w p q. (p.0 ∙ sym q.0, ap (λ l. (tt, (tt, (tt, (tt, (l, tt)))))) (p.1 ∙ sym q.1));
  azwukran_rule = λ κs a x y v w p q. (p ∙ sym q, refl);
  azwukran_consensus = λ κs a x y v w p q. (p ∙ sym q, refl);
  azwukran_type = λ κs a x y v w p q. (p.0 ∙ sym q.0, ap (λ l. (tt, (tt, (l, tt)))) (p.1 ∙ sym q.1));
  azwukran_read_text = λ κs a x y v w p q. (p.0 ∙ sym q.0, ap (λ l. (tt, (l, tt))) (p.1 ∙ sym q.1));
  azwukran_write_text = λ κs a x y v w p q. (p.0 ∙ sym q.0, ap (λ l. (tt, (l, tt))) (p.1 ∙ sym q.1));
  azwukran_run = λ κs a x y v w p q. (p ∙ sym q, refl);
}
