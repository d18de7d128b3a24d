-- A rule that a function's listing has at an index is given back whole by its record, since it has no more arguments than the record
-- has fields; where no rule is answered, the listing has none there.
-- Assumes nothing.
use mathlib.Core.Path.{◌≡◌, refl, sym, ap, ◌∙◌, subst}
use mathlib.Core.Bool.{Bool, true, false}
use mathlib.Core.List.{List, [], ◌∷◌}
use mathlib.Core.Option.{Option, none, some}
use Prim.Native.Nat.{ℕ, zero, suc, ◌≤◌}
use native.Mathlib.Omega.{arith}
use lib.Dec.{ltb}
use lib.ListN.{length, get_elem?}
use borrow.Author.Tests.{ltb-false}
use Rattle.scalars.specs.Mask.{choose}
use Rattle.types.specs.declared.operand.Operand.{Operand}
use Rattle.rules.specs.Signature.{Signature}
use Rattle.rules.specs.Rule.{most_arguments, signature_of, rule_of}
use Rattle.functions.specs.Functions.{function_count, listing_of, rule_in, rule_at}
use Rattle.rules.specs.declared.rule.Rule.{Rule}
use Rattle.scalars.specs.Paper.{Paper, accepted, refusal, values}
use Rattle.rules.specs.RulePaper.{rule_values, no_rule}
use Rattle.rules.proofs.RulePapers.{rule_named}
use Rattle.rules.proofs.Records.{record_says}
use Rattle.machine.specs.private.TopLast.{apply_last}
use Rattle.functions.proofs.Database.{four-arguments, unknown-none}

clash : {A : Type 0} {n p : ℕ} {vs ws : List ℕ} → refusal n p vs ≡ accepted ws → A
clash e = absurd (let z : ◌≡◌ {A = ℕ} 0 1 = cc in omega arith)

-- the rule of this record stands there
pub record Stands (o : Option Signature) (q : Rule) : Type 0 where
  pub rule-is : o ≡ some (signature_of q)
  pub few : q.count ≤ most_arguments

stands-first : (r : Signature) (q : Rule) → length r.arguments ≤ most_arguments → rule_of r ≡ q → Stands (some r) q
unfolding rule_of
stands-first r q h e = record {
  rule-is = ap some (sym (record_says r h) ∙ ap signature_of e);
  few = subst (λ (p : Rule). p.count ≤ most_arguments) e h;
}

stands_in : (rs : List Signature) (i : ℕ) (q : Rule) → ((r : Signature) → get_elem? rs i ≡ some r → length r.arguments ≤ most_arguments)
    → rule_in rs i ≡ accepted (rule_values q) → Stands (get_elem? rs i) q
stands_in [] i q s e = clash e
stands_in (r ∷ rs) zero q s e = stands-first r q (s r refl) (ap (λ (p : Paper). rule_named (values p)) e)
stands_in (r ∷ rs) (suc i) q s e = stands_in rs i q s e

none_in : (rs : List Signature) (i : ℕ) (n p : ℕ) → rule_in rs i ≡ refusal n p no_rule → get_elem? rs i ≡ none
none_in [] i n p e = refl
none_in (r ∷ rs) zero n p e = clash (sym e)
none_in (r ∷ rs) (suc i) n p e = none_in rs i n p e

module _ (f i : ℕ) where
  pub stands : (q : Rule) → accepted (rule_values q) ≡ rule_at f i → Stands (get_elem? (listing_of f) i) q
  unfolding rule_at
  stands q e = go (ltb f function_count) e
    where
      go : (b : Bool) → accepted (rule_values q) ≡ choose b (rule_in (listing_of f) i) (refusal 7 0 no_rule)
          → Stands (get_elem? (listing_of f) i) q
      go true p = stands_in (listing_of f) i q (four-arguments f i) (sym p)
      go false p = clash (sym p)

  pub none-there : (n p : ℕ) → refusal n p no_rule ≡ rule_at f i → get_elem? (listing_of f) i ≡ none
  unfolding rule_at
  none-there n p e = go (ltb f function_count) refl e
    where
      go : (b : Bool) → ltb f function_count ≡ b → refusal n p no_rule ≡ choose b (rule_in (listing_of f) i) (refusal 7 0 no_rule)
          → get_elem? (listing_of f) i ≡ none
      go true h q = none_in (listing_of f) i n p (sym q)
      go false h q = ap (λ (rs : List Signature). get_elem? rs i) (unknown-none f (ltb-false f function_count h))

-- a call by the rule that stands there, and a call where none does
pub called : (n : ℕ) (s : List Operand) (o : Option Signature) (q : Rule) → Stands o q
    → apply_last n s (some (signature_of q)) ≡ apply_last n s o
called n s o q h = ap (apply_last n s) (sym h.rule-is)

pub uncalled : (n : ℕ) (s : List Operand) (o : Option Signature) → o ≡ none → none ≡ apply_last n s o
unfolding apply_last
uncalled n s o e = rw e
