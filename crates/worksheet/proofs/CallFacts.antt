-- What a single call comes to, for the second pass: a chosen rule has an argument for each operand, in the four fields of its record.
-- Rests on the database only by the laws of `functions/proofs/Database.antt`. Assumes nothing.
use mathlib.Core.Path.{◌≡◌, sym, ap, ◌∙◌, subst}
use mathlib.Core.Bool.{Bool}
use mathlib.Core.List.{List}
use Prim.Native.Nat.{ℕ, ◌≤◌}
use native.Mathlib.Omega.{arith}
use lib.ListN.{length}
use Rattle.rules.specs.Signature.{Signature}
use Rattle.rules.specs.Rule.{arguments_of, rule_of}
use Rattle.rules.specs.declared.rule.Rule.{Rule}
use Rattle.rules.proofs.Records.{record_says}
use Rattle.functions.specs.Functions.{listing_of}
use Rattle.functions.proofs.Database.{one-length, four-arguments}
use Rattle.lists.specs.declared.list.Chosen.{Chosen}
use Rattle.calls.specs.Choice.{chosen, resolve}
use Rattle.calls.specs.Call.{answered}
use Rattle.calls.specs.OutcomePaper.{outcome_paper}
use Rattle.std.proofs.Common.{Ok}
use Rattle.calls.proofs.Surviving.{There, resolve-there}
use Rattle.calls.proofs.OutcomePapers.{choice_of}

pub record Ruled (ts : List ℕ) (r : Signature) : Type 0 where
  pub fields : arguments_of (rule_of r) ≡ r.arguments
  pub many : length ts ≡ length r.arguments

module _ (switch : Bool) (f : ℕ) (ts : List ℕ) where
  pub ruled : (i : ℕ) (r : Signature) → resolve switch (listing_of f) ts ≡ chosen i r → Ruled ts r
  ruled i r e =
      let b = subst (There switch (listing_of f) ts) e (resolve-there switch (listing_of f) ts) in
      record {
        fields = ap (λ (s : Signature). s.arguments) (record_says r (four-arguments f i r b.1));
        many = b.0 ∙ sym (one-length f i r b.1);
      }

  pub rule-takes : (x : Chosen) → outcome_paper (Ok x) ≡ answered (resolve switch (listing_of f) ts)
      → length ts ≤ length (arguments_of x.rule)
  rule-takes x e =
      let c = choice_of (Ok x) (resolve switch (listing_of f) ts) e in
      let k = ruled x.index c.0 c.1 in
      omega (arith, ap length k.fields, k.many, ap (λ (y : Rule). length (arguments_of y)) c.2)
