-- `consensus_without` meets its contract: an unknown component is refused, then none at all, then a first one with no scalar; and the rest is
-- the agreement from the first on. Assumes nothing.
use mathlib.Core.Path.{◌∙◌}
use native.Mathlib.Omega.{arith}
use Rattle.std.proofs.Common.{rules}
use Rattle.types.specs.Conversion.{agreed, consensus_of}
use Rattle.types.proofs.Agreeing.{first-none, first-without, first-agrees, with_known}
use Rattle.types.proofs.Codes.{unknown_type_refused}
use Rattle.types.proofs.conversion.consensus_without.Goals as goal

pub returns-in_err-all_known : goal.returns-in_err-all_known
unfolding consensus_of agreed
returns-in_err-all_known c = search (rules, unknown_type_refused)

pub returns-in_default : goal.returns-in_default
unfolding consensus_of agreed
returns-in_default c = first-none c.args.components.now (omega arith) ∙ with_known _ _ _ c.in_ok-all_known.ensures

pub returns-in_default-scalar_of : goal.returns-in_default-scalar_of
unfolding consensus_of agreed
returns-in_default-scalar_of c =
    first-without c.args.components.now (λ e. omega arith) c.in_default-scalar_of.ensures ∙ with_known _ _ _ c.in_ok-all_known.ensures

pub returns : goal.returns
unfolding consensus_of agreed
returns c =
    c.agree_from.ensures ∙ first-agrees c.args.components.now (λ e. omega arith) c.in-Some.ensures.0 c.in-Some.ensures.1
    ∙ with_known _ _ _ c.in_ok-all_known.ensures
