-- `any_measured_from` meets its contract: the slice that is asked is what stands on the stack from that number on.
-- Assumes nothing.
use mathlib.Core.Path.{◌≡◌, refl, ap, ◌∙◌}
use mathlib.Core.Bool.{Bool, true, false}
use mathlib.Core.List.{List, [], ◌∷◌}
use Rattle.std.proofs.Common.{◌||◌, slice_range, rules, tests}
use Rattle.scalars.specs.Mask.{either}
use Rattle.std.specs.List.{list_any}
use Rattle.std.proofs.lemmas.Iterator.{YieldsList-from_slice}
use Rattle.std.proofs.lemmas.Iterator.Search.{any_from_yields_List}
use Rattle.std.proofs.lemmas.Slice.{between_is}
use Rattle.types.specs.Operand.{any_measured}
use Rattle.types.specs.declared.operand.Operand.{Operand}
use Rattle.machine.proofs.stack.Stack.any_measured_from.Goals as goal

either-or : (x b : Bool) → (x || b) ≡ either x b
either-or true b = refl
either-or false b = refl

listed : (os : List Operand) → list_any (λ o. o.measured) os ≡ any_measured os
listed [] = refl
listed (o ∷ os) = either-or o.measured _ ∙ ap (either o.measured) (listed os)

pub returns : goal.returns
returns c =
    let self = c.args.self.now in
    let part = slice_range self.operands c.args.first self.top in
    any_from_yields_List (λ (o : Operand). o.measured) _ _ _ c.any.ensures.ran (YieldsList-from_slice part cc) (λ x b q k. search (rules, tests))
    ∙ listed part ∙ ap any_measured (between_is self.operands c.args.first self.top)
