-- `put_leaf` meets its contract: two bytes, one behind the other. Assumes nothing.
use mathlib.Core.Path.{refl, ap₂, ◌∙◌}
use native.Mathlib.Numerals.{add-one}
use lib.ListN.{set}
use Rattle.text.proofs.reader.put_leaf.Goals as goal

pub returns : goal.returns
returns c =
    record {
      past = refl;
      written = c.put-2.ensures ∙ ap₂ (λ l i. set l i c.args.code) c.put.ensures (add-one c.args.made);
    }
