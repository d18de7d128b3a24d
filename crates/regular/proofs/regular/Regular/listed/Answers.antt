-- `Regular::listed` meets its contract. The loop's invariant: all rules so far have a conclusion, and they, followed by those that are
-- left, are the whole listing. Assumes nothing.
use Rattle.std.proofs.Common.{◌<◌, length, sym, ◌∙◌, arith}
use Rattle.regular.specs.Regular.{codes_of}
use Rattle.regular.proofs.Listings.{found-count, found-rule, listed_start, listed_next, listed-stops, listed-end}
use Rattle.regular.proofs.regular.Regular.listed.Goals as goal

pub loop-k-init : goal.loop-k-init
loop-k-init c = listed_start _ c.no_rules-rules.ensures

pub returns-in_err-rules : goal.returns-in_err-rules
returns-in_err-rules c =
    let r = c.args.self in
    let there : c.loop-k.k < length (codes_of r) = omega (arith, found-count r c.codes-found.ensures) in
    let asked = c.in_err-rules.ensures ∙ found-rule r c.codes-found.ensures c.requires _ c.loop-k.k c.from.ensures there in
    let stops = listed-stops _ _ _ c.loop-k.invariant there c.in_err-rules.field-0.0 (sym asked) in
    grind arith

pub loop-k-preserved : goal.loop-k-preserved
loop-k-preserved c =
    let r = c.args.self in
    let there : c.loop-k.k < length (codes_of r) = omega (arith, found-count r c.codes-found.ensures) in
    let asked = c.in_ok-rules.ensures ∙ found-rule r c.codes-found.ensures c.requires _ c.loop-k.k c.from.ensures there in
    listed_next _ _ _ c.loop-k.invariant there (sym asked)

pub returns : goal.returns
returns c =
    let all = found-count c.args.self c.codes-found.ensures in
    listed-end _ _ c.loop-k.k _ c.loop-k.invariant (omega (arith, all)) all
