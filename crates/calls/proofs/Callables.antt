-- A test that shows, by computing, what a call asks of a Regular set: that it is callable. Assumes nothing.
use mathlib.Core.Path.{◌≡◌, sym, ap, ◌∙◌}
use mathlib.Core.Bool.{Bool, true, not}
use Prim.Native.Nat.{◌^◌}
use native.Mathlib.Omega.{arith}
use lib.Dec.{eqb, leb, ltb}
use borrow.Author.Tests.{eqb-true, eq-eqb, ne_eqb, leb-true, ltb-true, not-true}
use Rattle.scalars.specs.Mask.{choose, both}
use Rattle.regular.specs.Regular.{empty_set?, all_conclude}
use Rattle.regular.specs.declared.regular.Regular.{Regular}
use Rattle.calls.specs.private.CallSets.{Callable}
use Rattle.scalars.proofs.Filters.{both_left, both_right}

abbrev known? : Regular → Bool
known? set = both (ltb set.constructors.0 (2 ^ 13)) (both (ltb set.scalars.0 (2 ^ 12)) (leb set.arity 4))

abbrev pub callable? : Regular → Bool
callable? set =
    both (known? set) (both (all_conclude set) (choose (eqb set.arity 0) (eqb set.constructors.0 0) (not (empty_set? set))))

pub callable_of : (set : Regular) → callable? set ≡ true → Callable set
callable_of set e =
    let k = both_left (known? set) _ e in
    let ks = both_right (ltb set.constructors.0 (2 ^ 13)) _ k in
    let f = both_right (known? set) _ e in
    let g = both_right (all_conclude set) _ f in
    let which : Bool → Bool = λ b. choose b (eqb set.constructors.0 0) (not (empty_set? set)) in
    record {
      known =
          record {
            constructors = ltb-true _ _ (both_left (ltb set.constructors.0 (2 ^ 13)) _ k);
            scalars = ltb-true _ _ (both_left (ltb set.scalars.0 (2 ^ 12)) _ ks);
            arity = leb-true _ _ (both_right (ltb set.scalars.0 (2 ^ 12)) _ ks);
          };
      concludes = both_left (all_conclude set) _ f;
      some = λ h. not-true _ (sym (ap which (ne_eqb set.arity 0 (λ z. omega arith))) ∙ g);
      none = λ z. eqb-true _ _ (sym (ap which (eq-eqb set.arity 0 z)) ∙ g);
    }
