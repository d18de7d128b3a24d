-- What `?` hands on where no conversion changes the error: that very error. Assumes nothing.
use mathlib.Core.Path.{◌≡◌, ap, ◌∙◌}
use Rattle.std.specs.Prelude.{Result, Err, IsErrAnd}
use Rattle.std.proofs.lemmas.Result.{err_from_is_err_and}

module _ {T : Type 0} {E : Type 0} where
  pub handed_on : {r : Result T E} {why : E} → IsErrAnd r (λ error. error ≡ why) → r ≡ Err why
  handed_on h = let p = err_from_is_err_and _ h in p.1 ∙ ap Err p.2
