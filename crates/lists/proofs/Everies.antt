-- What `all` answers of a list is whether every element passes. Assumes nothing.
use mathlib.Core.Path.{◌≡◌, refl}
use mathlib.Core.Bool.{Bool, true, false, ◌&&◌}
use mathlib.Core.List.{List}
use Rattle.std.specs.List.{list_all}
use Rattle.std.proofs.lemmas.List.Recursion.{same_from_clauses}
use Rattle.scalars.specs.Mask.{both, every}

and_both : (a b : Bool) → (a && b) ≡ both a b
and_both true b = refl
and_both false b = refl

pub all_every : {A : Type 0} (p : A → Bool) (xs : List A) → list_all p xs ≡ every p xs
all_every p xs = same_from_clauses (list_all p) (every p) (λ x b. both (p x) b) refl (λ x xs. and_both (p x) (list_all p xs)) (λ x xs. refl) xs
