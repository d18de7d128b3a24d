-- 'Agreement', of what the operations answer. Take a Regular set that expands: arity 1 to 4, at most 63 members, a conclusion for each.
-- Ask `expand` for its List, and ask both for the same steps in turn: `arg` by shape, `arg` by number and `concrete_only`, at any indices
-- and with any numbers for types. Either both are refused, for the same reason, or both answer sets. Then `overload_list` answers the same
-- of both: the same rules in the same order. And where one of the steps was by shape and rules remain, `most_preferred` answers the same
-- rule. Such a step was within the arity, since another leaves no rules; steps by number alone leave a Regular set its constructors.
use Rattle.std.specs.Prelude.{◌≡◌, Bool, true, false, List, [], ◌∷◌, ℕ}
use Rattle.scalars.specs.Paper.{Paper, accepted}
use Rattle.rules.specs.declared.rule.Part.TheVariants.{Shape, Number}
use Rattle.rules.specs.declared.rule.Keep.{Keep}
use Rattle.rules.specs.declared.rule.Keep.TheVariants.{Argument, Concrete}
use Rattle.theorems.specs.Expands.{Expands}
use Rattle.lists.specs.contracts as lists
use Rattle.lists.proofs as lists_proofs
use Rattle.theorems.specs.ByContract.{Promises}
use Rattle.theorems.specs.Operations.{Set, regular, Empty, Preferred, Listed, Answer, set, refused, list_answer, InTurn}

-- at least one of the steps is by an argument's shape
abbrev pub some_shape : List Keep → Bool
some_shape [] = false
some_shape (Argument Shape i t ∷ ks) = true
some_shape (Argument Number i t ∷ ks) = some_shape ks
some_shape (Concrete ∷ ks) = some_shape ks

-- of what is left of the List and of the Regular set
pub record Agreed (steps : List Keep) (s t : Set) : Type 0 where
  pub listing : (p q : Paper) → Listed s p → Listed t q → p ≡ q
  pub preferred : some_shape steps ≡ true → Empty t (accepted (0 ∷ [])) → (p q : Paper) → Preferred s p → Preferred t q
      → (i : ℕ) × (vs : List ℕ) × (p ≡ accepted (i ∷ vs)) × (q ≡ accepted vs)

abbrev pub Agrees : List Keep → Answer → Answer → Type 0
Agrees steps (set s) (set t) = Agreed steps s t
Agrees steps (refused v) (refused w) = v ≡ w
Agrees steps (set s) (refused w) = ⊥
Agrees steps (refused v) (set t) = ⊥

abbrev pub Theorem : Type 0
Theorem =
    Promises lists.expand.ended lists_proofs.expand.Reads.Post
    (λ κs a x _. Expands a.0 → (steps : List Keep) (c d : Answer) → InTurn steps (list_answer x) c
    → InTurn steps (set (regular a.0)) d → Agrees steps c d)
