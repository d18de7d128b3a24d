-- Steps of a set of either kind, of the definitions that the contracts of `arg` and `concrete_only` cite. A step, at any index and of any
-- number for a type, leaves the rules of the listing that pass its test, in order. So two steps leave the rules that pass both, in either
-- order; a step done twice leaves what it leaves once; and a step that all rules pass changes nothing. This holds of every List, where two
-- steps in either order leave even the same members; and of every Regular set whose rules have an argument, or that has no rules.
--
-- Document 02's (iv): the step by shape and the step by number of one operand, in either order, leave of every set the very set that
-- document 01's single step leaves; and that lists the rules that take the operand's type there.
use Rattle.std.specs.Prelude.{◌≡◌, true, ◌⊎◌, ℕ, ◌≤◌, ltb}
use mathlib.Core.List as L
use Rattle.std.specs.Int.Bits.{bit_and}
use Rattle.scalars.specs.Mask.{choose, both, filter, every, sift}
use Rattle.types.specs.Constructor.{singleton_of_code}
use Rattle.rules.specs.Signature.{Signature, takes}
use Rattle.rules.specs.Rule.{passes}
use Rattle.rules.specs.declared.rule.Part.TheVariants.{Shape, Number}
use Rattle.rules.specs.declared.rule.Keep.{Keep}
use Rattle.rules.specs.declared.rule.Keep.TheVariants.{Argument, Concrete}
use Rattle.regular.specs.Regular.{regular_of, regular_rules, empty_regular, reached_scalars, narrowed, concrete_set}
use Rattle.regular.specs.declared.regular.Regular.{Regular}
use Rattle.lists.specs.List.{signatures, listing, kept}
use Rattle.lists.specs.declared.list.List.{List}

-- what a step leaves of a Regular set that is accepted
unfoldable pub step_regular : Keep → Regular → Regular
step_regular (Argument part i t) r = choose (ltb i r.arity) (narrowed part t r) empty_regular
step_regular Concrete r = concrete_set r

-- document 01's single step: of a Regular set, 'the argument keeps its own constructor and the scalars it converts to'
unfoldable pub single_regular : ℕ → ℕ → Regular → Regular
single_regular i t r =
    choose (ltb i r.arity)
    (regular_of r.arity (bit_and r.constructors.0 (singleton_of_code t)) (bit_and r.scalars.0 (reached_scalars t)) r.conclude)
    empty_regular

-- of a List, it 'keeps rules that have that index and whose type there equals it or is reached by converting its scalar under the same
-- constructor'
unfoldable pub single_list : ℕ → ℕ → List → List
single_list i t l = record { rules = l.rules; len = l.len; members = sift (takes i t) (signatures l) l.members }

-- rules have an argument, or there is no constructor and so no rule: an index at or above the arity leaves a set of the second kind
abbrev pub Lasting : Regular → Type 0
Lasting r = (1 ≤ r.arity) ⊎ (r.constructors.0 ≡ 0)

-- of a kind of set: its step, and document 01's single step of an argument
pub record Pairs {S : Type 0} (listed : S → L.List Signature) (step : Keep → S → S) (single : ℕ → ℕ → S → S) : Type 0 where
  pub shape_first : (i t : ℕ) (s : S) → step (Argument Number i t) (step (Argument Shape i t) s) ≡ single i t s
  pub number_first : (i t : ℕ) (s : S) → step (Argument Shape i t) (step (Argument Number i t) s) ≡ single i t s
  pub takes_it : (i t : ℕ) (s : S) → listed (single i t s) ≡ filter (takes i t) (listed s)

-- of a kind of set: which sets are meant, their listing, and their step
pub record Filters {S : Type 0} (Good : S → Type 0) (listed : S → L.List Signature) (step : Keep → S → S) : Type 0 where
  pub filtered : (k : Keep) (s : S) → Good s → listed (step k s) ≡ filter (passes k) (listed s)
  pub joined : (j k : Keep) (s : S) → Good s → listed (step j (step k s)) ≡ filter (λ x. both (passes k x) (passes j x)) (listed s)
  pub commute : (j k : Keep) (s : S) → Good s → listed (step j (step k s)) ≡ listed (step k (step j s))
  pub twice : (k : Keep) (s : S) → Good s → listed (step k (step k s)) ≡ listed (step k s)
  pub unchanged : (k : Keep) (s : S) → Good s → every (passes k) (listed s) ≡ true → listed (step k s) ≡ listed s

pub record Theorem : Type 0 where
  pub lists : Filters (λ l. Unit) listing kept
  pub list_pairs : Pairs listing kept single_list
  pub lists_commute : (j k : Keep) (l : List) → kept j (kept k l) ≡ kept k (kept j l)
  pub lists_twice : (k : Keep) (l : List) → kept k (kept k l) ≡ kept k l
  pub regulars : Filters Lasting regular_rules step_regular
  pub regular_pairs : Pairs regular_rules step_regular single_regular
