-- Steps in turn, as the contracts permit them, leave the set that the steps' definitions leave, or are refused 7 at the first number that is
-- no type. A question whose contract is an equation of papers has the paper of its definition for its answer. Assumes nothing.
use mathlib.Core.Path.{◌≡◌, refl, sym, ap, ◌∙◌, subst}
use mathlib.Core.Logic.{◌↔◌}
use mathlib.Core.Bool.{Bool, true, false}
use mathlib.Core.List as L
use mathlib.Core.List.{[], ◌∷◌}
use Rattle.std.specs.Prelude.{Result, Ok, Err}
use Rattle.scalars.specs.Mask.{choose, every}
use Rattle.scalars.specs.Paper.{Paper, accepted, refusal}
use Rattle.scalars.specs.declared.refusal.Refusal.{Refusal}
use Rattle.scalars.specs.declared.refusal.Refusal.TheVariants.{Unknown}
use Rattle.rules.specs.declared.rule.Keep.{Keep}
use Rattle.rules.specs.declared.rule.Keep.TheVariants.{Argument, Concrete}
use Rattle.regular.specs.private.Tested.{Known}
use Rattle.regular.specs.SetPaper.{regular_values, no_set, regular_paper}
use Rattle.regular.specs.declared.regular.Regular.{Regular}
use Rattle.lists.specs.ChosenPaper.{list_values, no_list_values, list_paper}
use Rattle.lists.specs.List.{accepted_list, kept}
use Rattle.lists.specs.declared.list.List.{List}
use Rattle.scalars.proofs.Filters.{both_left, both_right}
use Rattle.regular.proofs.SetPapers.{regular-one}
use Rattle.theorems.proofs.ChosenPapers.{list-one}
use Rattle.theorems.proofs.InTurn.{in_turn}
use Rattle.theorems.specs.Steps.{step_regular}
use Rattle.theorems.proofs.SetSteps.{known_step, ask_regular, asked-regular, step-known}
use Rattle.theorems.proofs.ListSteps.{Tested, kept-tested}
use Rattle.theorems.proofs.Alike.{ask_list, asked-list}
use Rattle.theorems.specs.Operations.{Set, regular, list, Paper_of, Answer, set, refused, regular_answer, list_answer, Answer_of, Step, InTurn, done, stopped, step, After}

-- ---- questions

-- where the contract says that the answer's paper is m, and m is the paper n of some answer y
pub asked : {A : Type 0} (paper : A → Paper) (m n : Paper) → m ≡ n → (y : A) → paper y ≡ n → (p : Paper)
    → Paper_of paper (λ x. paper x ≡ m) p ↔ p ≡ n
asked paper m n g y e p = (λ (x, q, f). f ∙ q ∙ g, λ f. (y, e ∙ sym g, f ∙ sym e))

-- ---- a step: to each kind of set its definition's answer, and no other

abbrev pub step_answer : Keep → Set → Answer
step_answer k s = choose (known_step k) (set s) (refused (Unknown 0))

module _ (k : Keep) (r : Regular) (h : Known r) where
  regular-is : (x : Result Regular Refusal) → regular_paper x ≡ ask_regular k r → regular_answer x ≡ step_answer k (regular (step_regular k r))
  regular-is x q = go (known_step k) (q ∙ asked-regular k r h)
    where
      go : (b : Bool) → regular_paper x ≡ choose b (accepted (regular_values (step_regular k r))) (refusal 7 0 no_set)
          → regular_answer x ≡ choose b (set (regular (step_regular k r))) (refused (Unknown 0))
      go true e = ap regular_answer (regular-one x (Ok (step_regular k r)) e)
      go false e = ap regular_answer (regular-one x (Err (Unknown 0)) e)

  regular-so : Answer_of regular_answer (λ x. regular_paper x ≡ ask_regular k r) (step_answer k (regular (step_regular k r)))
  regular-so = go (known_step k) (asked-regular k r h)
    where
      go : (b : Bool) → ask_regular k r ≡ choose b (accepted (regular_values (step_regular k r))) (refusal 7 0 no_set)
          → Answer_of regular_answer (λ x. regular_paper x ≡ ask_regular k r) (choose b (set (regular (step_regular k r))) (refused (Unknown 0)))
      go true e = (Ok (step_regular k r), sym e, refl)
      go false e = (Err (Unknown 0), sym e, refl)

module _ (k : Keep) (l : List) (t : Tested l) where
  list-is : (x : Result List Refusal) → list_paper x ≡ ask_list k l → list_answer x ≡ step_answer k (list (kept k l))
  unfolding accepted_list
  list-is x q = go (known_step k) (q ∙ asked-list k l t)
    where
      go : (b : Bool) → list_paper x ≡ choose b (accepted (list_values (kept k l))) (refusal 7 0 no_list_values)
          → list_answer x ≡ choose b (set (list (kept k l))) (refused (Unknown 0))
      go true e = ap list_answer (list-one x (Ok (kept k l)) e)
      go false e = ap list_answer (list-one x (Err (Unknown 0)) e)

  list-so : Answer_of list_answer (λ x. list_paper x ≡ ask_list k l) (step_answer k (list (kept k l)))
  unfolding accepted_list
  list-so = go (known_step k) (asked-list k l t)
    where
      go : (b : Bool) → ask_list k l ≡ choose b (accepted (list_values (kept k l))) (refusal 7 0 no_list_values)
          → Answer_of list_answer (λ x. list_paper x ≡ ask_list k l) (choose b (set (list (kept k l))) (refused (Unknown 0)))
      go true e = (Ok (kept k l), sym e, refl)
      go false e = (Err (Unknown 0), sym e, refl)

regular-step : (k : Keep) (r : Regular) → Known r → (a : Answer) → Step k (regular r) a → a ≡ step_answer k (regular (step_regular k r))
regular-step (Argument part i t) r h a (x, q, e) = e ∙ regular-is (Argument part i t) r h x q
regular-step Concrete r h a (x, q, e) = e ∙ regular-is Concrete r h x q

step_regular_lem : (k : Keep) (r : Regular) → Known r → Step k (regular r) (step_answer k (regular (step_regular k r)))
step_regular_lem (Argument part i t) r h = regular-so (Argument part i t) r h
step_regular_lem Concrete r h = regular-so Concrete r h

list_step : (k : Keep) (l : List) → Tested l → (a : Answer) → Step k (list l) a → a ≡ step_answer k (list (kept k l))
list_step (Argument part i t) l h a (x, q, e) = e ∙ list-is (Argument part i t) l h x q
list_step Concrete l h a (x, q, e) = e ∙ list-is Concrete l h x q

step-list : (k : Keep) (l : List) → Tested l → Step k (list l) (step_answer k (list (kept k l)))
step-list (Argument part i t) l h = list-so (Argument part i t) l h
step-list Concrete l h = list-so Concrete l h

-- ---- steps in turn, of either kind of set

refused-turn : {ks : L.List Keep} {why : Refusal} {b : Answer} → InTurn ks (refused why) b → b ≡ refused why
refused-turn done = refl
refused-turn stopped = refl

-- what steps leave of a set of one kind, one step after the other
abbrev pub leaves : {S : Type 0} → (S → Set) → (Keep → S → S) → L.List Keep → S → Answer
leaves kind next [] x = set (kind x)
leaves kind next (k ∷ ks) x = choose (known_step k) (leaves kind next ks (next k x)) (refused (Unknown 0))

module _ {S : Type 0} (kind : S → Set) (next : Keep → S → S) (Good : S → Type 0) (keeps : (k : Keep) (x : S) → Good x → Good (next k x))
    (is : (k : Keep) (x : S) → Good x → (a : Answer) → Step k (kind x) a → a ≡ step_answer k (kind (next k x)))
    (so : (k : Keep) (x : S) → Good x → Step k (kind x) (step_answer k (kind (next k x)))) where
  pub turn_is : (ks : L.List Keep) (x : S) → Good x → (b : Answer) → InTurn ks (set (kind x)) b → b ≡ leaves kind next ks x
  turn_is [] x g b done = refl
  turn_is (k ∷ ks) x g b (step {a = a} p rest) =
      go (turn_is ks (next k x) (keeps k x g) b) (known_step k) (subst (λ c. InTurn ks c b) (is k x g a p) rest)
    where
      go : (InTurn ks (set (kind (next k x))) b → b ≡ leaves kind next ks (next k x)) → (y : Bool)
          → InTurn ks (choose y (set (kind (next k x))) (refused (Unknown 0))) b → b ≡ choose y (leaves kind next ks (next k x)) (refused (Unknown 0))
      go more true r = more r
      go more false r = refused-turn r

  known-left : (ks : L.List Keep) (x : S) → every known_step ks ≡ true → leaves kind next ks x ≡ set (kind (in_turn next ks x))
  known-left [] x e = refl
  known-left (k ∷ ks) x e = rw (both_left (known_step k) _ e) (known-left ks (next k x) (both_right (known_step k) _ e))

  known-turn : (ks : L.List Keep) (x : S) → Good x → every known_step ks ≡ true → InTurn ks (set (kind x)) (set (kind (in_turn next ks x)))
  known-turn [] x g e = done
  known-turn (k ∷ ks) x g e =
      step (rw (both_left (known_step k) _ e) at (so k x g)) (known-turn ks (next k x) (keeps k x g) (both_right (known_step k) _ e))

  -- after known steps a question is asked of the set that they leave
  after-known : (question : Set → Paper → Type 0) (ks : L.List Keep) (x : S) → Good x → every known_step ks ≡ true → (p : Paper)
      → After question ks (kind x) p ↔ question (kind (in_turn next ks x)) p
  after-known question ks x g e p = (
    λ (s, t, q). let f : s ≡ kind (in_turn next ks x) = same (turn_is ks x g (set s) t ∙ known-left ks x e) in rw f at q,
    λ q. (kind (in_turn next ks x), known-turn ks x g e, q),
  )
    where
      same : {s t : Set} → set s ≡ set t → s ≡ t
      same e = cc

pub regular-left : (ks : L.List Keep) (r : Regular) → Known r → (b : Answer) → InTurn ks (set (regular r)) b → b ≡ leaves regular step_regular ks r
regular-left = turn_is regular step_regular Known step-known regular-step step_regular_lem

pub list_left : (ks : L.List Keep) (l : List) → Tested l → (b : Answer) → InTurn ks (set (list l)) b → b ≡ leaves list kept ks l
list_left = turn_is list kept Tested kept-tested list_step step-list

pub after-regular : (question : Set → Paper → Type 0) (ks : L.List Keep) (r : Regular) → Known r → every known_step ks ≡ true → (p : Paper)
    → After question ks (regular r) p ↔ question (regular (in_turn step_regular ks r)) p
after-regular = after-known regular step_regular Known step-known regular-step step_regular_lem

pub after_list : (question : Set → Paper → Type 0) (ks : L.List Keep) (l : List) → Tested l → every known_step ks ≡ true → (p : Paper)
    → After question ks (list l) p ↔ question (list (in_turn kept ks l)) p
after_list = after-known list kept Tested kept-tested list_step step-list
