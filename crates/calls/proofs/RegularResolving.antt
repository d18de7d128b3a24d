-- What is left of a Regular set, as two masks, stands for the entries that are left of its full listing: a step of the masks is a step
-- of the entries, and the first of these has the index that the masks' ranks give. Assumes nothing.
use mathlib.Core.Path.{◌≡◌, refl, sym, ap, ap₂, ◌∙◌, subst}
use mathlib.Core.Bool.{Bool, true, false, not}
use mathlib.Core.List.{List, [], ◌∷◌, map}
use Prim.Native.Nat.{ℕ, zero, suc, ◌+◌, ◌*◌, ◌^◌, ◌≤◌, ◌<◌}
use native.Mathlib.Nat.{zero-add}
use native.Mathlib.Omega.{arith}
use lib.Dec.{ltb, lit≤}
use lib.ListN.{length}
use borrow.Author.Tests.{lt-ltb, ltb-true}
use Rattle.scalars.specs.Mask.{choose, both, cons_if, filter, every, bits, head_or}
use Rattle.scalars.specs.OneBits.{step_of}
use Rattle.scalars.specs.Domain.{scalars, abstract?}
use Rattle.scalars.specs.Scalar.{first_scalar, most_general}
use Rattle.types.specs.Domain.{constructors}
use Rattle.rules.specs.Signature.{Signature, fits_by, fits, concrete}
use Rattle.rules.specs.declared.rule.Part.{Part}
use Rattle.lists.specs.Entry.{Entry, number, keep}
use Rattle.calls.specs.Choice.{chosen, first}
use Rattle.rules.specs.Rule.{rule_of}
use Rattle.regular.specs.Regular.{pairs, codes_of, signature_for, regular_rules, empty_set?, narrowed, concrete_set, all_conclude, concluded_of, concluded?, rule_from, rule_for}
use Rattle.regular.proofs.RegularRules.{concludes}
use Rattle.regular.specs.private.Tested.{Known}
use Rattle.calls.specs.Call.{answered}
use Rattle.calls.specs.private.CallSets.{Callable, place_in, indexed, preferred_in}
use Rattle.scalars.specs.Paper.{Paper, accepted, refusal, unused}
use Rattle.rules.specs.RulePaper.{rule_values}
use Rattle.lists.specs.ChosenPaper.{no_choice}
use Rattle.regular.specs.declared.regular.Regular.{Regular}
use Rattle.scalars.proofs.Bits.{bits-next, bits_none}
use Rattle.scalars.proofs.Walks.{ended-bits, walked-bits}
use Rattle.scalars.proofs.Filters.{both_left, every-filter, filter-true, filter_both, filter_map}
use Rattle.calls.proofs.Firsts.{keep-keep, keep-every}
use Rattle.calls.proofs.Narrowing.{Some}
use Rattle.calls.proofs.Positions.{rank-first, pairs_first}
use Rattle.regular.proofs.RegularCodes.{shapes, numbers, fits-pair, concrete-pair, narrowed-constructors, narrowed-scalars, codes-filter, every-select, bits_meet}
use Rattle.regular.proofs.RegularSteps.{passes-each, concrete-each}
use Rattle.regular.proofs.Regulars.{some_first, pairs-none, codes-none}

-- the entries left are those that pass a test which asks the constructor and the scalar apart, and the masks hold what passes either
pub record Holds (set left : Regular) (s : List Entry) : Type 0 where
  pub test : Signature → Bool
  pub shape : ℕ → Bool
  pub scalar : ℕ → Bool
  pub splits : (k n : ℕ) → k < 13 → n < 12 → test (signature_for set (k * 12 + n)) ≡ both (shape k) (scalar n)
  pub entries : s ≡ keep test (number 0 (regular_rules set))
  pub constructors : bits 13 left.constructors.0 ≡ filter shape (bits 13 set.constructors.0)
  pub scalars : bits 12 left.scalars.0 ≡ filter scalar (bits 12 set.scalars.0)

-- ---- the whole set, and each step

pub holds-all : (set : Regular) → Holds set set (number 0 (regular_rules set))
holds-all set = record {
  test = λ r. true;
  shape = λ k. true;
  scalar = λ n. true;
  splits = λ k n h l. refl;
  entries = sym (keep-every (number 0 (regular_rules set)));
  constructors = sym (filter-true (bits 13 set.constructors.0));
  scalars = sym (filter-true (bits 12 set.scalars.0));
}

-- two tests, each in two parts
cross : (a b c d : Bool) → both (both a b) (both c d) ≡ both (both a c) (both b d)
cross true b true d = refl
cross true true false d = refl
cross true false false d = refl
cross false b c d = refl

pub holds-argument : (part : Part) (i t : ℕ) (set left : Regular) (s : List Entry) → i < set.arity → Holds set left s
    → Holds set (narrowed part t left) (keep (fits part i t) s)
holds-argument part i t set left s below h = record {
  test = λ r. both (h.test r) (fits part i t r);
  shape = λ k. both (h.shape k) (shapes part t k);
  scalar = λ n. both (h.scalar n) (numbers part t n);
  splits = λ k n p q.
      ap₂ both (h.splits k n p q) (passes-each (fits_by part t) set.arity i (k * 12 + n) below ∙ fits-pair part t k n p q)
      ∙ cross (h.shape k) (h.scalar n) (shapes part t k) (numbers part t n);
  entries = ap (keep (fits part i t)) h.entries ∙ keep-keep h.test (fits part i t) (number 0 (regular_rules set));
  constructors =
      narrowed-constructors part t left ∙ ap (filter (shapes part t)) h.constructors
      ∙ filter_both (shapes part t) h.shape (bits 13 set.constructors.0);
  scalars =
      narrowed-scalars part t left ∙ ap (filter (numbers part t)) h.scalars ∙ filter_both (numbers part t) h.scalar (bits 12 set.scalars.0);
}

holds-concrete : (set left : Regular) (s : List Entry) → 1 ≤ set.arity → Holds set left s → Holds set (concrete_set left) (keep concrete s)
unfolding concrete_set
holds-concrete set left s some h = record {
  test = λ r. both (h.test r) (concrete r);
  shape = λ k. both (h.shape k) true;
  scalar = λ n. both (h.scalar n) (not (abstract? n));
  splits = λ k n p q.
      ap₂ both (h.splits k n p q) (concrete-each set.arity (k * 12 + n) some ∙ concrete-pair k n p q)
      ∙ cross (h.shape k) (h.scalar n) true (not (abstract? n));
  entries = ap (keep concrete) h.entries ∙ keep-keep h.test concrete (number 0 (regular_rules set));
  constructors =
      sym (filter-true (bits 13 left.constructors.0))
      ∙ ap (filter (λ k. true)) h.constructors ∙ filter_both (λ k. true) h.shape (bits 13 set.constructors.0);
  scalars =
      bits_meet 12 (λ n. not (abstract? n)) left.scalars.0
      ∙ ap (filter (λ n. not (abstract? n))) h.scalars ∙ filter_both (λ n. not (abstract? n)) h.scalar (bits 12 set.scalars.0);
}

-- ---- none is left, or a first one

-- where no rule passes, no entry is kept
keep-none : (p : Signature → Bool) (rs : List Signature) (i : ℕ) → filter p rs ≡ [] → keep p (number i rs) ≡ []
keep-none p [] i e = refl
keep-none p (r ∷ rs) i e = go (p r) e (keep-none p rs (suc i))
  where
    go : (b : Bool) → cons_if b r (filter p rs) ≡ [] → (filter p rs ≡ [] → keep p (number (suc i) rs) ≡ [])
        → cons_if b (record { index = i; rule = r }) (keep p (number (suc i) rs)) ≡ []
    go true f ih = let z : ◌≡◌ {A = ℕ} 0 1 = cc in absurd (omega arith)
    go false f ih = ih f

module _ (set left : Regular) (s : List Entry) (h : Holds set left s) where
  left-codes : filter (λ t. h.test (signature_for set t)) (codes_of set) ≡ pairs (bits 13 left.constructors.0) (bits 12 left.scalars.0)
  unfolding codes_of
  left-codes =
      codes-filter (λ t. h.test (signature_for set t)) h.shape h.scalar h.splits set.constructors.0 set.scalars.0
      ∙ sym (ap₂ pairs h.constructors h.scalars)

  left-none : pairs (bits 13 left.constructors.0) (bits 12 left.scalars.0) ≡ [] → s ≡ []
  unfolding regular_rules
  left-none e =
      h.entries
      ∙ keep-none h.test (regular_rules set) 0
      (filter_map h.test (signature_for set) (codes_of set) ∙ ap (map (signature_for set)) (left-codes ∙ e))

  left-first : (k : ℕ) (ks : List ℕ) → bits 13 left.constructors.0 ≡ k ∷ ks → (n : ℕ) (ns : List ℕ) → bits 12 left.scalars.0 ≡ n ∷ ns
      → first s ≡ chosen (place_in set k n) (signature_for set (k * 12 + n))
  unfolding regular_rules codes_of place_in bits
  left-first k ks c n ns d =
      let ce : filter h.shape (bits 13 set.constructors.0) ≡ k ∷ ks = sym h.constructors ∙ c in
      let de : filter h.scalar (bits 12 set.scalars.0) ≡ n ∷ ns = sym h.scalars ∙ d in
      ap first h.entries
      ∙ pairs_first (signature_for set) h.test h.shape h.scalar h.splits (bits 13 set.constructors.0) (bits 12 set.scalars.0)
      (every-select (λ k. ltb k 13) constructors set.constructors.0 refl) (every-select (λ s. ltb s 12) scalars set.scalars.0 refl)
      0 k ks ce n ns de
      ∙ ap (λ (i : ℕ). chosen i (signature_for set (k * 12 + n)))
      (zero-add _
      ∙ ap₂ (λ (a b : ℕ). a * length (bits 12 set.scalars.0) + b)
      (rank-first h.shape 13 set.constructors.0 k ks ce) (rank-first h.scalar 12 set.scalars.0 n ns de))

  -- the first that is left has a conclusion, as all have
  concluded : all_conclude set ≡ true → (k : ℕ) (ks : List ℕ) → bits 13 left.constructors.0 ≡ k ∷ ks → (n : ℕ) (ns : List ℕ)
      → bits 12 left.scalars.0 ≡ n ∷ ns → rule_for set (k * 12 + n) ≡ accepted (rule_values (rule_of (signature_for set (k * 12 + n))))
  unfolding all_conclude rule_for
  concluded all k ks c n ns d =
      go (concluded_of set.conclude (k * 12 + n)) refl
      (both_left (concludes set (k * 12 + n)) _
      (ap (every (concludes set)) (sym (left-codes ∙ ap₂ pairs c d)) ∙ every-filter (concludes set) (λ t. h.test (signature_for set t)) (codes_of set) all))
    where
      go : (a : Paper) → concluded_of set.conclude (k * 12 + n) ≡ a → concluded? (concluded_of set.conclude (k * 12 + n)) ≡ true
          → rule_from set.arity (k * 12 + n) (concluded_of set.conclude (k * 12 + n)) ≡ accepted (rule_values (rule_of (signature_for set (k * 12 + n))))
      go (accepted vs) q o = rw q
      go (refusal m p vs) q o = let z : ◌≡◌ {A = ℕ} 0 1 = cc in absurd (omega arith)

  -- the preferred rule, by the masks, is the first entry's
  pub holds-preferred : Callable set → preferred_in set (bits 13 left.constructors.0) (bits 12 left.scalars.0) ≡ answered (first s)
  holds-preferred callable = go (bits 13 left.constructors.0) (bits 12 left.scalars.0) refl refl
    where
      go : (ks ns : List ℕ) → bits 13 left.constructors.0 ≡ ks → bits 12 left.scalars.0 ≡ ns → preferred_in set ks ns ≡ answered (first s)
      go [] ns c d = sym (ap (λ (x : List Entry). answered (first x)) (left-none (ap₂ pairs c d)))
      go (k ∷ ks) [] c d = sym (ap (λ (x : List Entry). answered (first x)) (left-none (ap₂ pairs c d ∙ pairs-none (k ∷ ks))))
      go (k ∷ ks) (n ∷ ns) c d = ap (indexed (place_in set k n)) (concluded callable.concludes k ks c n ns d) ∙ sym (ap answered (left-first k ks c n ns d))

  -- what the masks' test says of the entries
  pub holds-none : empty_set? left ≡ true → s ≡ []
  unfolding codes_of
  holds-none e = left-none (codes-none left e)

  pub holds-some : Known left → empty_set? left ≡ false → Some s
  holds-some known e =
      let p = some_first left e in (
        _,
        _,
        left-first _ _ (bits-next 16 13 left.constructors.0 (lit≤ tt) p.0 known.constructors)
            _ _ (bits-next 16 12 left.scalars.0 (lit≤ tt) p.1 known.scalars),
      )

  -- of a set without constructors nothing is left
  left-nothing : set.constructors.0 ≡ 0 → (ns : List ℕ) → preferred_in set (bits 13 left.constructors.0) ns ≡ answered (first (keep concrete s))
  left-nothing e ns =
      let c : bits 13 left.constructors.0 ≡ [] =
      h.constructors ∙ ap (λ (m : ℕ). filter h.shape (bits 13 m)) e ∙ ap (filter h.shape) (bits_none 13) in
      ap (λ (ks : List ℕ). preferred_in set ks ns) c
      ∙ sym (ap (λ (x : List Entry). answered (first (keep concrete x))) (left-none (ap (λ (ks : List ℕ). pairs ks (bits 12 left.scalars.0)) c)))

-- with the switch on, of what is concrete
pub holds_switched : (set left : Regular) (s : List Entry) → Holds set left s → Callable set
    → preferred_in set (bits 13 (concrete_set left).constructors.0) (bits 12 (concrete_set left).scalars.0) ≡ answered (first (keep concrete s))
unfolding concrete_set
holds_switched set left s h callable = go set.arity refl
  where
    go : (n : ℕ) → set.arity ≡ n → preferred_in set (bits 13 (concrete_set left).constructors.0) (bits 12 (concrete_set left).scalars.0) ≡ answered (first (keep concrete s))
    go zero e = left-nothing set left s h (callable.none e) _
    go (suc n) e = holds-preferred set (concrete_set left) (keep concrete s) (holds-concrete set left s (omega arith) h) callable

-- ---- the preferred rule of masks

-- the lowest scalar, as `most_general_scalar` answers it
module _ (m : ℕ) (known : m < 2 ^ 12) where
  first-is : first_scalar (bits 12 m) ≡ most_general m
  unfolding most_general
  first-is = sym (ap (λ (b : Bool). choose b (first_scalar (bits 12 m)) (refusal 7 0 (unused ∷ []))) (lt-ltb m (2 ^ 12) known))

  pub scalar-none : {n p : ℕ} {vs : List ℕ} → most_general m ≡ refusal n p vs → bits 12 m ≡ []
  scalar-none {n} {p} {vs} e = go (bits 12 m) (first-is ∙ e)
    where
      go : (ks : List ℕ) → first_scalar ks ≡ refusal n p vs → ks ≡ []
      go [] f = refl
      go (k ∷ ks) f = let z : ◌≡◌ {A = ℕ} 0 1 = cc in absurd (omega arith)

  pub scalar-some : {k : ℕ} → most_general m ≡ accepted (k ∷ []) → (k < 12) × (rest : List ℕ) × (bits 12 m ≡ k ∷ rest)
  unfolding bits
  scalar-some {k} e = go (bits 12 m) (first-is ∙ e) (every-select (λ s. ltb s 12) scalars m refl)
    where
      go : (ks : List ℕ) → first_scalar ks ≡ accepted (k ∷ []) → every (λ s. ltb s 12) ks ≡ true → (k < 12) × (rest : List ℕ) × (ks ≡ k ∷ rest)
      go [] f all = let z : ◌≡◌ {A = ℕ} 0 1 = cc in absurd (omega arith)
      go (j ∷ ks) f all = let z : j ≡ k = cc in (subst (λ (n : ℕ). n < 12) z (ltb-true _ _ (both_left (ltb j 12) _ all)), ks, ap (λ (n : ℕ). n ∷ ks) z)

-- the first constructor that is left, as a step of a walk over the mask finds it
module _ (m : ℕ) (known : m < 2 ^ 13) {word : ℕ} (is : word ≡ m) where
  pub constructor-none : accepted [] ≡ step_of (bits 64 word) → bits 13 m ≡ []
  constructor-none e = ap (bits 13) (sym is) ∙ ended-bits word (omega arith) 13 e

  pub constructor-some : (b r : ℕ) {k : ℕ} → accepted (b ∷ r ∷ []) ≡ step_of (bits 64 word) → k ≡ head_or 64 (bits 64 b)
      → (k < 13) × (rest : List ℕ) × (bits 13 m ≡ k ∷ rest)
  constructor-some b r e n =
      let w = walked-bits 13 word (lit≤ tt) (omega arith) e n in
      (w.below, bits 13 r, ap (bits 13) (sym is) ∙ w.numbers)

pub none-preferred : (set : Regular) (ks : List ℕ) {ns : List ℕ} → ns ≡ [] → refusal 1 0 no_choice ≡ preferred_in set ks ns
none-preferred set [] e = refl
none-preferred set (k ∷ ks) e = sym (ap (preferred_in set (k ∷ ks)) e)
