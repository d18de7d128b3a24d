-- Demand 2 holds of every listing whose rules have one length, and so of the 79 functions; as specs/Demand2.antt states it.
-- Assumes nothing.
use mathlib.Core.Path.{◌≡◌, refl, sym, ap, ◌∙◌, subst}
use mathlib.Core.Bool.{Bool, true, false, false≢true}
use mathlib.Core.List.{List, [], ◌∷◌}
use mathlib.Core.Option.{some}
use Prim.Native.Nat.{ℕ, zero, suc, ◌<◌}
use native.Mathlib.Omega.{arith}
use lib.Dec.{ltb}
use lib.ListN.{length, get_or, get_elem?}
use borrow.Author.Tests.{ltb-true, ltb-false}
use Rattle.rules.specs.Signature.{Signature, same_shape, reaches}
use Rattle.rules.specs.declared.rule.Part.{Part}
use Rattle.rules.specs.declared.rule.Part.TheVariants.{Shape, Number}
use Rattle.scalars.specs.Mask.{select}
use Rattle.lists.specs.Entry.{number}
use Rattle.calls.specs.Choice.{first, Choice, chosen, wrong_count, none_after, none_concrete, resolve}
use Rattle.rules.specs.Verdict.{longest}
use Rattle.theorems.specs.Taking.{Takes, Taken, NoRule, Best, OneLength, LeftAfter, ShapeLeft, NoneBy, Emptied, bit, Survive, Says}
use Rattle.calls.specs.Call.{survivors_of}
use Rattle.scalars.specs.Paper as paper
use Rattle.theorems.specs.Demand2.{Demand2, Theorem}
use Rattle.functions.specs.Functions.{listing_of}
use Rattle.functions.proofs.Database.{one-length}
use Rattle.scalars.proofs.Filters.{both_left}
use Rattle.theorems.proofs.Operands.{matches_no_rule}
use Rattle.theorems.proofs.SurvivorBits.{survivor_bit}
use Rattle.theorems.proofs.Choices.{passes-takes, takes-passes, resolve-says}
use Rattle.calls.proofs.Surviving.{Surviving, survivors-members, survivors-refused}

module _ (switch : Bool) (rules : List Signature) (ts : List ℕ) (one : OneLength rules) where
  -- ---- what is said of a call is said of one choice alone

  -- a rule that takes all operands takes those up to k
  pub left_after : (i : ℕ) (r : Signature) → get_elem? rules i ≡ some r → Takes switch ts r → (k : ℕ) → k < length ts → LeftAfter rules ts k
  left_after i r h t k l =
      let m : length ts ≡ length r.arguments = t.many in
      record { index = i; rule = r; there = h; long = omega arith; reached = λ j b. t.reached j (omega arith) }

  counted : (i : ℕ) (r : Signature) → get_elem? rules i ≡ some r → Takes switch ts r → length ts ≡ longest rules
  unfolding OneLength
  counted i r h t = t.many ∙ one i r h

  same-best : (i j : ℕ) (r s : Signature) → Best switch rules ts i r → Best switch rules ts j s → chosen i r ≡ chosen j s
  same-best i j r s a b = go (ltb i j) (ltb j i) refl refl
    where
      go : (x y : Bool) → ltb i j ≡ x → ltb j i ≡ y → chosen i r ≡ chosen j s
      go true y e f = absurd (b.earliest i (ltb-true i j e) r a.there a.taken)
      go false true e f = absurd (a.earliest j (ltb-true j i f) s b.there b.taken)
      go false false e f =
          let z : i ≡ j = omega (arith, ltb-false i j e, ltb-false j i f) in
          let g : some r ≡ some s = sym a.there ∙ ap (λ (k : ℕ). get_elem? rules k) z ∙ b.there in
          cc

  -- a rule that takes the operands up to k has k's shape there, so either part that leaves none leaves no such rule
  has-shape : (k : ℕ) → LeftAfter rules ts k → ShapeLeft rules ts k
  unfolding reaches
  has-shape k w = record {
    index = w.index;
    rule = w.rule;
    there = w.there;
    long = w.long;
    reached = λ j lt. w.reached j (omega arith);
    shape = both_left (same_shape (get_or ts k 0) (get_or w.rule.arguments k 0)) _ (w.reached k (omega arith));
  }

  pub none_after_lem : (part : Part) (k : ℕ) → NoneBy part rules ts k → LeftAfter rules ts k → ⊥
  none_after_lem Shape k n w = n (has-shape k w)
  none_after_lem Number k n w = n.1 w

  -- of one operand one part alone leaves none
  same-part : (part other : Part) (k : ℕ) → NoneBy part rules ts k → NoneBy other rules ts k → none_after part k ≡ none_after other k
  same-part Shape Shape k m n = refl
  same-part Shape Number k m n = absurd (m n.0)
  same-part Number Shape k m n = absurd (n m.0)
  same-part Number Number k m n = refl

  same_operand : (part other : Part) (j k : ℕ) → Emptied part rules ts j → Emptied other rules ts k → none_after part j ≡ none_after other k
  same_operand part other j k a b = go (ltb j k) (ltb k j) refl refl
    where
      go : (x y : Bool) → ltb j k ≡ x → ltb k j ≡ y → none_after part j ≡ none_after other k
      go true y e f = absurd (none_after_lem part j a.none (b.before j (ltb-true j k e)))
      go false true e f = absurd (none_after_lem other k b.none (a.before k (ltb-true k j f)))
      go false false e f =
          let z : j ≡ k = omega (arith, ltb-false j k e, ltb-false k j f) in
          ap (none_after part) z ∙ same-part part other k (subst (NoneBy part rules ts) z a.none) b.none

  no-best : (i : ℕ) (r : Signature) → Best switch rules ts i r → NoRule switch rules ts → ⊥
  unfolding NoRule
  no-best i r a n = n i r a.there a.taken

  says-one : (c d : Choice) → Says switch rules ts c → Says switch rules ts d → c ≡ d
  says-one (chosen i r) (chosen j s) a b = same-best i j r s a b
  says-one (chosen i r) wrong_count a b = absurd (b (counted i r a.there a.taken))
  says-one (chosen i r) (none_after part k) a b = absurd (none_after_lem part k b.none (left_after i r a.there a.taken k b.there))
  says-one (chosen i r) none_concrete a b = absurd (no-best i r a b.none)
  says-one wrong_count (chosen j s) a b = absurd (a (counted j s b.there b.taken))
  says-one wrong_count wrong_count a b = refl
  says-one wrong_count (none_after part k) a b = absurd (a b.counted)
  says-one wrong_count none_concrete a b = absurd (a b.counted)
  says-one (none_after part k) (chosen j s) a b = absurd (none_after_lem part k a.none (left_after j s b.there b.taken k a.there))
  says-one (none_after part k) wrong_count a b = absurd (b a.counted)
  says-one (none_after part j) (none_after other k) a b = same_operand part other j k a b
  says-one (none_after part k) none_concrete a b = absurd (none_after_lem part k a.none (b.after k a.there))
  says-one none_concrete (chosen j s) a b = absurd (no-best j s b a.none)
  says-one none_concrete wrong_count a b = absurd (b a.counted)
  says-one none_concrete (none_after part k) a b = absurd (none_after_lem part k b.none (a.after k b.there))
  says-one none_concrete none_concrete a b = refl

  -- ---- exactly

  -- the steps make a choice exactly when what it says is so
  pub exactly : (c : Choice) → (resolve switch rules ts ≡ c → Says switch rules ts c) × (Says switch rules ts c → resolve switch rules ts ≡ c)
  exactly c = (λ e. subst (Says switch rules ts) e (resolve-says switch rules ts one), λ s. says-one (resolve switch rules ts) c (resolve-says switch rules ts one) s)

  -- a call is accepted exactly when some rule takes the operands
  accepted : (i : ℕ) (r : Signature) → resolve switch rules ts ≡ chosen i r → Taken switch rules ts
  accepted i r e = let b = (exactly (chosen i r)).0 e in record { index = i; rule = r; there = b.there; takes = b.taken }

  accepts : Taken switch rules ts → (i : ℕ) × (r : Signature) × (resolve switch rules ts ≡ chosen i r)
  unfolding NoRule
  accepts t = go (resolve switch rules ts) refl (resolve-says switch rules ts one)
    where
      go : (c : Choice) → resolve switch rules ts ≡ c → Says switch rules ts c → (i : ℕ) × (r : Signature) × (resolve switch rules ts ≡ chosen i r)
      go (chosen i r) e s = (i, r, e)
      go wrong_count e s = absurd (s (counted t.index t.rule t.there t.takes))
      go (none_after part k) e s = absurd (none_after_lem part k s.none (left_after t.index t.rule t.there t.takes k s.there))
      go none_concrete e s = absurd (s.none t.index t.rule t.there t.takes)

  -- ---- the survivors

  -- accepted, they are the rules that take the operands, and the call chooses the first; refused, the call is refused alike
  survive : (m : ℕ) → survivors_of switch rules ts ≡ paper.accepted (m ∷ []) → Survive switch rules ts m
  unfolding OneLength
  survive m e = record { within = h.within; exactly = λ i r f. (so i r f, λ t. survivor_bit switch rules ts m h i r f ∙ takes-passes switch ts r t) }
    where
      h : Surviving switch rules ts m
      h = survivors-members switch rules ts m e

      best : Best switch rules ts h.some.0 h.some.1
      best = (exactly (chosen h.some.0 h.some.1)).0 (h.choice ∙ h.some.2)

      so : (i : ℕ) (r : Signature) → get_elem? rules i ≡ some r → bit i m ≡ true → Takes switch ts r
      so i r f b =
          passes-takes switch ts r (counted h.some.0 h.some.1 best.there best.taken ∙ sym (one i r f)) (sym (survivor_bit switch rules ts m h i r f) ∙ b)

  preferred : (m : ℕ) → survivors_of switch rules ts ≡ paper.accepted (m ∷ []) → resolve switch rules ts ≡ first (select (number 0 rules) m)
  preferred m e = let h = survivors-members switch rules ts m e in h.choice ∙ sym (ap first h.members)

-- ---- refusal 1: only the switch empties the set

module _ (rules : List Signature) (ts : List ℕ) (one : OneLength rules) (some-rule : 0 < length rules) where
  -- a rule that is left after the last operand takes them all; of no operands, any rule does
  last_taken : length ts ≡ longest rules → ((j : ℕ) → j < length ts → LeftAfter rules ts j) → Taken false rules ts
  unfolding OneLength
  last_taken l after = go (length ts) refl
    where
      first_rule : (rs : List Signature) → 0 < length rs → (r : Signature) × (get_elem? rs 0 ≡ some r)
      first_rule [] h = absurd (omega arith)
      first_rule (r ∷ rs) h = (r, refl)

      taken : (i : ℕ) (r : Signature) → get_elem? rules i ≡ some r
          → ((k : ℕ) → k < length ts → reaches (get_or ts k 0) (get_or r.arguments k 0) ≡ true) → Taken false rules ts
      taken i r there reached = record {
        index = i;
        rule = r;
        there = there;
        takes = record { many = l ∙ sym (one i r there); reached = reached; allowed = λ b. absurd (false≢true b) };
      }

      go : (n : ℕ) → length ts ≡ n → Taken false rules ts
      go zero e = let (r, there) = first_rule rules some-rule in taken 0 r there (λ k h. absurd (omega arith))
      go (suc n) e = let w = after n (omega arith) in taken w.index w.rule w.there (λ k h. w.reached k (omega arith))

  dropped : (switch : Bool) → resolve switch rules ts ≡ none_concrete → (switch ≡ true) × Taken false rules ts × NoRule true rules ts
  unfolding NoRule
  dropped true e =
      let d = (exactly true rules ts one none_concrete).0 e in
      (refl, last_taken d.counted d.after, d.none)
  dropped false e =
      let d = (exactly false rules ts one none_concrete).0 e in
      let t = last_taken d.counted d.after in
      absurd (d.none t.index t.rule t.there t.takes)

  drops : (switch : Bool) → switch ≡ true → Taken false rules ts → NoRule true rules ts → resolve switch rules ts ≡ none_concrete
  drops false on t n = absurd (false≢true on)
  drops true on t n =
      (exactly true rules ts one none_concrete).1 record {
        counted = counted false rules ts one t.index t.rule t.there t.takes;
        after = left_after false rules ts one t.index t.rule t.there t.takes;
        none = n;
      }

-- ---- the theorem

pub demand_2 : Theorem
demand_2 switch rules ts one = record {
  chosen-so = λ c. (exactly switch rules ts one c).0;
  so-chosen = λ c. (exactly switch rules ts one c).1;
  accepted = accepted switch rules ts one;
  accepts = accepts switch rules ts one;
  survive = survive switch rules ts one;
  preferred = preferred switch rules ts one;
  no_value = matches_no_rule switch rules ts;
  dropped = λ h. (dropped rules ts one h switch, λ w. drops rules ts one h switch w.0 w.1 w.2);
  refused = survivors-refused switch rules ts;
}

-- for each of the 79 functions, and for no rules where the number is unknown
pub of_functions : (switch : Bool) (f : ℕ) (ts : List ℕ) → Demand2 switch (listing_of f) ts
unfolding OneLength
of_functions switch f ts = demand_2 switch (listing_of f) ts (one-length f)
