-- The law of specs/WgslRegulars.antt: fairness is enough, and it is exact for a Regular set with some constructor and some argument. Of a
-- set that is not fair, ABSTRACT_INT, or ABSTRACT_FLOAT where the set has F64, has a call whose rule is not WGSL's. Assumes nothing.
use mathlib.Core.Path.{◌≡◌, refl, sym, ap, ◌∙◌, subst}
use mathlib.Core.Bool.{Bool, true, false, not, true≢false}
use mathlib.Core.List.{List, [], ◌∷◌, map}
use mathlib.Core.Option.{some}
use mathlib.Core.Logic.{◌⊎◌, inl, inr, ⊎_elim}
use Prim.Native.Nat.{ℕ, zero, suc, ◌+◌, ◌*◌, ◌/◌, ◌%◌, ◌≤◌, ◌<◌}
use native.Mathlib.Omega.{arith}
use lib.Dec.{eqb, leb, ltb}
use lib.ListN.{length, get_or, get_elem?, replicate, length-replicate, get_or-replicate}
use borrow.Author.Tests.{eqb-true, leb-true, le-leb, ltb-true, lt-ltb}
use Rattle.scalars.specs.Mask.{choose, both, either, every, bits}
use Rattle.scalars.specs.Domain.{scalars, abstract_int, abstract_float, i32, u32, f64, converts, abstract?}
use Rattle.types.specs.Domain.{constructors, constructor_count, other_type, value?, scalar_part, is_abstract}
use Rattle.types.specs.TypeCode.{type_code}
use Rattle.types.proofs.Conversions.{yes_either}
use Rattle.rules.specs.Signature.{Signature}
use Rattle.regular.specs.Regular.{codes_of, signature_for, regular_rules}
use Rattle.regular.specs.declared.regular.Regular.{Regular}
use Rattle.regular.proofs.RegularCodes.{every-select}
use Rattle.regular.proofs.RegularRules.{every-replicate}
use Rattle.calls.specs.Choice.{chosen}
use Rattle.scalars.proofs.Filters.{both_left, both_right, both_true}
use Rattle.theorems.specs.Taking.{Takes, Taken}
use Rattle.theorems.specs.Wgsl.{wgsl_scalars, any, among, wgsl?, over_wgsl, conversions, scalar_rank, rank, rank_at, AtMost, Ranked}
use Rattle.theorems.specs.WgslLists.{implies}
use Rattle.theorems.specs.WgslRegulars.{scalars_of, constructors_of, stand_ins, stood_for, fair?, RegularLaw}
use Rattle.theorems.proofs.OneLength.{regular-one}
use Rattle.theorems.proofs.Demand2.{demand_2}
use Rattle.theorems.proofs.WgslArguments.{then, among-passes, Reaches}
use Rattle.theorems.proofs.WgslTypes.{yes_right, codes_ascend, known-scalars, scalar_in, type_in}
use Rattle.theorems.proofs.WgslRegulars.{a_copy, first-among, least_of, TakenBy, reached, takes_of, fair_ranked}

-- ---- truth values and lists

if_then : (a b : Bool) → (a ≡ true → b ≡ true) → implies a b ≡ true
if_then true b h = h refl
if_then false b h = refl

or_else : (a b : Bool) → (a ≡ false → b ≡ true) → either a b ≡ true
or_else true b h = refl
or_else false b h = h refl

every-member : (p : ℕ → Bool) (xs : List ℕ) → ((x : ℕ) → among xs x ≡ true → p x ≡ true) → every p xs ≡ true
every-member p [] h = refl
every-member p (x ∷ xs) h = both_true (h x (first-among x xs)) (every-member p xs (λ y e. h y (yes_right (eqb y x) e)))

any-member : (p : ℕ → Bool) (xs : List ℕ) (x : ℕ) → among xs x ≡ true → p x ≡ true → any p xs ≡ true
any-member p [] x e h = absurd (true≢false (sym e))
any-member p (y ∷ xs) x e h =
    ⊎_elim (λ f. let g : p y ≡ true = subst (λ (n : ℕ). p n ≡ true) (eqb-true x y f) h in rw g) (λ f. yes_right (p y) (any-member p xs x f h))
    (yes_either (eqb x y) (among xs x) e)

-- ---- computed: the operand that shows a scalar without a stand-in

abbrev shows : ℕ → ℕ
shows s = choose (eqb s f64) abstract_float abstract_int

-- a test of a scalar that WGSL lacks
abbrev lacking : ℕ → Bool → Bool
lacking s b = either (among wgsl_scalars s) b

abbrev shown : ℕ → Bool
shown s = lacking s (both (leb (shows s) 1) (both (converts (shows s) s) (not (abstract? s))))

all_shown : every shown scalars ≡ true
unfolding converts
all_shown = refl

-- WGSL's concrete scalars below it that the operand reaches are its stand-ins
abbrev stands : ℕ → ℕ → Bool
stands s u = lacking s (implies (both (leb u s) (both (converts (shows s) u) (not (abstract? u)))) (among (stand_ins s) u))

all_stand : every (λ s. every (stands s) wgsl_scalars) scalars ≡ true
unfolding converts
all_stand = refl

-- ---- a set with some constructor and some argument

module _ (r : Regular) (arguments : 0 < r.arity) (k : ℕ) (k-in : among (constructors_of r) k ≡ true) (ranked : Ranked (regular_rules r)) where
  k-below : k < 13
  unfolding bits
  k-below =
      ltb-true _ _ (among-passes (constructors_of r) (λ k. ltb k constructor_count) k
      (every-select (λ k. ltb k constructor_count) constructors r.constructors.0 refl) k-in)

  abbrev has : ℕ → Bool
  has s = among (scalars_of r) s

  s-below : (s : ℕ) → has s ≡ true → s < 12
  unfolding bits
  s-below s e = ltb-true _ _ (among-passes (scalars_of r) (λ s. ltb s 12) s (every-select (λ s. ltb s 12) scalars r.scalars.0 refl) e)

  -- the operands: as many of one abstract type as the set has arguments
  abbrev operands : ℕ → List ℕ
  operands x = replicate r.arity (type_code k x)

  -- a type over one of WGSL's scalars
  wgsl_type : (s : ℕ) → s < 12 → among wgsl_scalars s ≡ true → wgsl? (type_code k s) ≡ true
  wgsl_type s l w =
      let h = k-below in
      let column : (k * 12 + s) % 12 ≡ s = omega arith in
      both_true (lt-ltb (k * 12 + s) other_type (omega arith)) (subst (λ (n : ℕ). among wgsl_scalars n ≡ true) (sym column) w)

  module _ (switch : Bool) (x : ℕ) (x-abstract : x ≤ 1) where
    abbrev ts : List ℕ
    ts = operands x

    -- a scalar may be taken: it is concrete, if the switch is on
    abbrev Allowed : ℕ → Type 0
    Allowed s = switch ≡ true → not (abstract? s) ≡ true

    long : length ts ≡ r.arity
    long = length-replicate r.arity (type_code k x)

    ours : over_wgsl ts ≡ true
    ours = every-replicate wgsl? r.arity (type_code k x) (wgsl_type x (omega arith) (small x x-abstract))
      where
        small : (x : ℕ) → x ≤ 1 → among wgsl_scalars x ≡ true
        small zero l = refl
        small (suc zero) l = refl
        small (suc (suc x)) l = absurd (omega arith)

    operand : (j : ℕ) → j < length ts → get_or ts j 0 ≡ type_code k x
    operand j l = get_or-replicate r.arity j (type_code k x) 0 (let n = long in omega arith)

    -- a scalar of the set that the operand's converts to
    module _ (s : ℕ) (s-in : has s ≡ true) (c : converts x s ≡ true) (allowed : Allowed s) where
      column : (k * 12 + s) % 12 ≡ s
      column = let h = s-below s s-in in omega arith

      reach : Reaches (type_code k x) (type_code k s)
      reach =
          let h = s-below s s-in in
          let h' = k-below in
          let e : (k * 12 + x) / 12 ≡ (k * 12 + s) / 12 = omega arith in
          let f : (k * 12 + x) % 12 ≡ x = omega arith in
          record { value = lt-ltb (k * 12 + x) other_type (omega arith); constructor = e; scalar = rw (f, column) c }

      takes : TakenBy r switch ts (type_code k s)
      takes =
          takes_of r switch ts (type_code k s) long (λ j l. subst (λ (t : ℕ). Reaches t (type_code k s)) (sym (operand j l)) reach)
          (λ on. rw column (allowed on))

      taken : Taken switch (regular_rules r) ts
      unfolding regular_rules
      taken =
          let i = index_of (codes_of r) (type_code k s) (type_in r k s k-in s-in) in
          record { index = i.0; rule = signature_for r (type_code k s); there = i.1; takes = takes }
        where
          index_of : (codes : List ℕ) (a : ℕ) → among codes a ≡ true → (i : ℕ) × (get_elem? (map (signature_for r) codes) i ≡ some (signature_for r a))
          index_of [] a e = absurd (true≢false (sym e))
          index_of (y ∷ codes) a e =
              ⊎_elim (λ f. (0, ap (λ (n : ℕ). some (signature_for r n)) (sym (eqb-true a y f))))
              (λ f. let i = index_of codes a f in (suc i.0, i.1))
              (yes_either (eqb a y) (among codes a) e)

    -- the rank of every operand, for a type of the set
    rank_of : (b j : ℕ) → j < length ts → rank_at ts (signature_for r b) j ≡ scalar_rank x (scalar_part b)
    rank_of b j l =
        let e : (k * 12 + x) % 12 ≡ x = omega arith in
        ap (λ (t : ℕ). rank t (get_or (replicate r.arity b) j 0)) (operand j l)
        ∙ ap (rank (type_code k x)) (get_or-replicate r.arity j b 0 (let n = long in omega arith))
        ∙ ap (λ (n : ℕ). scalar_rank n (scalar_part b)) e

    -- the scalar of the rule that is chosen, where one of the set's is reached
    record Won (s : ℕ) : Type 0 where
      scalar : ℕ
      below : scalar ≤ s
      there : has scalar ≡ true
      concrete : Allowed scalar
      over : among wgsl_scalars scalar ≡ true
      converted : converts x scalar ≡ true
      unbeaten : (v : ℕ) → has v ≡ true → converts x v ≡ true → Allowed v → among wgsl_scalars v ≡ true
          → scalar_rank x v < scalar_rank x scalar → ⊥

    won : (s : ℕ) → has s ≡ true → converts x s ≡ true → Allowed s → Won s
    unfolding Ranked regular_rules is_abstract taken AtMost
    won s s-in c allowed =
        let n = long in
        let demand = demand_2 switch (regular_rules r) ts (regular-one r) in
        let y = demand.accepts (taken s s-in c allowed) in
        let p = y.1 in
        let b = demand.chosen-so (chosen y.0 p) y.2 in
        let f = least_of r switch ts 0 (codes_of r) (codes_ascend r) y.0 p b in
        let a = f.code in
        let h : TakenBy r switch ts a = subst (Takes switch ts) f.is b.taken in
        let m : a ≤ k * 12 + s = f.least (type_code k s) (type_in r k s k-in s-in) (takes s s-in c allowed) in
        let g : Reaches (type_code k x) a = subst (λ (t : ℕ). Reaches t a) (operand 0 (omega arith)) (reached r switch ts a h 0 (omega arith)) in
        let o : (k * 12 + x) / 12 ≡ a / 12 = g.constructor in
        let row : (k * 12 + x) % 12 ≡ x = omega arith in
        let pr = ranked switch ts ours y.0 p b in
        let over : over_wgsl (signature_for r a).arguments ≡ true = subst (λ (q : Signature). over_wgsl q.arguments ≡ true) f.is pr.over in
        let wa : wgsl? a ≡ true = a_copy wgsl? r.arity a over arguments in
        record {
          scalar = a % 12;
          below = omega arith;
          there = scalar_in r a f.there;
          concrete = λ on.
              drop (value? a) (abstract? (a % 12)) (both_left (value? a) _ wa)
              (a_copy (λ a. not (is_abstract a)) r.arity a (h.allowed on) arguments);
          over = both_right (value? a) _ wa;
          converted = subst (λ (z : ℕ). converts z (a % 12) ≡ true) row g.scalar;
          unbeaten =
              λ v v-in vc va vw lt.
              let vb = s-below v v-in in
              let col : (k * 12 + v) % 12 ≡ v = omega arith in
              let ranks : (j : ℕ) → j < length ts
              → (rank_at ts (signature_for r (type_code k v)) j ≡ scalar_rank x v) × (rank_at ts p j ≡ scalar_rank x (a % 12)) =
              λ j l. (rank_of (type_code k v) j l ∙ ap (scalar_rank x) col, ap (λ (q : Signature). rank_at ts q j) f.is ∙ rank_of a j l) in
              pr.unbeaten (taken v v-in vc va) (every-replicate wgsl? r.arity (type_code k v) (wgsl_type v vb vw))
              record {
                most = λ j l. let e = ranks j l in let e0 = e.0 in let e1 = e.1 in omega arith;
                operand = 0;
                there = omega arith;
                lower = let e = ranks 0 (omega arith) in let e0 = e.0 in let e1 = e.1 in omega arith;
              };
        }
      where
        drop : (b c : Bool) → b ≡ true → not (both b c) ≡ true → not c ≡ true
        drop true c e h = h
        drop false c e h = absurd (true≢false (sym e))

  -- ---- the two parts

  off : {A : Type 0} → false ≡ true → A
  off e = absurd (true≢false (sym e))

  has_int : both (has abstract_float) (either (has i32) (has u32)) ≡ true → has abstract_int ≡ true
  unfolding converts scalar_rank conversions
  has_int e =
      let w = won false abstract_int (omega arith) abstract_float (both_left (has abstract_float) _ e) refl off in
      go w.scalar w.below w.there (λ v i c vw. w.unbeaten v i c off vw)
      (yes_either (has i32) (has u32) (both_right (has abstract_float) _ e))
    where
      go : (u : ℕ) → u ≤ 1 → has u ≡ true
          → ((v : ℕ) → has v ≡ true → converts abstract_int v ≡ true → among wgsl_scalars v ≡ true
          → scalar_rank abstract_int v < scalar_rank abstract_int u → ⊥)
          → (has i32 ≡ true) ⊎ (has u32 ≡ true) → has abstract_int ≡ true
      go zero l h n i = h
      go (suc zero) l h n (inl i) = absurd (n i32 i refl refl (omega arith))
      go (suc zero) l h n (inr i) = absurd (n u32 i refl refl (omega arith))
      go (suc (suc u)) l h n i = absurd (omega arith)

  stood : (s : ℕ) → has s ≡ true → stood_for (scalars_of r) s ≡ true
  stood s e = or_else (among wgsl_scalars s) _ (λ lacks.
      let known = among-passes (scalars_of r) (among scalars) s (known-scalars r) e in
      let a = other lacks (among-passes scalars shown s all_shown known) in
      let b = both_right (leb (shows s) 1) _ a in
      let w =
      won true (shows s) (leb-true _ _ (both_left (leb (shows s) 1) _ a)) s e (both_left (converts (shows s) s) _ b)
      (λ on. both_right (converts (shows s) s) _ b) in
      any-member (among (scalars_of r)) (stand_ins s) w.scalar
      (then (other lacks
      (among-passes wgsl_scalars (stands s) w.scalar (among-passes scalars (λ s. every (stands s) wgsl_scalars) s all_stand known) w.over))
      (both_true (le-leb _ _ w.below) (both_true w.converted (w.concrete refl))))
      w.there)
    where
      other : {a b : Bool} → a ≡ false → either a b ≡ true → b ≡ true
      other f e = rw f at e

  ranked_fair : fair? r ≡ true
  unfolding fair?
  ranked_fair =
      both_true (if_then (both (has abstract_float) (either (has i32) (has u32))) (has abstract_int) has_int)
      (every-member (stood_for (scalars_of r)) (scalars_of r) stood)

pub regular_law : RegularLaw
regular_law r = record { enough = fair_ranked r; needed = ranked_fair r }
