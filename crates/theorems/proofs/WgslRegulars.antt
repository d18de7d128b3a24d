-- Of a Regular set whose scalars are fair (specs/WgslRegulars.antt), whatever its constructors and its arity, every call over WGSL's scalars
-- chooses by rank. The call chooses the least of the set's types that all operands reach; if it is not WGSL's, fairness names a lesser one
-- that they reach too. Assumes nothing.
use mathlib.Core.Path.{◌≡◌, refl, sym, ap, ◌∙◌, subst}
use mathlib.Core.Bool.{Bool, true, false, not, true≢false}
use mathlib.Core.List.{List, [], ◌∷◌, map}
use mathlib.Core.Option.{some}
use mathlib.Core.Logic.{⊎_elim}
use Prim.Native.Nat.{ℕ, zero, suc, ◌+◌, ◌*◌, ◌/◌, ◌%◌, ◌≤◌, ◌<◌}
use native.Mathlib.Omega.{arith}
use lib.Dec.{eqb, leb, ltb}
use lib.ListN.{length, get_or, get_elem?, replicate, length-replicate, get_or-replicate}
use borrow.Author.Tests.{eqb-true, eq-eqb, leb-true, le-leb, ltb-true}
use Rattle.scalars.specs.Mask.{both, either, every}
use Rattle.scalars.specs.Domain.{scalars, abstract_int, abstract_float, i32, u32, converts, abstract?}
use Rattle.types.specs.Domain.{value?, constructor_part, scalar_part, is_abstract}
use Rattle.types.specs.TypeCode.{type_code}
use Rattle.types.proofs.Conversions.{yes_either}
use Rattle.rules.specs.Signature.{Signature, reaches}
use Rattle.regular.specs.Regular.{codes_of, signature_for, regular_rules}
use Rattle.regular.specs.declared.regular.Regular.{Regular}
use Rattle.regular.proofs.RegularRules.{codes-values, every-replicate}
use Rattle.functions.proofs.Indices.{every-get_or}
use Rattle.scalars.proofs.Filters.{both_left, both_right, both_true}
use Rattle.theorems.specs.Taking.{Takes, Best}
use Rattle.theorems.specs.Wgsl.{wgsl_scalars, any, among, wgsl?, over_wgsl, conversions, scalar_rank, rank, AtMost, Ranked}
use Rattle.theorems.specs.WgslLists.{implies}
use Rattle.theorems.specs.WgslRegulars.{scalars_of, stand_ins, stood_for, with_int, fair?}
use Rattle.theorems.proofs.WgslArguments.{then, never, among-passes, two_pass, three_pass, Reaches, reaches_of, of_reaches, its_scalar}
use Rattle.theorems.proofs.WgslLists.{First, ranked_first}
use Rattle.theorems.proofs.WgslTypes.{Ascends, least, yes_right, codes_ascend, known-scalars, scalar_in, other-scalar}

-- ---- computed: scalars alone

-- one that stands in comes before, is concrete, and is reached by whatever reaches the other
abbrev stands_in : ℕ → ℕ → Bool
stands_in s c = both (ltb c s) (both (not (abstract? c)) (every (λ x. implies (converts x s) (converts x c)) wgsl_scalars))

stand_ins_lem : every (λ s. every (stands_in s) (stand_ins s)) scalars ≡ true
unfolding converts
stand_ins_lem = refl

-- in the order of their numbers, scalars rank in order, but for ABSTRACT_FLOAT before I32 and U32
abbrev before : ℕ → ℕ → Bool
before s u = both (eqb s abstract_float) (either (eqb u i32) (eqb u u32))

abbrev in_order : ℕ → ℕ → ℕ → Bool
in_order x s u =
    implies (both (leb s u) (both (converts x s) (converts x u))) (either (leb (scalar_rank x s) (scalar_rank x u)) (before s u))

in_order_lem : every (λ x. every (λ s. every (in_order x s) wgsl_scalars) wgsl_scalars) wgsl_scalars ≡ true
unfolding scalar_rank conversions converts
in_order_lem = refl

-- and what reaches those reaches ABSTRACT_INT
abbrev reaches_int : ℕ → ℕ → Bool
reaches_int x u = implies (both (either (eqb u i32) (eqb u u32)) (both (converts x abstract_float) (converts x u))) (converts x abstract_int)

reach_int : every (λ x. every (reaches_int x) wgsl_scalars) wgsl_scalars ≡ true
unfolding converts
reach_int = refl

-- ---- lists

pub a_copy : (p : ℕ → Bool) (n a : ℕ) → every p (replicate n a) ≡ true → 0 < n → p a ≡ true
a_copy p zero a e l = absurd (omega arith)
a_copy p (suc n) a e l = both_left (p a) _ e

record AnyAmong (p : ℕ → Bool) (xs : List ℕ) : Type 0 where
  member : ℕ
  there : among xs member ≡ true
  passes : p member ≡ true

pub first-among : (x : ℕ) (xs : List ℕ) → among (x ∷ xs) x ≡ true
first-among x xs = rw (eq-eqb x x refl)

any-among : (p : ℕ → Bool) (xs : List ℕ) → any p xs ≡ true → AnyAmong p xs
any-among p [] e = absurd (true≢false (sym e))
any-among p (x ∷ xs) e =
    ⊎_elim (λ f. record { member = x; there = first-among x xs; passes = f })
    (λ f. let g = any-among p xs f in record { member = g.member; there = yes_right (eqb g.member x) g.there; passes = g.passes })
    (yes_either (p x) (any p xs) e)

pub not_abstract : (a : ℕ) → not (abstract? (scalar_part a)) ≡ true → not (is_abstract a) ≡ true
unfolding is_abstract
not_abstract a e = go (value? a) (abstract? (scalar_part a)) e
  where
    go : (b c : Bool) → not c ≡ true → not (both b c) ≡ true
    go true c e = e
    go false c e = refl

-- ---- the rules of a set, by their types

module _ (r : Regular) where
  record Rule (codes : List ℕ) (q : Signature) : Type 0 where
    code : ℕ
    is : q ≡ signature_for r code
    there : among codes code ≡ true

  rule_of : (codes : List ℕ) (i : ℕ) (q : Signature) → get_elem? (map (signature_for r) codes) i ≡ some q → Rule codes q
  rule_of [] i q e = let z : ◌≡◌ {A = ℕ} 0 1 = cc in absurd (omega arith)
  rule_of (x ∷ codes) zero q e = record { code = x; is = cc; there = first-among x codes }
  rule_of (x ∷ codes) (suc i) q e =
      let g = rule_of codes i q e in
      record { code = g.code; is = g.is; there = yes_right (eqb g.code x) g.there }

  module _ (switch : Bool) (ts : List ℕ) where
    -- a type's rule takes the operands
    abbrev pub TakenBy : ℕ → Type 0
    TakenBy a = Takes switch ts (signature_for r a)

    -- the rule that a call chooses, of an ascending listing
    pub record Least (codes : List ℕ) (p : Signature) : Type 0 where
      pub code : ℕ
      pub is : p ≡ signature_for r code
      pub there : among codes code ≡ true
      pub least : (b : ℕ) → among codes b ≡ true → TakenBy b → code ≤ b

    pub least_of : (n : ℕ) (codes : List ℕ) → Ascends n codes → (i : ℕ) (p : Signature) → Best switch (map (signature_for r) codes) ts i p
        → Least codes p
    least_of n [] a i p b = let f = b.there in let z : ◌≡◌ {A = ℕ} 0 1 = cc in absurd (omega arith)
    least_of n (x ∷ codes) a zero p b =
        let f = b.there in
        record {
          code = x;
          is = cc;
          there = first-among x codes;
          least = λ c e h. least x (x ∷ codes) (omega arith, a.1) c e;
        }
    least_of n (x ∷ codes) a (suc i) p b =
        let ih =
        least_of (suc x) codes a.1 i p
        record { there = b.there; taken = b.taken; earliest = λ j l q f. b.earliest (suc j) (omega arith) q f } in
        record {
          code = ih.code;
          is = ih.is;
          there = yes_right (eqb ih.code x) ih.there;
          least = λ c e h.
              ⊎_elim (λ g. absurd (b.earliest 0 (omega arith) (signature_for r x) refl (subst TakenBy (eqb-true c x g) h))) (λ g. ih.least c g h)
              (yes_either (eqb c x) (among codes c) e);
        }

    -- ---- whether a type's rule takes the operands

    pub many : (a : ℕ) → TakenBy a → length ts ≡ r.arity
    many a h = h.many ∙ length-replicate r.arity a

    pub argument : (a k : ℕ) → length ts ≡ r.arity → k < length ts → get_or (signature_for r a).arguments k 0 ≡ a
    argument a k m l = get_or-replicate r.arity k a 0 (omega arith)

    pub reached : (a : ℕ) → TakenBy a → (k : ℕ) → k < length ts → Reaches (get_or ts k 0) a
    reached a h k l = reaches_of (subst (λ (c : ℕ). reaches (get_or ts k 0) c ≡ true) (argument a k (many a h) l) (h.reached k l))

    pub takes_of : (a : ℕ) → length ts ≡ r.arity → ((k : ℕ) → k < length ts → Reaches (get_or ts k 0) a)
        → (switch ≡ true → not (abstract? (scalar_part a)) ≡ true) → TakenBy a
    takes_of a m f c =
        record {
          many = m ∙ sym (length-replicate r.arity a);
          reached = λ k l. subst (λ (b : ℕ). reaches (get_or ts k 0) b ≡ true) (sym (argument a k m l)) (of_reaches (f k l));
          allowed = λ on. every-replicate (λ a. not (is_abstract a)) r.arity a (not_abstract a (c on));
        }

    -- ---- a fair set

    module _ (fair : fair? r ≡ true) (w : over_wgsl ts ≡ true) (a : ℕ) (in-set : among (codes_of r) a ≡ true) (h : TakenBy a)
        (lowest : (b : ℕ) → among (codes_of r) b ≡ true → TakenBy b → a ≤ b) where
      abbrev has : ℕ → Bool
      has s = among (scalars_of r) s

      abbrev operand : ℕ → ℕ
      operand k = scalar_part (get_or ts k 0)

      ours : (k : ℕ) → k < length ts → among wgsl_scalars (operand k) ≡ true
      ours k l = its_scalar (get_or ts k 0) (every-get_or wgsl? ts k l w)

      with_int_lem : with_int (scalars_of r) ≡ true
      unfolding fair?
      with_int_lem = both_left (with_int (scalars_of r)) _ fair

      stood : stood_for (scalars_of r) (scalar_part a) ≡ true
      unfolding fair?
      stood = among-passes (scalars_of r) (stood_for (scalars_of r)) (scalar_part a) (both_right (with_int (scalars_of r)) _ fair) (scalar_in r a in-set)

      -- no lesser scalar of the set is reached by all operands
      no_lesser : (c : ℕ) → c < a % 12 → has c ≡ true → ((k : ℕ) → k < length ts → converts (operand k) c ≡ true)
          → (switch ≡ true → not (abstract? c) ≡ true) → ⊥
      no_lesser c l e f d =
          let b = type_code (constructor_part a) c in
          let x : b / 12 ≡ a / 12 = omega arith in
          let y : b % 12 ≡ c = omega arith in
          let m : a ≤ a / 12 * 12 + c =
          lowest b (other-scalar r a c in-set e)
          (takes_of b (many a h)
          (λ k l'. record {
            value = (reached a h k l').value;
            constructor = (reached a h k l').constructor ∙ sym x;
            scalar = subst (λ (s : ℕ). converts (operand k) s ≡ true) (sym y) (f k l');
          })
          (λ on. subst (λ (s : ℕ). not (abstract? s) ≡ true) (sym y) (d on))) in
          omega arith

      value : value? a ≡ true
      value = among-passes (codes_of r) value? a (codes-values r) in-set

      over : wgsl? a ≡ true
      over =
          ⊎_elim (both_true value) (λ e. absurd (other e))
          (yes_either (among wgsl_scalars (scalar_part a)) (any has (stand_ins (scalar_part a))) stood)
        where
          other : any has (stand_ins (scalar_part a)) ≡ true → ⊥
          other e =
              let g = any-among has (stand_ins (scalar_part a)) e in
              let c = g.member in
              let known = among-passes (scalars_of r) (among scalars) (scalar_part a) (known-scalars r) (scalar_in r a in-set) in
              let s = among-passes scalars (λ s. every (stands_in s) (stand_ins s)) (scalar_part a) stand_ins_lem known in
              let t = among-passes (stand_ins (scalar_part a)) (stands_in (scalar_part a)) c s g.there in
              let u = both_right (ltb c (scalar_part a)) _ t in
              no_lesser c (ltb-true _ _ (both_left (ltb c (scalar_part a)) _ t)) g.passes
              (λ k l. then
              (among-passes wgsl_scalars (λ x. implies (converts x (scalar_part a)) (converts x c)) (operand k) (both_right (not (abstract? c)) _ u) (ours k l))
              (reached a h k l).scalar)
              (λ on. both_left (not (abstract? c)) _ u)

      -- against another type of the set
      module _ (b : ℕ) (b-in : among (codes_of r) b ≡ true) (j : TakenBy b) (v : wgsl? b ≡ true) where
        not-before : 0 < length ts → before (scalar_part a) (scalar_part b) ≡ true → ⊥
        unfolding is_abstract
        not-before some-operand e =
            let one : scalar_part a ≡ 1 = eqb-true _ _ (both_left (eqb (scalar_part a) abstract_float) _ e) in
            let integer = both_right (eqb (scalar_part a) abstract_float) _ e in
            no_lesser abstract_int (omega arith)
            (then with_int_lem (both_true (subst (λ (s : ℕ). has s ≡ true) one (scalar_in r a in-set)) (integers integer)))
            (λ k l. then (two_pass reaches_int reach_int (operand k) (scalar_part b) (ours k l) (its_scalar b v))
            (both_true integer
            (both_true (subst (λ (s : ℕ). converts (operand k) s ≡ true) one (reached a h k l).scalar) (reached b j k l).scalar)))
            (λ on. absurd (never
            (a_copy (λ a. not (is_abstract a)) r.arity a (h.allowed on) (let m = many a h in omega arith)) (both_true value (ap abstract? one))))
          where
            integers : either (eqb (scalar_part b) i32) (eqb (scalar_part b) u32) ≡ true → either (has i32) (has u32) ≡ true
            integers e =
                let there = scalar_in r b b-in in
                ⊎_elim (λ f. let y : has i32 ≡ true = subst (λ (s : ℕ). has s ≡ true) (eqb-true (scalar_part b) i32 f) there in rw y)
                (λ f. yes_right (has i32) (subst (λ (s : ℕ). has s ≡ true) (eqb-true (scalar_part b) u32 f) there))
                (yes_either (eqb (scalar_part b) i32) (eqb (scalar_part b) u32) e)

        at_most : (k : ℕ) → k < length ts → rank (get_or ts k 0) a ≤ rank (get_or ts k 0) b
        at_most k l =
            let m = lowest b b-in j in
            let c : a / 12 ≡ b / 12 = sym (reached a h k l).constructor ∙ (reached b j k l).constructor in
            let o : a % 12 ≤ b % 12 = omega arith in
            ⊎_elim (leb-true _ _) (λ f. absurd (not-before (omega arith) f))
            (yes_either (leb (rank (get_or ts k 0) a) (rank (get_or ts k 0) b)) (before (scalar_part a) (scalar_part b))
            (then (three_pass in_order in_order_lem (operand k) (scalar_part a) (scalar_part b) (ours k l) (its_scalar a over) (its_scalar b v))
            (both_true (le-leb _ _ o) (both_true (reached a h k l).scalar (reached b j k l).scalar))))

  -- ---- a fair set is ranked

  fair_firsts : fair? r ≡ true → (switch : Bool) (ts : List ℕ) → over_wgsl ts ≡ true → (i : ℕ) (p : Signature) → Best switch (regular_rules r) ts i p
      → First switch ts (regular_rules r) p
  unfolding regular_rules AtMost
  fair_firsts fair switch ts w i p b =
      let f = least_of switch ts 0 (codes_of r) (codes_ascend r) i p b in
      let a = f.code in
      let h : TakenBy switch ts a = subst (Takes switch ts) f.is b.taken in
      record {
        over =
            subst (λ (s : Signature). over_wgsl s.arguments ≡ true) (sym f.is)
            (every-replicate wgsl? r.arity a (over switch ts fair w a f.there h f.least));
        most =
            λ j q e t v k l.
            let g = rule_of (codes_of r) j q e in
            let c = g.code in
            let m = many switch ts a h in
            let t' : TakenBy switch ts c = subst (Takes switch ts) g.is t in
            let v' : wgsl? c ≡ true = a_copy wgsl? r.arity c (subst (λ (s : Signature). over_wgsl s.arguments ≡ true) g.is v) (omega arith) in
            let x : get_or p.arguments k 0 ≡ a = ap (λ (s : Signature). get_or s.arguments k 0) f.is ∙ argument switch ts a k m l in
            let y : get_or q.arguments k 0 ≡ c = ap (λ (s : Signature). get_or s.arguments k 0) g.is ∙ argument switch ts c k m l in
            rw (x, y) (at_most switch ts fair w a f.there h f.least c g.there t' v' k l);
      }

  pub fair_ranked : fair? r ≡ true → Ranked (regular_rules r)
  fair_ranked fair = ranked_first (regular_rules r) (fair_firsts fair)
