-- Regular sets: the argument types that two masks list, how many there are, and when there is none. Assumes nothing.
use mathlib.Core.Path.{◌≡◌, refl, sym, ap, ap₂, ◌∙◌, subst, subst⁻¹}
use mathlib.Core.Bool.{Bool, true, false}
use mathlib.Core.List.{List, [], ◌∷◌, map}
use Prim.Native.Nat.{ℕ, ◌+◌, ◌*◌, ◌^◌, ◌≤◌, ◌<◌}
use native.Mathlib.Nat.{mul-le-mul, suc-mul, zero-mul}
use native.Mathlib.Omega.{arith}
use lib.Count.{count_trailing_zeros, ones}
use lib.Dec.{eqb, leb, ltb, lit≤}
use lib.ListN.{length, get_or, length-map, length-append, length-replicate}
use borrow.Author.Tests.{ltb-true, ltb-false, leb-true, lt-ltb, le-leb, eqb-true, eqb-false}
use Rattle.rules.specs.Listing.{most_listed}
use Rattle.std.specs.Prelude.{Result, Ok, Err}
use Rattle.scalars.specs.Mask.{choose, both, either, digit, bits, mask_of}
use Rattle.scalars.specs.Domain.{scalar_count}
use Rattle.scalars.specs.Scalar.{most_general, first_scalar}
use Rattle.types.specs.Domain.{constructor_count}
use Rattle.types.specs.TypeCode.{type_code}
use Rattle.types.specs.TypePaper.{size_values}
use Rattle.types.specs.Constructor.{sizes, constructor_size, size_of_one, set_size}
use Rattle.rules.specs.Signature.{Signature}
use Rattle.rules.specs.Verdict.{on_verdict, longest, empty_of, count_of}
use Rattle.regular.specs.Regular.{pairs, codes_of, regular_rules, signature_for, regular_verdict, regular_rule, regular_empty, empty_set?, preferred_among, rule_for}
use Rattle.regular.specs.private.Tested.{Known, sized_rule}
use Rattle.scalars.specs.Paper.{Paper, accepted, refusal, refused, when_accepted, unused, test_paper}
use Rattle.scalars.specs.declared.refusal.Refusal.{Refusal}
use Rattle.types.specs.declared.constructor_set.ConstructorSize.{ConstructorSize}
use Rattle.rules.specs.RulePaper.{no_rule}
use Rattle.regular.specs.declared.regular.Regular.{Regular}
use Rattle.scalars.proofs.Masks.{trailing_lt}
use Rattle.types.proofs.Sizes.{size-inner}
use Rattle.scalars.proofs.Bits.{bits-next, bits_none, bits-length, bits-count, mask-bits}

-- ---- pairs of constructors and scalars

pub pairs-length : (ks ss : List ℕ) → length (pairs ks ss) ≡ length ks * length ss
pairs-length [] ss = sym (zero-mul (length ss))
pairs-length (k ∷ ks) ss =
    length-append (map (λ s. k * scalar_count + s) ss) (pairs ks ss)
    ∙ ap₂ (λ (a b : ℕ). a + b) (length-map ss (λ s. k * scalar_count + s)) (pairs-length ks ss)
    ∙ omega (arith, suc-mul (length ks) (length ss))

pub pairs-none : (ks : List ℕ) → pairs ks [] ≡ []
pairs-none [] = refl
pairs-none (k ∷ ks) = pairs-none ks

pub pairs-most : (c s : ℕ) → length (pairs (bits constructor_count c) (bits scalar_count s)) ≤ most_listed
pairs-most c s =
    subst (λ (n : ℕ). n ≤ most_listed) (sym (pairs-length (bits constructor_count c) (bits scalar_count s))) (mul-le-mul (bits-length constructor_count c) (bits-length scalar_count s))

-- ---- a set that is accepted is within its bounds

pub accepted-known : (r : Regular) → regular_verdict r ≡ accepted [] → Known r
unfolding regular_verdict
accepted-known r e = go (ltb r.constructors.0 (2 ^ constructor_count)) (ltb r.scalars.0 (2 ^ scalar_count)) (leb r.arity 4) refl refl refl e
  where
    go : (x y z : Bool) → ltb r.constructors.0 (2 ^ constructor_count) ≡ x → ltb r.scalars.0 (2 ^ scalar_count) ≡ y → leb r.arity 4 ≡ z
        → choose (both x y) (choose z (accepted []) (refusal 3 0 [])) (refusal 7 0 []) ≡ accepted [] → Known r
    go true true true a b c f = record { constructors = ltb-true _ _ a; scalars = ltb-true _ _ b; arity = leb-true _ _ c }
    go true true false a b c f = let z : ◌≡◌ {A = ℕ} 0 1 = cc in absurd (omega arith)
    go true false z a b c f = let z : ◌≡◌ {A = ℕ} 0 1 = cc in absurd (omega arith)
    go false y z a b c f = let z : ◌≡◌ {A = ℕ} 0 1 = cc in absurd (omega arith)

-- the same of an acceptance with any values; a refusal has a number
pub accepted_verdict : (r : Regular) {vs : List ℕ} → regular_verdict r ≡ accepted vs → Known r
unfolding regular_verdict
accepted_verdict r e = accepted-known r (go (both (ltb r.constructors.0 (2 ^ constructor_count)) (ltb r.scalars.0 (2 ^ scalar_count))) (leb r.arity 4) e)
  where
    go : (x y : Bool) {vs : List ℕ} → choose x (choose y (accepted []) (refusal 3 0 [])) (refusal 7 0 []) ≡ accepted vs
        → choose x (choose y (accepted []) (refusal 3 0 [])) (refusal 7 0 []) ≡ accepted []
    go true true e = refl
    go true false e = let z : ◌≡◌ {A = ℕ} 0 1 = cc in absurd (omega arith)
    go false y e = let z : ◌≡◌ {A = ℕ} 0 1 = cc in absurd (omega arith)

pub refused-some : (r : Regular) {n p : ℕ} {vs : List ℕ} → regular_verdict r ≡ refusal n p vs → n ≡ 0 → ⊥
unfolding regular_verdict
refused-some r {n} e z = go (both (ltb r.constructors.0 (2 ^ constructor_count)) (ltb r.scalars.0 (2 ^ scalar_count))) (leb r.arity 4) e
  where
    go : (x y : Bool) {p : ℕ} {vs : List ℕ} → choose x (choose y (accepted []) (refusal 3 0 [])) (refusal 7 0 []) ≡ refusal n p vs → ⊥
    go true true e = let z : ◌≡◌ {A = ℕ} 0 1 = cc in absurd (omega arith)
    go true false e = let k : 3 ≡ n = cc in absurd (omega arith)
    go false y e = let k : 7 ≡ n = cc in absurd (omega arith)

pub known-accepted : (r : Regular) → Known r → regular_verdict r ≡ accepted []
unfolding regular_verdict
known-accepted r known =
    simp (lt-ltb r.constructors.0 (2 ^ constructor_count) known.constructors, lt-ltb r.scalars.0 (2 ^ scalar_count) known.scalars, le-leb r.arity 4 known.arity)

-- the rule of a known constructor and a known scalar, in a set that is within its bounds
pub known_rule : (r : Regular) (k s : ℕ) → Known r → k < constructor_count → s < scalar_count → regular_rule k s r ≡ rule_for r (type_code k s)
unfolding regular_rule
known_rule r k s known h l = simp (lt-ltb k constructor_count h, lt-ltb s scalar_count l, known-accepted r known)

-- its rules are as many as there are constructors, times the scalars
pub codes-count : (r : Regular) → Known r → length (codes_of r) ≡ ones r.constructors.0 * ones r.scalars.0
unfolding codes_of
codes-count r known =
    pairs-length (bits constructor_count r.constructors.0) (bits scalar_count r.scalars.0)
    ∙ sym (ap₂ (λ (x y : ℕ). x * y) (bits-count constructor_count r.constructors.0 known.constructors) (bits-count scalar_count r.scalars.0 known.scalars))

-- ---- no rules, or a first one

pub codes-none : (r : Regular) → empty_set? r ≡ true → codes_of r ≡ []
unfolding empty_set? codes_of
codes-none r e = go (eqb r.constructors.0 0) (eqb r.scalars.0 0) refl refl e
  where
    go : (x y : Bool) → eqb r.constructors.0 0 ≡ x → eqb r.scalars.0 0 ≡ y → either x y ≡ true → pairs (bits constructor_count r.constructors.0) (bits scalar_count r.scalars.0) ≡ []
    go true y a b f = ap (λ (m : ℕ). pairs (bits constructor_count m) (bits scalar_count r.scalars.0)) (eqb-true _ _ a) ∙ ap (λ (ks : List ℕ). pairs ks (bits scalar_count r.scalars.0)) (bits_none constructor_count)
    go false true a b f =
        ap (λ (m : ℕ). pairs (bits constructor_count r.constructors.0) (bits scalar_count m)) (eqb-true _ _ b)
        ∙ ap (pairs (bits constructor_count r.constructors.0)) (bits_none scalar_count) ∙ pairs-none (bits constructor_count r.constructors.0)
    go false false a b f = let z : ◌≡◌ {A = ℕ} 0 1 = cc in absurd (omega arith)

-- the lowest constructor over the lowest scalar comes first
unfoldable pub lowest_code : Regular → ℕ
lowest_code r = count_trailing_zeros 16 r.constructors.0 * scalar_count + count_trailing_zeros 16 r.scalars.0

pub some_first : (r : Regular) → empty_set? r ≡ false → (0 < r.constructors.0) × (0 < r.scalars.0)
unfolding empty_set?
some_first r e = go (eqb r.constructors.0 0) (eqb r.scalars.0 0) refl refl e
  where
    go : (x y : Bool) → eqb r.constructors.0 0 ≡ x → eqb r.scalars.0 0 ≡ y → either x y ≡ false → (0 < r.constructors.0) × (0 < r.scalars.0)
    go true y a b f = let z : ◌≡◌ {A = ℕ} 0 1 = cc in absurd (omega arith)
    go false true a b f = let z : ◌≡◌ {A = ℕ} 0 1 = cc in absurd (omega arith)
    go false false a b f = (omega (arith, eqb-false r.constructors.0 0 a), omega (arith, eqb-false r.scalars.0 0 b))

pub codes-first : (r : Regular) → Known r → empty_set? r ≡ false → (rest : List ℕ) × (codes_of r ≡ lowest_code r ∷ rest)
unfolding codes_of lowest_code
codes-first r known e =
    let p = some_first r e in
    (_, ap₂ pairs (bits-next 16 constructor_count r.constructors.0 (lit≤ tt) p.0 known.constructors) (bits-next 16 scalar_count r.scalars.0 (lit≤ tt) p.1 known.scalars))

-- ---- emptiness and counts of the listing

pub empty_yes : (r : Regular) → empty_set? r ≡ true → empty_of (regular_rules r) ≡ accepted (1 ∷ [])
unfolding regular_rules
empty_yes r e = ap (λ (ts : List ℕ). empty_of (map (signature_for r) ts)) (codes-none r e)

pub empty-no : (r : Regular) → Known r → empty_set? r ≡ false → empty_of (regular_rules r) ≡ accepted (0 ∷ [])
unfolding regular_rules
empty-no r known e = ap (λ (ts : List ℕ). empty_of (map (signature_for r) ts)) (codes-first r known e).1

pub count_none : (r : Regular) → empty_set? r ≡ true → count_of (regular_rules r) ≡ refusal 1 0 (unused ∷ [])
unfolding regular_rules
count_none r e = ap (λ (ts : List ℕ). count_of (map (signature_for r) ts)) (codes-none r e)

-- the emptiness of a set that was tested
pub empty-digit : (r : Regular) → accepted [] ≡ regular_verdict r → empty_of (regular_rules r) ≡ accepted (digit (empty_set? r) ∷ [])
empty-digit r e = go (empty_set? r) refl
  where
    go : (c : Bool) → empty_set? r ≡ c → empty_of (regular_rules r) ≡ accepted (digit c ∷ [])
    go true g = empty_yes r g
    go false g = empty-no r (accepted-known r (sym e)) g

pub empty-masks : (r : Regular) → empty_set? r ≡ either (eqb r.constructors.0 0) (eqb r.scalars.0 0)
unfolding empty_set?
empty-masks r = refl

-- what an answer says that is the emptiness of a set: its refusal is the set's, and otherwise the set was tested
abbrev pub Told : Regular → Result Bool Refusal → Type 0
Told r (Ok b) = Known r × (empty_set? r ≡ b)
Told r (Err why) = (x : Paper) (ws : List ℕ) → refused why ws ≡ on_verdict (regular_verdict r) x ws

pub empty-told : (r : Regular) (x : Result Bool Refusal) → test_paper x ≡ regular_empty r → Told r x
unfolding regular_empty
empty-told r x e = go (regular_verdict r) refl x e
  where
    one : (b : Bool) → digit b ≡ 1 → true ≡ b
    one true f = refl
    one false f = absurd (omega arith)

    none : (b : Bool) → digit b ≡ 0 → false ≡ b
    none true f = absurd (omega arith)
    none false f = refl

    here : Known r → (b c : Bool) → empty_set? r ≡ c → accepted (digit b ∷ []) ≡ empty_of (regular_rules r) → empty_set? r ≡ b
    here k b true f g = let i = g ∙ empty_yes r f in f ∙ one b cc
    here k b false f g = let i = g ∙ empty-no r k f in f ∙ none b cc

    never : {C : Type 0} {n p : ℕ} {vs : List ℕ} (rs : List Signature) → refusal n p vs ≡ empty_of rs → C
    never [] g = let z : ◌≡◌ {A = ℕ} 0 1 = cc in absurd (omega arith)
    never (s ∷ rs) g = let z : ◌≡◌ {A = ℕ} 0 1 = cc in absurd (omega arith)

    go : (p : Paper) → regular_verdict r ≡ p → (x : Result Bool Refusal) → test_paper x ≡ when_accepted p (λ vs. empty_of (regular_rules r)) (unused ∷ []) → Told r x
    go (accepted vs) f (Ok b) g = let k = accepted_verdict r f in (k, here k b (empty_set? r) refl g)
    go (accepted vs) f (Err why) g = never (regular_rules r) g
    go (refusal n p vs) f (Ok b) g = let z : ◌≡◌ {A = ℕ} 0 1 = cc in absurd (omega arith)
    go (refusal n p vs) f (Err why) g = λ x ws. rw f (cc)

-- all rules are as long as the arity
pub longest-arity : (r : Regular) (t : ℕ) (ts : List ℕ) → longest (map (signature_for r) (t ∷ ts)) ≡ r.arity
longest-arity r t [] = omega (arith, length-replicate r.arity t)
longest-arity r t (u ∷ ts) = omega (arith, length-replicate r.arity t, longest-arity r u ts)

pub count-some : (r : Regular) → Known r → empty_set? r ≡ false → count_of (regular_rules r) ≡ accepted (r.arity ∷ [])
unfolding regular_rules
count-some r known e =
    let f = codes-first r known e in
    ap (λ (ts : List ℕ). count_of (map (signature_for r) ts)) f.1 ∙ ap (λ (n : ℕ). accepted (n ∷ [])) (longest-arity r (lowest_code r) f.0)

-- ---- the preferred rule

pub preferred-none : (r : Regular) → empty_set? r ≡ true → refusal 1 0 no_rule ≡ preferred_among r (bits constructor_count r.constructors.0) (bits scalar_count r.scalars.0)
unfolding empty_set?
preferred-none r e = go (eqb r.constructors.0 0) (eqb r.scalars.0 0) refl refl e
  where
    either_way : (ks : List ℕ) → preferred_among r ks [] ≡ refusal 1 0 no_rule
    either_way [] = refl
    either_way (k ∷ ks) = refl

    go : (x y : Bool) → eqb r.constructors.0 0 ≡ x → eqb r.scalars.0 0 ≡ y → either x y ≡ true → refusal 1 0 no_rule ≡ preferred_among r (bits constructor_count r.constructors.0) (bits scalar_count r.scalars.0)
    go true y a b f = sym (ap (λ (ks : List ℕ). preferred_among r ks (bits scalar_count r.scalars.0)) (ap (bits constructor_count) (eqb-true _ _ a) ∙ bits_none constructor_count))
    go false true a b f = sym (ap (preferred_among r (bits constructor_count r.constructors.0)) (ap (bits scalar_count) (eqb-true _ _ b) ∙ bits_none scalar_count) ∙ either_way (bits constructor_count r.constructors.0))
    go false false a b f = let z : ◌≡◌ {A = ℕ} 0 1 = cc in absurd (omega arith)

-- ---- the rule of a size and a scalar

pub sized_rule_lem : (r : Regular) (z : ConstructorSize) (k s : ℕ) → k < constructor_count → s < scalar_count → size_values z ≡ get_or sizes k []
    → sized_rule r z s ≡ rule_for r (type_code k s)
unfolding sized_rule
sized_rule_lem r z k s h l e = ap (λ (p : Paper). when_accepted p (λ vs. rule_for r (get_or vs 0 unused)) no_rule) (size-inner z k s h l e)

-- what the size of a constructor says of it
module _ (k : ℕ) where
  pub sized-known : (z : ConstructorSize) → accepted (size_values z) ≡ constructor_size k → (k < constructor_count) × (size_values z ≡ get_or sizes k [])
  unfolding constructor_size
  sized-known z e = go (ltb k constructor_count) refl e
    where
      go : (b : Bool) → ltb k constructor_count ≡ b → accepted (size_values z) ≡ choose b (accepted (get_or sizes k [])) (refusal 7 0 (unused ∷ unused ∷ unused ∷ []))
          → (k < constructor_count) × (size_values z ≡ get_or sizes k [])
      go true h f = (ltb-true k constructor_count h, cc)
      go false h f = let z : ◌≡◌ {A = ℕ} 0 1 = cc in absurd (omega arith)

  pub unsized : (why : Refusal) (s : ℕ) (r : Regular) → refused why (unused ∷ unused ∷ unused ∷ []) ≡ constructor_size k → refused why no_rule ≡ regular_rule k s r
  unfolding constructor_size regular_rule
  unsized why s r e = go (ltb k constructor_count) _ e
    where
      go : (b : Bool) (x : Paper) → refused why (unused ∷ unused ∷ unused ∷ []) ≡ choose b (accepted (get_or sizes k [])) (refusal 7 0 (unused ∷ unused ∷ unused ∷ []))
          → refused why no_rule ≡ choose b x (refusal 7 0 no_rule)
      go true x f = let z : ◌≡◌ {A = ℕ} 0 1 = cc in absurd (omega arith)
      go false x f = cc

-- the first member of a mask is below the number of its bits
bits_below : (n m : ℕ) {k : ℕ} {ks : List ℕ} → n ≤ 64 → m < 2 ^ n → bits n m ≡ k ∷ ks → k < n
bits_below n m {k} {ks} l h e = go (ltb 0 m) refl
  where
    go : (x : Bool) → ltb 0 m ≡ x → k < n
    go true z =
        let f = sym e ∙ bits-next 64 n m l (ltb-true 0 m z) h in
        let i : k ≡ count_trailing_zeros 64 m = cc in
        subst⁻¹ (λ (j : ℕ). j < n) i (trailing_lt n 64 m l (ltb-true 0 m z) h)
    go false z =
        let f : k ∷ ks ≡ [] = sym e ∙ ap (bits n) (omega (arith, ltb-false 0 m z)) ∙ bits_none n in
        let z : ◌≡◌ {A = ℕ} 0 1 = cc in
        absurd (omega arith)

-- what is not empty has members
bits-some : (n m : ℕ) → 0 < m → m < 2 ^ n → bits n m ≡ [] → ⊥
bits-some n m p h e = let z : 0 ≡ m = ap mask_of (sym e) ∙ mask-bits n m h in omega arith

module _ (r : Regular) (known : Known r) (e : empty_set? r ≡ false) where
  abbrev constructors : List ℕ
  constructors = bits constructor_count r.constructors.0

  abbrev scalars : List ℕ
  scalars = bits scalar_count r.scalars.0

  size_is : set_size r.constructors.0 ≡ size_of_one constructors
  unfolding set_size
  size_is = simp (lt-ltb _ _ known.constructors)

  scalar_is : most_general r.scalars.0 ≡ first_scalar scalars
  unfolding most_general
  scalar_is = simp (lt-ltb _ _ known.scalars)

  -- a size is refused where there are several constructors
  pub preferred_several : (why : Refusal) → refused why (unused ∷ unused ∷ unused ∷ []) ≡ set_size r.constructors.0 → refused why no_rule ≡ preferred_among r constructors scalars
  preferred_several why f =
      let p = some_first r e in
      go constructors scalars (bits-some _ _ p.0 known.constructors) (bits-some _ _ p.1 known.scalars) (f ∙ size_is)
    where
      go : (ks ss : List ℕ) → (ks ≡ [] → ⊥) → (ss ≡ [] → ⊥) → refused why (unused ∷ unused ∷ unused ∷ []) ≡ size_of_one ks → refused why no_rule ≡ preferred_among r ks ss
      go [] ss n m f = absurd (n refl)
      go (k ∷ []) ss n m f = let z : ◌≡◌ {A = ℕ} 0 1 = cc in absurd (omega arith)
      go (k ∷ l ∷ ks) [] n m f = absurd (m refl)
      go (k ∷ l ∷ ks) (s ∷ ss) n m f = cc

  -- a scalar is never refused
  pub scalar-found : {C : Type 0} (why : Refusal) → refused why (unused ∷ []) ≡ most_general r.scalars.0 → C
  scalar-found {C} why f = go scalars (bits-some _ _ (some_first r e).1 known.scalars) (f ∙ scalar_is)
    where
      go : (ss : List ℕ) → (ss ≡ [] → ⊥) → refused why (unused ∷ []) ≡ first_scalar ss → C
      go [] n f = absurd (n refl)
      go (s ∷ ss) n f = let z : ◌≡◌ {A = ℕ} 0 1 = cc in absurd (omega arith)

  -- one constructor's size over the lowest scalar
  pub preferred-one : (z : ConstructorSize) (s : ℕ) → accepted (size_values z) ≡ set_size r.constructors.0 → accepted (s ∷ []) ≡ most_general r.scalars.0
      → sized_rule r z s ≡ preferred_among r constructors scalars
  preferred-one z s f g = go constructors scalars refl refl (f ∙ size_is) (g ∙ scalar_is)
    where
      go : (ks ss : List ℕ) → constructors ≡ ks → scalars ≡ ss → accepted (size_values z) ≡ size_of_one ks → accepted (s ∷ []) ≡ first_scalar ss
          → sized_rule r z s ≡ preferred_among r ks ss
      go [] ss p q f g = let z : ◌≡◌ {A = ℕ} 0 1 = cc in absurd (omega arith)
      go (k ∷ []) [] p q f g = let z : ◌≡◌ {A = ℕ} 0 1 = cc in absurd (omega arith)
      go (k ∷ []) (x ∷ ss) p q f g =
          let i : x ≡ s = cc in
          let l : x < scalar_count = bits_below scalar_count r.scalars.0 (lit≤ tt) known.scalars q in
          sized_rule_lem r z k s (bits_below constructor_count r.constructors.0 (lit≤ tt) known.constructors p) (omega arith) (cc) ∙ ap (λ (n : ℕ). rule_for r (type_code k n)) (sym i)
      go (k ∷ l ∷ ks) ss p q f g = let z : ◌≡◌ {A = ℕ} 0 1 = cc in absurd (omega arith)
