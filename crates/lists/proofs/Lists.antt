-- Laws of a List: its lengths, one turn of a walk over its members, and its first member. Assumes nothing.
use mathlib.Core.Path.{◌≡◌, refl, sym, ap, ◌∙◌, subst, subst⁻¹}
use mathlib.Core.Bool.{Bool, true, false}
use mathlib.Core.List as L
use mathlib.Core.List.{[], ◌∷◌, map}
use Prim.Native.Nat.{ℕ, ◌+◌, ◌-◌, ◌%◌, ◌^◌, ◌≤◌, ◌<◌, min}
use native.Mathlib.Nat.{mod-lt, lt_of_lt_of_le}
use native.Mathlib.Omega.{arith}
use lib.Dec.{eqb}
use borrow.Author.Tests.{eqb-true, eqb-false}
use lib.ListN.{length, get_or, length-append, length-take, length-map, length-replicate, get_or-append, get_or-map}
use lib.Pow.{pow_pos, pow_mono}
use lib.Seq.{get_or-take}
use Rattle.scalars.specs.Mask.{select, sift, bits, head_or, digit}
use Rattle.scalars.specs.OneBits.{step_of}
use Rattle.scalars.specs.Paper.{accepted, refusal, unused}
use Rattle.rules.specs.Signature.{Signature}
use Rattle.lists.specs.Entry.{Entry, number}
use Rattle.rules.specs.Verdict.{longest, count_of, empty_of}
use Rattle.rules.specs.Rule.{blank_rule, signature_of, rule_of}
use Rattle.lists.specs.List.{most_rules, held, signatures, listing, entries, clean_list, preferred_of}
use Rattle.lists.specs.private.Tested.{Valid}
use Rattle.lists.specs.declared.list.List.{List}
use Rattle.rules.specs.RulePaper.{rule_values}
use Rattle.rules.specs.declared.rule.Rule.{Rule}
use Rattle.rules.proofs.Records.{zero_rule}
use Rattle.scalars.proofs.Masks.{select-length, select_mod, select-none, sift_mod}
use Rattle.scalars.proofs.Walks.{Walked, walked, ended, lowest}
use Rattle.scalars.proofs.Prefixes.{map_at}
use Rattle.lists.proofs.Entries.{number-length, number_at}

-- ---- lengths

pub signatures-length : (l : List) → length (signatures l) ≡ min l.len (length l.rules)
unfolding signatures
signatures-length l = length-map (held l) signature_of ∙ length-take l.len l.rules

many : (l : List) → length l.rules ≡ most_rules → length (signatures l) ≡ min l.len most_rules
many l long = signatures-length l ∙ ap (min l.len) long

signatures-few : (l : List) → length l.rules ≡ most_rules → length (signatures l) ≤ 64
signatures-few l long = omega (arith, many l long)

-- the records with the blanks behind them are the array
pub valid-long : (l : List) → Valid l → length l.rules ≡ most_rules
unfolding clean_list
valid-long l v =
    let e : length (map rule_of (signatures l)) + (most_rules - length (map rule_of (signatures l))) ≡ length l.rules =
    simp (length-append, length-replicate) at (ap (λ (x : List). length x.rules) v.clean) in
    omega (arith, e, length-map (signatures l) rule_of, signatures-length l, v.few)

pub valid-length : (l : List) → Valid l → length (signatures l) ≡ l.len
valid-length l v = omega (arith, signatures-length l, valid-long l v, v.few)

pub valid-within : (l : List) → Valid l → l.members < 2 ^ length (signatures l)
valid-within l v = subst⁻¹ (λ (n : ℕ). l.members < 2 ^ n) (valid-length l v) v.within

pub valid-word : (l : List) → Valid l → l.members < 2 ^ 64
valid-word l v = lt_of_lt_of_le (valid-within l v) (pow_mono (signatures-few l (valid-long l v)))

pub listing-length : (l : List) → Valid l → length (listing l) ≤ most_rules
unfolding listing
listing-length l v = omega (arith, select-length (signatures l) l.members, valid-length l v, v.few)

-- ---- the rule at a number

-- what the record at a number says
rule-says : (l : List) (d : Rule) {k : ℕ} {x : Rule} → x ≡ get_or l.rules k d → k < length (signatures l) → get_or (signatures l) k (signature_of d) ≡ signature_of x
unfolding signatures
rule-says l d {k = k} is h =
    get_or-map signature_of (held l) k d
    ∙ ap signature_of (get_or-take l.len l.rules k d (omega (arith, h, signatures-length l)) ∙ sym is)

module _ (l : List) {k : ℕ} {x : Rule} (is : x ≡ get_or l.rules k blank_rule) where
  -- of a List that was tested, it has 255 in what is not in use
  pub rule-clean : Valid l → k < length (signatures l) → rule_of (signature_of x) ≡ x
  unfolding clean_list
  rule-clean v h =
      sym (
      get_or-append (map rule_of (signatures l)) _ blank_rule k (omega (arith, h, length-map (signatures l) rule_of))
      ∙ map_at rule_of (signatures l) k (signature_of blank_rule) blank_rule h
      ∙ ap rule_of (rule-says l blank_rule is h)
      )
      ∙ ap (λ (y : List). get_or y.rules k blank_rule) v.clean ∙ sym is

-- ---- a turn of a walk: the record at the lowest bit's number is the lowest member's

pub turned : (d : Rule) (l : List) (m : ℕ) {b r k : ℕ} {x : Rule} → length l.rules ≡ most_rules → m < 2 ^ length (signatures l)
    → accepted (b ∷ r ∷ []) ≡ step_of (bits 64 m) → k ≡ head_or 64 (bits 64 b) → x ≡ get_or l.rules k d
    → Walked (signature_of x) (signatures l) m k b r
turned d l m {b = b} {r = r} {k = k} long h n f is =
    let t = walked (signature_of d) (signatures l) m (signatures-few l long) h n f in
    subst (λ (s : Signature). Walked s (signatures l) m k b r) (rule-says l d is t.below) t

-- of any List the record that is read in place, and its place is within the array
module _ (l : List) {m b r k : ℕ} (long : length l.rules ≡ most_rules) (h : m < 2 ^ length (signatures l)) (n : accepted (b ∷ r ∷ []) ≡ step_of (bits 64 m)) (f : k ≡ head_or 64 (bits 64 b)) where
  pub read_turn : Walked (signature_of (get_or l.rules k zero_rule)) (signatures l) m k b r
  read_turn = turned zero_rule l m long h n f refl

  pub read_below : k < most_rules
  read_below = omega (arith, read_turn.below, many l long)

-- of a List that was tested, the record itself
pub turned_record : (l : List) → Valid l → {m k b r : ℕ} {x : Rule} → Walked (signature_of x) (signatures l) m k b r → x ≡ get_or l.rules k blank_rule
    → map rule_of (select (signatures l) m) ≡ x ∷ map rule_of (select (signatures l) r)
turned_record l v {r = r} t is =
    ap (map rule_of) t.members ∙ ap (λ (y : Rule). y ∷ map rule_of (select (signatures l) r)) (rule-clean l is v t.below)

-- at the end no member is left
pub turned_out : (l : List) (m : ℕ) → length l.rules ≡ most_rules → m < 2 ^ length (signatures l) → accepted [] ≡ step_of (bits 64 m) → m ≡ 0
turned_out l m long h n = ended m (lt_of_lt_of_le h (pow_mono (signatures-few l long))) n

pub none_left : (l : List) {m : ℕ} → m ≡ 0 → select (signatures l) m ≡ []
none_left l e = ap (select (signatures l)) e ∙ select-none (signatures l)

-- ---- whether a member is left, and the longest

pub listing_none : (l : List) → l.members ≡ 0 → listing l ≡ []
unfolding listing
listing_none l e = none_left l e

-- the lowest member, by its number
first_member : (l : List) (m : ℕ) → length l.rules ≡ most_rules → 0 < m → m < 2 ^ length (signatures l)
    → select (signatures l) m ≡ get_or (signatures l) (head_or 64 (bits 64 m)) (signature_of blank_rule) ∷ select (signatures l) (m - 2 ^ head_or 64 (bits 64 m))
first_member l m long q h = (lowest (signature_of blank_rule) (signatures l) m (signatures-few l long) q h refl).members

pub listing-some : (l : List) → Valid l → 0 < l.members → empty_of (listing l) ≡ accepted (0 ∷ [])
unfolding listing
listing-some l v q = ap empty_of (first_member l l.members (valid-long l v) q (valid-within l v))

-- some member is left if and only if some bit is set
pub listing-empty : (l : List) → Valid l → accepted (digit (eqb l.members 0) ∷ []) ≡ empty_of (listing l)
listing-empty l v = go (eqb l.members 0) refl
  where
    go : (b : Bool) → eqb l.members 0 ≡ b → accepted (digit b ∷ []) ≡ empty_of (listing l)
    go true e = sym (ap empty_of (listing_none l (eqb-true l.members 0 e)))
    go false e = sym (listing-some l v (omega (arith, eqb-false l.members 0 e)))

-- of any List the members that have a rule say the same: those without are in no listing and pass no test
module _ (l : List) (long : length l.rules ≡ most_rules) (q : ℕ) {m : ℕ} (is : m ≡ q % 2 ^ min l.len most_rules) where
  cut : m ≡ q % 2 ^ length (signatures l)
  cut = rw (many l long) is

  pub with_rules-less : m < 2 ^ length (signatures l)
  with_rules-less = subst⁻¹ (λ (n : ℕ). n < 2 ^ length (signatures l)) cut (mod-lt q (pow_pos (length (signatures l))))

  pub with_rules_sifted : (p : Signature → Bool) → sift p (signatures l) m ≡ sift p (signatures l) q
  with_rules_sifted p = ap (sift p (signatures l)) cut ∙ sift_mod p (signatures l) q

  pub with_rules_picked : select (signatures l) m ≡ select (signatures l) q
  with_rules_picked = ap (select (signatures l)) cut ∙ select_mod (signatures l) q

module _ (l : List) (long : length l.rules ≡ most_rules) {m : ℕ} (is : m ≡ l.members % 2 ^ min l.len most_rules) where
  pub with_rules-listed : select (signatures l) m ≡ listing l
  unfolding listing
  with_rules-listed = with_rules_picked l long l.members is

  pub counted_none : m ≡ 0 → refusal 1 0 (unused ∷ []) ≡ count_of (listing l)
  counted_none e = sym (ap count_of (sym with_rules-listed ∙ none_left l e))

  pub counted : 0 < m → accepted (longest (listing l) ∷ []) ≡ count_of (listing l)
  counted q =
      let e = sym with_rules-listed ∙ first_member l m long q (with_rules-less l long l.members is) in
      ap (λ (rs : L.List Signature). accepted (longest rs ∷ [])) e ∙ sym (ap count_of e)

-- ---- the members with their indices

pub entries_none : (l : List) → l.members ≡ 0 → entries l ≡ []
unfolding entries
entries_none l e = ap (select (number 0 (signatures l))) e ∙ select-none (number 0 (signatures l))

-- the first entry's index is the lowest bit's number
module _ (l : List) (v : Valid l) (q : 0 < l.members) {k : ℕ} {x : Rule} (lowest-is : k ≡ head_or 64 (bits 64 l.members)) (is : x ≡ get_or l.rules k blank_rule) where
  below : k < length (signatures l)
  below = (lowest (signature_of blank_rule) (signatures l) l.members (omega (arith, valid-length l v, v.few)) q (valid-within l v) lowest-is).below

  pub entries-first : entries l ≡ record { index = k; rule = signature_of x } ∷ select (number 0 (signatures l)) (l.members - 2 ^ k)
  unfolding entries
  entries-first =
      let n = number-length 0 (signatures l) in
      let d : Entry = record { index = 0; rule = signature_of blank_rule } in
      (lowest d (number 0 (signatures l)) l.members (omega (arith, n, valid-length l v, v.few)) q (subst⁻¹ (λ (k : ℕ). l.members < 2 ^ k) n (valid-within l v)) lowest-is).members
      ∙ ap (λ (x : Entry). x ∷ select (number 0 (signatures l)) (l.members - 2 ^ k))
      (number_at (signatures l) k d (signature_of blank_rule) below ∙ ap (λ (s : Signature). record { index = k; rule = s }) (rule-says l blank_rule is below))

  pub preferred-first : accepted (k ∷ rule_values x) ≡ preferred_of (entries l)
  preferred-first = sym (ap preferred_of entries-first ∙ ap (λ (r : Rule). accepted (k ∷ rule_values r)) (rule-clean l is v below))
