-- A rule by its index: of a Regular set, from the ranks of its constructor and its scalar; of any listing, from the records of its rules.
-- Assumes nothing.
use mathlib.Core.Path.{◌≡◌, refl, sym, ap, ◌∙◌, subst}
use mathlib.Core.Bool.{Bool, true}
use mathlib.Core.List.{List, [], ◌∷◌, map}
use Prim.Native.Nat.{ℕ, zero, suc, ◌+◌, ◌*◌, ◌≤◌, ◌<◌}
use native.Mathlib.Nat.{zero-mul, suc-mul, zero-add, le_of_suc-le-suc, not-suc-le-zero}
use native.Mathlib.Omega.{arith}
use lib.ListN.{length, get_or, replicate, length-map, get_or-append}
use lib.Seq.{get_or-append-add}
use Rattle.scalars.specs.Mask.{every}
use Rattle.rules.specs.Signature.{Signature}
use Rattle.rules.specs.Rule.{blank_rule, rule_of}
use Rattle.types.specs.TypeCode.{type_code}
use Rattle.regular.specs.Regular.{pairs, codes_of, regular_rules, signature_for, rule_from, rule_for, concluded_of, concluded?, all_conclude}
use Rattle.functions.specs.Functions.{rule_in}
use Rattle.scalars.specs.Paper.{Paper, accepted, refusal, value}
use Rattle.rules.specs.RulePaper.{rule_values, no_rule}
use Rattle.rules.specs.declared.rule.Rule as declared
use Rattle.regular.specs.declared.regular.Regular.{Regular}
use Rattle.scalars.proofs.Prefixes.{map_at, both_true}

-- ---- any listing

pub rule-here : (rs : List Signature) (i : ℕ) → i < length rs → rule_in rs i ≡ accepted (rule_values (get_or (map rule_of rs) i blank_rule))
rule-here [] i h = absurd (not-suc-le-zero h)
rule-here (r ∷ rs) zero h = refl
rule-here (r ∷ rs) (suc i) h = rule-here rs i (le_of_suc-le-suc h)

pub rule-past : (rs : List Signature) (i : ℕ) → length rs ≤ i → rule_in rs i ≡ refusal 7 1 no_rule
rule-past [] i h = refl
rule-past (r ∷ rs) zero h = absurd (not-suc-le-zero h)
rule-past (r ∷ rs) (suc i) h = rule-past rs i (le_of_suc-le-suc h)

-- ---- a Regular set

-- the pair of the q-th constructor and the r-th scalar
pub pairs-at : (d : ℕ) (ks ss : List ℕ) (q r : ℕ) → r < length ss → q < length ks
    → get_or (pairs ks ss) (q * length ss + r) 0 ≡ type_code (get_or ks q d) (get_or ss r d)
pairs-at d [] ss q r h l = absurd (not-suc-le-zero l)
pairs-at d (k ∷ ks) ss zero r h l =
    ap (λ (i : ℕ). get_or (pairs (k ∷ ks) ss) i 0) (ap (λ (z : ℕ). z + r) (zero-mul (length ss)) ∙ zero-add r)
    ∙ get_or-append (map (type_code k) ss) (pairs ks ss) 0 r (subst (λ (n : ℕ). r < n) (sym (length-map ss (type_code k))) h)
    ∙ map_at (type_code k) ss r d 0 h
pairs-at d (k ∷ ks) ss (suc q) r h l =
    ap (λ (i : ℕ). get_or (pairs (k ∷ ks) ss) i 0)
    (omega (arith, suc-mul q (length ss), length-map ss (type_code k)))
    ∙ get_or-append-add (map (type_code k) ss) (pairs ks ss) (q * length ss + r) 0
    ∙ pairs-at d ks ss q r h (le_of_suc-le-suc l)

pub every-get_or : (p : ℕ → Bool) (ts : List ℕ) (i : ℕ) → i < length ts → every p ts ≡ true → p (get_or ts i 0) ≡ true
every-get_or p [] i h e = absurd (not-suc-le-zero h)
every-get_or p (t ∷ ts) zero h e = (both_true (p t) (every p ts) e).0
every-get_or p (t ∷ ts) (suc i) h e = every-get_or p ts i (le_of_suc-le-suc h) (both_true (p t) (every p ts) e).1

-- a rule that has a conclusion is the listing's
concluded-rule : (n t : ℕ) (a : Paper) → concluded? a ≡ true
    → rule_from n t a ≡ accepted (rule_values (rule_of (record { arguments = replicate n t; result = value 0 a })))
concluded-rule n t (accepted vs) e = refl
concluded-rule n t (refusal m p vs) e = let z : ◌≡◌ {A = ℕ} 0 1 = cc in absurd (omega arith)

-- the rule of the type at an index is the rule at that index
pub regular-here : (r : Regular) (i : ℕ) → all_conclude r ≡ true → i < length (codes_of r) → rule_for r (get_or (codes_of r) i 0) ≡ rule_in (regular_rules r) i
unfolding all_conclude rule_for regular_rules
regular-here r i e h =
    concluded-rule r.arity (get_or (codes_of r) i 0) (concluded_of r.conclude (get_or (codes_of r) i 0))
    (every-get_or (λ t. concluded? (concluded_of r.conclude t)) (codes_of r) i h e)
    ∙ sym (rule-here (map (signature_for r) (codes_of r)) i (subst (λ (n : ℕ). i < n) (sym (length-map (codes_of r) (signature_for r))) h)
    ∙ ap (λ (x : declared.Rule). accepted (rule_values x)) (mapped (codes_of r) i h))
  where
    mapped : (ts : List ℕ) (i : ℕ) → i < length ts → get_or (map rule_of (map (signature_for r) ts)) i blank_rule ≡ rule_of (signature_for r (get_or ts i 0))
    mapped [] i h = absurd (not-suc-le-zero h)
    mapped (t ∷ ts) zero h = refl
    mapped (t ∷ ts) (suc i) h = mapped ts i (le_of_suc-le-suc h)

pub regular-past : (r : Regular) (i : ℕ) → length (codes_of r) ≤ i → rule_in (regular_rules r) i ≡ refusal 7 1 no_rule
unfolding regular_rules
regular-past r i h = rule-past (map (signature_for r) (codes_of r)) i (subst (λ (n : ℕ). n ≤ i) (sym (length-map (codes_of r) (signature_for r))) h)
