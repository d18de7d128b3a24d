-- What the operations on a function's set answer after the steps of a call, by the entries of the function's full listing that pass the
-- steps: of a set of either kind. Assumes nothing.
use mathlib.Core.Path.{◌≡◌, refl, sym, ap, ◌∙◌, subst, subst⁻¹}
use mathlib.Core.Logic.{◌↔◌, inl}
use mathlib.Core.Bool.{Bool, true, false}
use mathlib.Core.List.{List, [], ◌∷◌, map}
use Prim.Native.Nat.{ℕ, suc, ◌<◌}
use native.Mathlib.Omega.{arith}
use borrow.Author.Tests.{le-leb}
use lib.ListN.{length}
use Rattle.scalars.specs.Domain.{scalar_count}
use Rattle.types.specs.Domain.{last_code, constructor_count}
use Rattle.scalars.specs.Mask.{both, cons_if, filter, every, bits}
use Rattle.scalars.specs.Paper.{Paper, accepted, refusal, test_paper, count_paper}
use Rattle.std.specs.Prelude.{Result, Ok, Err}
use Rattle.scalars.specs.declared.refusal.Refusal.{Refusal}
use Rattle.scalars.specs.declared.refusal.Refusal.TheVariants.{EmptySet}
use Rattle.rules.specs.Signature.{Signature, fits, takes}
use Rattle.rules.specs.Rule.{rule_of, passes}
use Rattle.rules.proofs.Records.{typed?}
use Rattle.rules.specs.RulePaper.{rule_values, no_rule, rule_paper}
use Rattle.rules.specs.Verdict.{on_verdict, longest, count_of, empty_of}
use Rattle.rules.specs.declared.rule.Rule.{Rule}
use Rattle.rules.specs.declared.rule.Part.TheVariants.{Shape, Number}
use Rattle.rules.specs.declared.rule.Keep.{Keep}
use Rattle.rules.specs.declared.rule.Keep.TheVariants.{Argument}
use Rattle.regular.specs.Regular.{pairs, codes_of, signature_for, regular_rules, all_conclude, preferred_among, regular_preferred, regular_count, regular_empty}
use Rattle.regular.specs.private.Tested.{Known}
use Rattle.regular.specs.declared.regular.Regular.{Regular}
use Rattle.functions.specs.Sequences.{float_scalars, concrete_float_scalars, concrete_int_scalars, vector_sizes, vector, matrix, scalar_or_vecn}
use Rattle.functions.specs.ListedRules.{listed_rules}
use Rattle.functions.specs.declared.listed_rules.ListFunction.{ListFunction}
use Rattle.functions.specs.declared.listed_rules.ListFunction.TheVariants.{Ldexp, Outer, Refract, Mix, Transpose, ExtractBits, InsertBits}
use Rattle.functions.specs.Functions.{function_count, function_set_of, rules_in, listing_of}
use Rattle.functions.specs.declared.mathfunction.FunctionSet.{FunctionSet}
use Rattle.functions.specs.declared.mathfunction.FunctionSet.TheVariants as function
use Rattle.lists.specs.Entry.{Entry, number, keep}
use Rattle.lists.specs.ChosenPaper.{chosen_paper, no_choice}
use Rattle.lists.specs.List.{entries, listing, verdict_of, kept, preferred_of, list_preferred, list_count, list_empty}
use Rattle.lists.specs.Expansion.{list_of}
use Rattle.lists.specs.declared.list.Chosen.{Chosen}
use Rattle.lists.specs.declared.list.List as declared
use Rattle.calls.specs.Choice.{first}
use Rattle.calls.specs.Call.{answered}
use Rattle.calls.specs.private.CallSets.{Callable}
use Rattle.scalars.proofs.Filters.{both_true}
use Rattle.regular.proofs.Regulars.{known-accepted}
use Rattle.functions.proofs.Places.{few-listed}
use Rattle.functions.specs.FunctionPaper.{function_paper}
use Rattle.functions.proofs.Database.{some-rules}
use Rattle.functions.proofs.FunctionPapers.{set_told}
use Rattle.theorems.proofs.InTurn.{in_turn, lasts}
use Rattle.theorems.proofs.ListSteps.{entries-rules, Tested, accepted_of, kept-tested}
use Rattle.lists.proofs.Steps.{entries-kept}
use Rattle.theorems.specs.Steps.{step_regular}
use Rattle.theorems.proofs.SetSteps.{known_step, step-known, step-concludes}
use Rattle.theorems.proofs.Preferred.{OneShape, shape_one, step-one, regular-first}
use Rattle.theorems.proofs.Alike.{rules-after}
use Rattle.calls.proofs.Firsts.{keep-keep, keep-every}
use Rattle.calls.proofs.Narrowing.{takes_from, permits, passes_all, keep_pair}
use Rattle.calls.proofs.ListResolving.{full-entries}
use Rattle.calls.proofs.ListCalls.{some-count, full-count}
use Rattle.calls.proofs.RegularCalls.{some-arguments, rules-longest}
use Rattle.calls.proofs.FunctionCalls.{callable, regular_listing, full, some-listed, short-listed, listed-valid, listed-signatures}
use Rattle.functions.proofs.function_set as function_set
use Rattle.theorems.specs.Known.{AllKnown}
use Rattle.theorems.specs.Operations.{Set, regular, list, Empty, Least, Most, Preferred, After}
use Rattle.theorems.specs.Calls.{Has, its_regular, its_list, steps_from, AnswersRule}
use Rattle.theorems.proofs.Operations.{asked, after-regular, after_list}

-- ---- the steps of a call, as one test of a rule

pub keep-alike : (p q : Signature → Bool) → ((r : Signature) → p r ≡ q r) → (s : List Entry) → keep p s ≡ keep q s
keep-alike p q e [] = refl
keep-alike p q e (x ∷ xs) = rw (e x.rule, keep-alike p q e xs)

pub both-assoc : (a b c : Bool) → both a (both b c) ≡ both (both a b) c
both-assoc true b c = refl
both-assoc false b c = refl

-- what steps in turn keep of entries
abbrev pub keeping : List Keep → List Entry → List Entry
keeping ks s = in_turn (λ k. keep (passes k)) ks s

pub steps-kept : (switch : Bool) (ts : List ℕ) (k : ℕ) (s : List Entry)
    → keeping (steps_from switch k ts) s ≡ keep (λ r. both (takes_from k ts r) (permits switch r)) s
steps-kept false [] k s = sym (keep-every s)
steps-kept true [] k s = refl
steps-kept switch (t ∷ ts) k s =
    steps-kept switch ts (suc k) (keep (fits Number k t) (keep (fits Shape k t) s))
    ∙ ap (keep (λ r. both (takes_from (suc k) ts r) (permits switch r))) (keep_pair k t s)
    ∙ keep-keep (takes k t) (λ r. both (takes_from (suc k) ts r) (permits switch r)) s
    ∙ keep-alike _ _ (λ r. both-assoc (takes k t r) (takes_from (suc k) ts r) (permits switch r)) s

pub known-steps : (switch : Bool) (ts : List ℕ) (k : ℕ) → AllKnown ts → every known_step (steps_from switch k ts) ≡ true
known-steps true [] k h = refl
known-steps false [] k h = refl
known-steps switch (t ∷ ts) k h =
    let known = le-leb t last_code (h 0 (omega arith)) in
    both_true known (both_true known (known-steps switch ts (suc k) (λ i l. h (suc i) (omega arith))))

-- the entries of a listing that pass
abbrev pub passing : Bool → List ℕ → List Signature → List Entry
passing switch ts rules = keep (passes_all switch ts) (number 0 rules)

-- ---- their papers

-- whether there is none
abbrev pub empty_entries : List Entry → Paper
empty_entries [] = accepted (1 ∷ [])
empty_entries (x ∷ xs) = accepted (0 ∷ [])

abbrev test_of : List Entry → Result Bool Refusal
test_of [] = Ok true
test_of (x ∷ xs) = Ok false

test_of_lem : (s : List Entry) → test_paper (test_of s) ≡ empty_entries s
test_of_lem [] = refl
test_of_lem (x ∷ xs) = refl

abbrev rules_of : List Entry → List Signature
rules_of s = map (λ (x : Entry). x.rule) s

empty_of_lem : (s : List Entry) → empty_of (rules_of s) ≡ empty_entries s
empty_of_lem [] = refl
empty_of_lem (x ∷ xs) = refl

-- the first rule
abbrev first_rule : List Entry → Paper
first_rule [] = refusal 1 0 no_rule
first_rule (x ∷ xs) = accepted (rule_values (rule_of x.rule))

abbrev rule_answer : List Entry → Result Rule Refusal
rule_answer [] = Err (EmptySet 0)
rule_answer (x ∷ xs) = Ok (rule_of x.rule)

rule_answer_lem : (s : List Entry) → rule_paper (rule_answer s) ≡ first_rule s
rule_answer_lem [] = refl
rule_answer_lem (x ∷ xs) = refl

rule-answered : (r : Regular) (s : List Entry) (vs : List ℕ) → accepted vs ≡ first_rule s ↔ AnswersRule (regular r) (answered (first s)) vs
rule-answered r [] vs = (
  λ e. let z : ◌≡◌ {A = ℕ} 0 1 = cc in absurd (omega arith),
  λ (i, e). let z : ◌≡◌ {A = ℕ} 0 1 = cc in absurd (omega arith),
)
rule-answered r (x ∷ xs) vs = (
  λ e. let f : vs ≡ rule_values (rule_of x.rule) = cc in (x.index, ap (λ ws. accepted (x.index ∷ ws)) (sym f)),
  λ (i, e). let f : rule_values (rule_of x.rule) ≡ vs = cc in ap accepted (sym f),
)

-- and with its index
abbrev chosen_answer : List Entry → Result Chosen Refusal
chosen_answer [] = Err (EmptySet 0)
chosen_answer (x ∷ xs) = Ok (record { index = x.index; rule = rule_of x.rule })

chosen_answer_lem : (s : List Entry) → chosen_paper (chosen_answer s) ≡ answered (first s)
chosen_answer_lem [] = refl
chosen_answer_lem (x ∷ xs) = refl

preferred-first : (s : List Entry) → preferred_of s ≡ answered (first s)
preferred-first [] = refl
preferred-first (x ∷ xs) = refl

-- ---- what a set means: the answers after steps are those of the listing's entries that pass

pub record Means (s : Set) (rules : List Signature) : Type 0 where
  pub least : (p : Paper) → Least s p ↔ p ≡ accepted (longest rules ∷ [])
  pub most : (p : Paper) → Most s p ↔ p ≡ accepted (longest rules ∷ [])
  pub empty : (ks : List Keep) → every known_step ks ≡ true → (p : Paper) → After Empty ks s p ↔ p ≡ empty_entries (keeping ks (number 0 rules))
  pub preferred : (switch : Bool) (ts : List ℕ) → AllKnown ts → length ts ≡ longest rules → (vs : List ℕ)
      → After Preferred (steps_from switch 0 ts) s (accepted vs) ↔ AnswersRule s (answered (first (passing switch ts rules))) vs

both_ways : {A B C : Type 0} → A ↔ B → B ↔ C → A ↔ C
both_ways (a, b) (c, d) = (λ x. c (a x), λ x. b (d x))

-- ---- a Regular set

kept-rules : (p : Signature → Bool) (s : List Entry) → rules_of (keep p s) ≡ filter p (rules_of s)
kept-rules p [] = refl
kept-rules p (x ∷ xs) = go (p x.rule) ∙ ap (cons_if (p x.rule) x.rule) (kept-rules p xs)
  where
    go : (b : Bool) → rules_of (cons_if b x (keep p xs)) ≡ cons_if b x.rule (rules_of (keep p xs))
    go true = refl
    go false = refl

keeping-rules : (ks : List Keep) (s : List Entry) → rules_of (keeping ks s) ≡ in_turn (λ k. filter (passes k)) ks (rules_of s)
keeping-rules [] s = refl
keeping-rules (k ∷ ks) s = keeping-rules ks (keep (passes k) s) ∙ ap (in_turn (λ k. filter (passes k)) ks) (kept-rules (passes k) s)

numbered : (i : ℕ) (rs : List Signature) → rules_of (number i rs) ≡ rs
numbered i [] = refl
numbered i (r ∷ rs) = ap (λ xs. r ∷ xs) (numbered (suc i) rs)

among_none : (r : Regular) (ks ss : List ℕ) → map (signature_for r) (pairs ks ss) ≡ [] → preferred_among r ks ss ≡ refusal 1 0 no_rule
among_none r [] ss e = refl
among_none r (k ∷ ks) [] e = refl
among_none r (k ∷ []) (s ∷ ss) e = let z : ◌≡◌ {A = ℕ} 0 1 = cc in absurd (omega arith)
among_none r (k ∷ l ∷ ks) (s ∷ ss) e = let z : ◌≡◌ {A = ℕ} 0 1 = cc in absurd (omega arith)

regular-none : (r : Regular) → Known r → regular_rules r ≡ [] → regular_preferred r ≡ refusal 1 0 no_rule
unfolding regular_preferred codes_of regular_rules
regular-none r known e =
    ap (λ v. on_verdict v (preferred_among r (bits constructor_count r.constructors.0) (bits scalar_count r.scalars.0)) no_rule) (known-accepted r known)
    ∙ among_none r (bits constructor_count r.constructors.0) (bits scalar_count r.scalars.0) e

module _ (r : Regular) (able : Callable r) (some : 0 < length (regular_rules r)) where
  regular_count_lem : regular_count r ≡ accepted (longest (regular_rules r) ∷ [])
  unfolding regular_count
  regular_count_lem = ap (λ v. on_verdict v (count_of (regular_rules r)) (255 ∷ [])) (known-accepted r able.known) ∙ some-count (regular_rules r) some

  module _ (ks : List Keep) where
    abbrev left-set : Regular
    left-set = in_turn step_regular ks r

    left-known : Known left-set
    left-known = lasts Known step_regular step-known ks r able.known

    left-rules : regular_rules left-set ≡ rules_of (keeping ks (number 0 (regular_rules r)))
    left-rules =
        rules-after ks r (inl (some-arguments r able some))
        ∙ ap (in_turn (λ k. filter (passes k)) ks) (sym (numbered 0 (regular_rules r)))
        ∙ sym (keeping-rules ks (number 0 (regular_rules r)))

    set-empty : regular_empty left-set ≡ empty_entries (keeping ks (number 0 (regular_rules r)))
    unfolding regular_empty
    set-empty =
        ap (λ v. on_verdict v (empty_of (regular_rules left-set)) (255 ∷ [])) (known-accepted left-set left-known) ∙ ap empty_of left-rules
        ∙ empty_of_lem (keeping ks (number 0 (regular_rules r)))

  module _ (switch : Bool) (ts : List ℕ) where
    abbrev rest : Regular
    rest = left-set (steps_from switch 0 ts)

    rest-known : Known rest
    rest-known = left-known (steps_from switch 0 ts)

    rest-rules : regular_rules rest ≡ rules_of (passing switch ts (regular_rules r))
    rest-rules = left-rules (steps_from switch 0 ts) ∙ ap rules_of (steps-kept switch ts 0 (number 0 (regular_rules r)))

    -- the first step has left one constructor, or none
    rest-shape : length ts ≡ longest (regular_rules r) → OneShape rest
    rest-shape e = go ts (e ∙ rules-longest r able)
      where
        go : (us : List ℕ) → length us ≡ r.arity → OneShape (in_turn step_regular (steps_from switch 0 us) r)
        go [] e = absurd (omega (arith, some-arguments r able some))
        go (u ∷ us) e =
            lasts OneShape step_regular step-one (Argument Number 0 u ∷ steps_from switch 1 us) (step_regular (Argument Shape 0 u) r) (shape_one 0 u r)

    rest-preferred : length ts ≡ longest (regular_rules r) → regular_preferred rest ≡ first_rule (passing switch ts (regular_rules r))
    rest-preferred e = go (passing switch ts (regular_rules r)) rest-rules
      where
        go : (s : List Entry) → regular_rules rest ≡ rules_of s → regular_preferred rest ≡ first_rule s
        go [] q = regular-none rest rest-known q
        go (x ∷ xs) q =
            regular-first rest rest-known
            (lasts (λ y. all_conclude y ≡ true) step_regular step-concludes (steps_from switch 0 ts) r able.concludes) (rest-shape e)
            x.rule (rules_of xs) q

  pub regular-means : Means (regular r) (regular_rules r)
  regular-means = record {
    least = asked count_paper (regular_count r) _ regular_count_lem (Ok (longest (regular_rules r))) refl;
    most = asked count_paper (regular_count r) _ regular_count_lem (Ok (longest (regular_rules r))) refl;
    empty = λ ks known p.
        both_ways (after-regular Empty ks r able.known known p)
        (asked test_paper (regular_empty (left-set ks)) _ (set-empty ks) (test_of (keeping ks (number 0 (regular_rules r))))
        (test_of_lem (keeping ks (number 0 (regular_rules r)))) p);
    preferred = λ switch ts known e vs.
        both_ways (after-regular Preferred (steps_from switch 0 ts) r able.known (known-steps switch ts 0 known) (accepted vs))
        (both_ways (asked rule_paper (regular_preferred (rest switch ts)) _ (rest-preferred switch ts e)
        (rule_answer (passing switch ts (regular_rules r))) (rule_answer_lem (passing switch ts (regular_rules r))) (accepted vs))
        (rule-answered r (passing switch ts (regular_rules r)) vs));
  }

-- ---- a List

typed-listed : (l : ListFunction) → every typed? (listed_rules l) ≡ true
unfolding listed_rules float_scalars concrete_float_scalars concrete_int_scalars vector_sizes vector matrix scalar_or_vecn
typed-listed Ldexp = refl
typed-listed Outer = refl
typed-listed Refract = refl
typed-listed Mix = refl
typed-listed Transpose = refl
typed-listed ExtractBits = refl
typed-listed InsertBits = refl

entries-after : (ks : List Keep) (l : declared.List) → entries (in_turn kept ks l) ≡ keeping ks (entries l)
entries-after [] l = refl
entries-after (k ∷ ks) l = entries-after ks (kept k l) ∙ ap (keeping ks) (entries-kept k l)

module _ (d : ListFunction) where
  abbrev whole : declared.List
  whole = list_of (listed_rules d)

  tested : Tested whole
  tested = record { valid = listed-valid d; accepted = accepted_of (listed_rules d) (short-listed d) (few-listed d) (typed-listed d) }

  list_count_lem : list_count whole ≡ accepted (longest (listed_rules d) ∷ [])
  unfolding list_count
  list_count_lem =
      ap (λ v. on_verdict v (count_of (listing whole)) (255 ∷ [])) tested.accepted ∙ full-count whole (full d whole refl) (subst⁻¹ (λ rs. 0 < length rs) (listed-signatures d) (some-listed d))
      ∙ ap (λ rs. accepted (longest rs ∷ [])) (listed-signatures d)

  module _ (ks : List Keep) where
    abbrev left : declared.List
    left = in_turn kept ks whole

    left-accepted : verdict_of left ≡ accepted []
    left-accepted = (lasts Tested kept kept-tested ks whole tested).accepted

    left-entries : entries left ≡ keeping ks (number 0 (listed_rules d))
    left-entries = entries-after ks whole ∙ ap (keeping ks) (full-entries whole (full d whole refl) ∙ ap (number 0) (listed-signatures d))

    left-empty : list_empty left ≡ empty_entries (keeping ks (number 0 (listed_rules d)))
    unfolding list_empty
    left-empty =
        ap (λ v. on_verdict v (empty_of (listing left)) (255 ∷ [])) left-accepted ∙ ap empty_of (sym (entries-rules left) ∙ ap rules_of left-entries)
        ∙ empty_of_lem (keeping ks (number 0 (listed_rules d)))

    left-preferred : list_preferred left ≡ answered (first (keeping ks (number 0 (listed_rules d))))
    unfolding list_preferred
    left-preferred =
        ap (λ v. on_verdict v (preferred_of (entries left)) no_choice) left-accepted ∙ ap preferred_of left-entries
        ∙ preferred-first (keeping ks (number 0 (listed_rules d)))

  list-means : Means (list whole) (listed_rules d)
  list-means = record {
    least = asked count_paper (list_count whole) _ list_count_lem (Ok (longest (listed_rules d))) refl;
    most = asked count_paper (list_count whole) _ list_count_lem (Ok (longest (listed_rules d))) refl;
    empty = λ ks known p.
        both_ways (after_list Empty ks whole tested known p)
        (asked test_paper (list_empty (left ks)) _ (left-empty ks) (test_of (keeping ks (number 0 (listed_rules d))))
        (test_of_lem (keeping ks (number 0 (listed_rules d)))) p);
    preferred = λ switch ts known e vs.
        both_ways (after_list Preferred (steps_from switch 0 ts) whole tested (known-steps switch ts 0 known) (accepted vs))
        (both_ways (asked chosen_paper (list_preferred (left (steps_from switch 0 ts))) _
        (left-preferred (steps_from switch 0 ts) ∙ ap (λ x. answered (first x)) (steps-kept switch ts 0 (number 0 (listed_rules d))))
        (chosen_answer (passing switch ts (listed_rules d))) (chosen_answer_lem (passing switch ts (listed_rules d))) (accepted vs)) (sym, sym));
  }

-- ---- a function's set means its full listing

-- the contract of `function_set`, read
set_is : (f : ℕ) (s : FunctionSet) → function_set.Reads.Post tt (f, tt) s (f, tt) ↔ function_set_of f ≡ s
set_is f s = (λ p. set_told f s p refl, λ e. ap function_paper (sym e))

pub has_set_lem : (f : ℕ) → f < function_count → (s : Set) × Has f s
has_set_lem f h = go (function_set_of f) refl
  where
    go : (s : FunctionSet) → function_set_of f ≡ s → (s : Set) × Has f s
    go (function.Regular r) e = (regular r, its_regular r ((set_is f (function.Regular r)).1 e))
    go (function.List d) e = (list (list_of (listed_rules d)), its_list d ((set_is f (function.List d)).1 e) refl)

pub means : (f : ℕ) → f < function_count → (s : Set) → Has f s → Means s (listing_of f)
unfolding listing_of
means f h (regular r) (its_regular _ p) =
    let e = (set_is f (function.Regular r)).0 p in
    let q : listing_of f ≡ regular_rules r = regular_listing f r e in
    subst⁻¹ (Means (regular r)) q (regular-means r (callable f r e) (subst (λ rs. 0 < length rs) q (some-rules f h)))
means f h (list l) (its_list d p q) =
    let e : listing_of f ≡ listed_rules d = ap rules_in ((set_is f (function.List d)).0 p) in
    subst⁻¹ (λ x. Means (list x) (listing_of f)) q (subst⁻¹ (Means (list (list_of (listed_rules d)))) e (list-means d))
