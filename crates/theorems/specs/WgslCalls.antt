-- Document 02's (vi): the preferred rule is WGSL's, for each of the 79 functions and operands over WGSL's scalars, constant or measured, with
-- the concrete-only switch on or off. Over the listings, and of whatever answers the contracts of `call_of` and `survivors_of` permit:
--
-- * The rule of an accepted call is over WGSL's scalars.
-- * No survivor over WGSL's scalars ranks at most as high for every operand and lower for one.
-- * Each survivor over WGSL's scalars is the very same rule, or the call's rule outranks it; at a second index the same rule stands only in
--   Mix, which lists its scalar rules twice. So by WGSL's ranks no call is ambiguous.
use Rattle.std.specs.Prelude.{◌≡◌, Bool, true, List, ◌⊎◌, ℕ, Result, Ok}
use Rattle.std.proofs.Math.Option.{some}
use Rattle.std.proofs.Math.ListN.{get_elem?}
use Rattle.rules.specs.Signature.{Signature}
use Rattle.rules.specs.Rule.{arguments_of, signature_of}
use Rattle.functions.specs.Functions.{listing_of}
use Rattle.scalars.specs.declared.refusal.Refusal.{Refusal}
use Rattle.lists.specs.declared.list.Chosen.{Chosen}
use Rattle.calls.specs.declared.outcome.Called.{Called}
use Rattle.calls.specs.contracts as single
use Rattle.calls.proofs as single_proofs
use Rattle.theorems.specs.ByContract.{Promises}
use Rattle.theorems.specs.Taking.{Taken, Best, bit}
use Rattle.theorems.specs.Wgsl.{over_wgsl, Outranks, Ranked}

-- ---- over the listings

abbrev pub Theorem : Type 0
Theorem = (f : ℕ) → Ranked (listing_of f)

abbrev pub mix : ℕ
mix = 72

-- which survivors over WGSL's scalars the chosen rule does not outrank
pub record Strict (switch : Bool) (f : ℕ) (ts : List ℕ) (i : ℕ) (p : Signature) : Type 0 where
  pub same : (q : Taken switch (listing_of f) ts) → over_wgsl q.rule.arguments ≡ true → (p ≡ q.rule) ⊎ Outranks ts p q.rule
  pub once : (f ≡ mix → ⊥) → (q : Taken switch (listing_of f) ts) → over_wgsl q.rule.arguments ≡ true
      → (i ≡ q.index) ⊎ Outranks ts p q.rule

abbrev pub Ties : Type 0
Ties =
    (f : ℕ) (switch : Bool) (ts : List ℕ) → over_wgsl ts ≡ true
    → (i : ℕ) (p : Signature) → Best switch (listing_of f) ts i p → Strict switch f ts i p

-- there are such: F32's rule in Mix, at 8 and 9
abbrev pub MixTwice : Type 0
MixTwice = get_elem? (listing_of mix) 8 ≡ get_elem? (listing_of mix) 9

-- ---- of what the functions answer

-- q stands at this index of f's full listing, survives by this mask, and is over WGSL's scalars
pub record Survivor (f m i : ℕ) (q : Signature) : Type 0 where
  pub there : get_elem? (listing_of f) i ≡ some q
  pub survives : bit i m ≡ true
  pub over : over_wgsl q.arguments ≡ true

-- of a call's rule and the mask of its survivors
pub record CallByRank (f : ℕ) (ts : List ℕ) (c : Chosen) (m : ℕ) : Type 0 where
  pub over : over_wgsl (arguments_of c.rule) ≡ true
  pub unbeaten : (i : ℕ) (q : Signature) → Survivor f m i q → Outranks ts q (signature_of c.rule) → ⊥
  pub same : (i : ℕ) (q : Signature) → Survivor f m i q → (signature_of c.rule ≡ q) ⊎ Outranks ts (signature_of c.rule) q
  pub once : (f ≡ mix → ⊥) → (i : ℕ) (q : Signature) → Survivor f m i q → (c.index ≡ i) ⊎ Outranks ts (signature_of c.rule) q

-- of the answers of `survivors_of` and `call_of` to the same arguments
abbrev pub Answers : Type 0
Answers =
    Promises single.survivors_of.ended single_proofs.survivors_of.Reads.Post
    (λ κs a q s. (r : Result Called Refusal) → single_proofs.call_of.Reads.Post κs a r s → over_wgsl a.1.0.now ≡ true
    → (c : Chosen) (measured : Bool) → r ≡ Ok (record { chosen = c; measured = measured }) → (m : ℕ) → q ≡ Ok (record { 0 = m }) → CallByRank a.0 a.1.0.now c m)
