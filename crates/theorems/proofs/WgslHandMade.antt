-- Sets made by hand whose calls are not by WGSL's ranks, as specs/WgslHandMade.antt states it: each is shown by one call, computed. Assumes nothing.
use mathlib.Core.Path.{◌≡◌, refl, sym}
use mathlib.Core.Bool.{true, false, true≢false}
use mathlib.Core.List.{List, [], ◌∷◌}
use mathlib.Core.Option.{some}
use Prim.Native.Nat.{ℕ, zero, suc, ◌<◌}
use native.Mathlib.Omega.{arith}
use lib.Dec.{T, leb, leb→le}
use lib.ListN.{length, get_elem?}
use Rattle.scalars.specs.Mask.{both, bits}
use Rattle.scalars.specs.Domain.{abstract_int, i32, u32, f32, converts}
use Rattle.types.specs.Domain.{is_abstract}
use Rattle.rules.specs.Signature.{Signature, reaches}
use Rattle.regular.specs.Regular.{codes_of, concluded_of, regular_rules, all_conclude, empty_set?}
use Rattle.functions.specs.Sequences.{vector, scalar_or_vecn}
use Rattle.functions.specs.ListedRules.{listed_rules}
use Rattle.calls.specs.Choice.{narrow, resolve}
use Rattle.calls.specs.private.CallSets.{Callable}
use Rattle.scalars.proofs.Filters.{both_left, both_right}
use Rattle.scalars.proofs.Table.{every, at}
use Rattle.theorems.specs.Known.{AllKnown}
use Rattle.theorems.specs.Taking.{Takes, Taken, Best}
use Rattle.theorems.specs.Wgsl.{f16, over_wgsl, conversions, scalar_rank, rank_at, AtMost, Outranks, Ranked}
use Rattle.theorems.specs.WgslLists.{ordered?}
use Rattle.theorems.specs.WgslHandMade.{hand_made, operands, float_rule, int_rule, CounterExample, list_over, extract_bits_over, insert_bits_over, WritersOrder}
use Rattle.theorems.proofs.FunctionSets.{regular-means}
use Rattle.theorems.proofs.WgslArguments.{reached, reached-length, reached-at}
use Rattle.theorems.proofs.WgslLists.{ordered_ranked}

-- ---- a call that shows it

-- the first rule of a listing is p, at index i stands q, over WGSL's scalars, and both take the operands; q ranks at most as high as p for
-- each, and lower for the first
record Shows (rules : List Signature) (ts : List ℕ) (p : Signature) (i : ℕ) (q : Signature) : Type 0 where
  ours : over_wgsl ts ≡ true
  first : get_elem? rules 0 ≡ some p
  there : get_elem? rules i ≡ some q
  over : over_wgsl q.arguments ≡ true
  both-take : both (reached ts p.arguments) (reached ts q.arguments) ≡ true
  some-operand : 0 < length ts
  most : T (every (λ k t. leb (rank_at ts q k) (rank_at ts p k)) 0 ts)
  lower : rank_at ts q 0 < rank_at ts p 0

module _ (rules : List Signature) (ts : List ℕ) (p : Signature) (i : ℕ) (q : Signature) (shows : Shows rules ts p i q) where
  takes : (r : Signature) → reached ts r.arguments ≡ true → Takes false ts r
  takes r e = record {
    many = reached-length ts r.arguments e;
    reached = reached-at ts r.arguments e;
    allowed = λ on. absurd (true≢false (sym on));
  }

  best : Best false rules ts 0 p
  best = record {
    there = shows.first;
    taken = takes p (both_left (reached ts p.arguments) _ shows.both-take);
    earliest = λ j l. absurd (omega arith);
  }

  taken : Taken false rules ts
  taken = record { index = i; rule = q; there = shows.there; takes = takes q (both_right (reached ts p.arguments) _ shows.both-take) }

  outranks : Outranks ts q p
  unfolding AtMost
  outranks = record {
    most = λ k l. leb→le _ _ (at (λ k t. leb (rank_at ts q k) (rank_at ts p k)) ts shows.most k l);
    operand = 0;
    there = shows.some-operand;
    lower = shows.lower;
  }

  fails : Ranked rules → ⊥
  unfolding Ranked taken
  fails ranked = (ranked false ts shows.ours 0 p best).unbeaten taken shows.over outranks

-- ---- a Regular set

callable : Callable hand_made
unfolding all_conclude empty_set? codes_of concluded_of bits
callable = record {
  known = record { constructors = omega arith; scalars = omega arith; arity = omega arith };
  concludes = refl;
  some = λ h. refl;
  none = λ e. absurd (omega arith);
}

known : AllKnown operands
known zero l = omega arith
known (suc k) l = absurd (omega arith)

int_shows : Shows (regular_rules hand_made) operands float_rule 1 int_rule
unfolding regular_rules codes_of concluded_of bits reaches converts scalar_rank conversions
int_shows = record { ours = refl; first = refl; there = refl; over = refl; both-take = refl; some-operand = omega arith; most = tt; lower = omega arith }

pub counter_example : CounterExample
unfolding resolve narrow regular_rules codes_of concluded_of bits reaches converts scalar_rank conversions taken
counter_example = record {
  asked = ((regular-means hand_made callable (omega arith)).preferred false operands known refl _).1 (0, refl);
  prefers = refl;
  survives = (taken (regular_rules hand_made) operands float_rule 1 int_rule int_shows, refl);
  ranks = (refl, refl);
  outranks = outranks (regular_rules hand_made) operands float_rule 1 int_rule int_shows;
  fails = fails (regular_rules hand_made) operands float_rule 1 int_rule int_shows;
}

-- ---- Lists

-- the scalar rules of a listing over two scalars, the wrong one first: of one argument; of ExtractBits and InsertBits, where the rules of
-- the vectors of U32 stand between them
abbrev only : ℕ → Signature
only s = record { arguments = s ∷ []; result = s }

abbrev extract : ℕ → Signature
extract s = record { arguments = s ∷ u32 ∷ u32 ∷ []; result = s }

abbrev insert : ℕ → Signature
insert s = record { arguments = s ∷ s ∷ u32 ∷ u32 ∷ []; result = s }

pub writers_order : WritersOrder
unfolding ordered? listed_rules scalar_or_vecn vector is_abstract reaches converts scalar_rank conversions
writers_order = record {
  floats = record {
    kept = ordered_ranked _ refl;
    exchanged =
        fails (list_over (f16 ∷ f32 ∷ [])) (abstract_int ∷ []) (only f16) 1 (only f32)
        record { ours = refl; first = refl; there = refl; over = refl; both-take = refl; some-operand = omega arith; most = tt; lower = omega arith };
  };
  integers = record {
    kept = ordered_ranked _ refl;
    exchanged =
        fails (list_over (u32 ∷ i32 ∷ [])) (abstract_int ∷ []) (only u32) 1 (only i32)
        record { ours = refl; first = refl; there = refl; over = refl; both-take = refl; some-operand = omega arith; most = tt; lower = omega arith };
  };
  extract_bits = record {
    kept = ordered_ranked _ refl;
    exchanged =
        fails (extract_bits_over (u32 ∷ i32 ∷ [])) (abstract_int ∷ u32 ∷ u32 ∷ []) (extract u32) 4 (extract i32)
        record { ours = refl; first = refl; there = refl; over = refl; both-take = refl; some-operand = omega arith; most = tt; lower = omega arith };
  };
  insert_bits = record {
    kept = ordered_ranked _ refl;
    exchanged =
        fails (insert_bits_over (u32 ∷ i32 ∷ [])) (abstract_int ∷ abstract_int ∷ u32 ∷ u32 ∷ []) (insert u32) 4 (insert i32)
        record { ours = refl; first = refl; there = refl; over = refl; both-take = refl; some-operand = omega arith; most = tt; lower = omega arith };
  };
  extract_bits-is = refl;
  insert_bits-is = refl;
}
