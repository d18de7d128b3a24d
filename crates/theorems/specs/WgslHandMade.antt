-- Sets made by hand whose calls are not by WGSL's ranks.
--
-- * Document 02's (vi): 'a Regular set made by hand with ABSTRACT_FLOAT and I32 breaks it for ABSTRACT_INT'. The lower bit is preferred, so
--   ABSTRACT_INT takes ABSTRACT_FLOAT, at rank 5, and I32, at rank 3, survives.
-- * In a List the order is the writer's: F32 has to stand before F16, and I32 before U32. So ExtractBits and InsertBits rest on the order of
--   `concrete_int_scalars`, which is read from the crate's listing: with U32 before I32 neither would be by rank.
use Rattle.std.specs.Prelude.{◌≡◌, false, List, [], ◌∷◌, map, ℕ}
use Rattle.scalars.specs.Domain.{abstract_int, abstract_float, i32, u32, f32}
use Rattle.scalars.specs.Paper.{accepted}
use Rattle.rules.specs.Signature.{Signature}
use Rattle.rules.specs.Rule.{rule_of}
use Rattle.rules.specs.RulePaper.{rule_values}
use Rattle.regular.specs.Regular.{regular_of, signature_for, regular_rules}
use Rattle.regular.specs.declared.regular.Regular.{Regular}
use Rattle.regular.specs.declared.regular.ConclusionRule.TheVariants.{ArgumentType}
use Rattle.functions.specs.Sequences.{concrete_int_scalars, scalar_or_vecn}
use Rattle.functions.specs.ListedRules.{each, rule, listed_rules}
use Rattle.functions.specs.declared.listed_rules.ListFunction.TheVariants.{ExtractBits, InsertBits}
use Rattle.calls.specs.Choice.{chosen, resolve}
use Rattle.theorems.specs.Operations.{regular, Preferred, After}
use Rattle.theorems.specs.Calls.{steps_from}
use Rattle.theorems.specs.Taking.{Taken}
use Rattle.theorems.specs.Wgsl.{f16, Outranks, rank, Ranked}

-- ---- a Regular set

-- the mask of SCALAR alone, and that of ABSTRACT_FLOAT and I32
abbrev pub hand_made : Regular
hand_made = regular_of 1 1 6 ArgumentType

abbrev pub operands : List ℕ
operands = abstract_int ∷ []

abbrev pub float_rule : Signature
float_rule = signature_for hand_made abstract_float

abbrev pub int_rule : Signature
int_rule = signature_for hand_made i32

pub record CounterExample : Type 0 where
  -- the operations on the set prefer ABSTRACT_FLOAT's rule after both steps of the operand, and so does a call of its listing
  pub asked : After Preferred (steps_from false 0 operands) (regular hand_made) (accepted (rule_values (rule_of float_rule)))
  pub prefers : resolve false (regular_rules hand_made) operands ≡ chosen 0 float_rule
  -- that of I32 survives, and ranks lower
  pub survives : (q : Taken false (regular_rules hand_made) operands) × (q.rule ≡ int_rule)
  pub ranks : (rank abstract_int i32 ≡ 3) × (rank abstract_int abstract_float ≡ 5)
  pub outranks : Outranks operands int_rule float_rule
  pub fails : Ranked (regular_rules hand_made) → ⊥

-- ---- Lists

-- a rule of one argument for each of these scalars, in this order
abbrev pub list_over : List ℕ → List Signature
list_over ss = map (λ s. record { arguments = s ∷ []; result = s }) ss

-- with the scalar s before u a listing's calls are by rank, with u before s they are not
pub record Ordered (rules_over : List ℕ → List Signature) (s u : ℕ) : Type 0 where
  pub kept : Ranked (rules_over (s ∷ u ∷ []))
  pub exchanged : Ranked (rules_over (u ∷ s ∷ [])) → ⊥

-- ExtractBits and InsertBits, were these the integers, in this order
abbrev pub extract_bits_over : List ℕ → List Signature
extract_bits_over ss = each ss (λ s. each (scalar_or_vecn s) (λ input. rule (input ∷ u32 ∷ u32 ∷ []) input))

abbrev pub insert_bits_over : List ℕ → List Signature
insert_bits_over ss = each ss (λ s. each (scalar_or_vecn s) (λ input. rule (input ∷ input ∷ u32 ∷ u32 ∷ []) input))

pub record WritersOrder : Type 0 where
  pub floats : Ordered list_over f32 f16
  pub integers : Ordered list_over i32 u32
  pub extract_bits : Ordered extract_bits_over i32 u32
  pub insert_bits : Ordered insert_bits_over i32 u32
  -- and these are the functions
  pub extract_bits-is : listed_rules ExtractBits ≡ extract_bits_over concrete_int_scalars
  pub insert_bits-is : listed_rules InsertBits ≡ insert_bits_over concrete_int_scalars
