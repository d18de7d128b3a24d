-- Demand 2, of consensus, without the way in which it is found. Take a base or none, any components, and any answer that the contract of
-- `automatic_conversion_consensus` permits. The scalars on offer are the base's and the components'; a type from 156 on has none.
--
-- * 7 at 0 exactly when the base is not one of the twelve scalars; 7 at 1 + i exactly when the base, if any, is one, and component i is
--   the first that is no type.
-- * 11 exactly when there is neither base nor component.
-- Of a known base, or none, and known components:
-- * The scalar s, given by g, exactly when s is on offer, every component has a scalar, and every scalar on offer converts to s, which is
--   then the consensus; and g is the base, if s is the base's scalar, or else the first component whose scalar s is.
-- * 12 at i exactly when there is a component i, the base and the components before i, if any, have a consensus, and with component i
--   there is none.
--
-- Who gave it is an addition: what else is answered, scalars and refusals, is what consensus is without it (`agreed`).
use Rattle.std.specs.Prelude.{◌≡◌, ◌↔◌, ◌⊎◌, true, List, [], ◌∷◌, ℕ, suc, ◌+◌, ◌≤◌, ◌<◌, length, get_or, take, Option, Some, None}
use Rattle.scalars.specs.Domain.{converts, scalar_count}
use Rattle.types.specs.Domain.{scalar_part, other_type}
use Rattle.scalars.specs.Paper.{Paper, accepted, refusal}
use Rattle.scalars.specs.declared.scalar_set.Scalar.{Scalar}
use Rattle.types.specs.TypePaper.{giver_values, no_consensus, consensus_paper}
use Rattle.types.specs.Conversion.{agreed}
use Rattle.types.specs.contracts as types
use Rattle.types.proofs as types_proofs
use Rattle.theorems.specs.ByContract.{Promises}
use Rattle.theorems.specs.Known.{AllKnown, FirstUnknown}

-- the base's scalar, and component k's
abbrev pub OfBase : Option Scalar → ℕ → Type 0
OfBase b a = b ≡ Some (record { 0 = a })

abbrev pub OfComponent : List ℕ → ℕ → ℕ → Type 0
OfComponent ts k a = (k < length ts) × (get_or ts k 0 < other_type) × (scalar_part (get_or ts k 0) ≡ a)

-- the scalars on offer
pub data Offered (b : Option Scalar) (ts : List ℕ) (a : ℕ) : Type 0 where
  by_base : OfBase b a → Offered b ts a
  by_component : (k : ℕ) → OfComponent ts k a → Offered b ts a

-- the scalar on offer to which every scalar on offer converts, where each component has one
pub record Consensus (b : Option Scalar) (ts : List ℕ) (s : ℕ) : Type 0 where
  pub offered : Offered b ts s
  pub scalars : (k : ℕ) → k < length ts → get_or ts k 0 < other_type
  pub reached : (a : ℕ) → Offered b ts a → converts a s ≡ true

-- who gave a scalar: the base, if it is the base's, or else the first component whose scalar it is
pub data Gave (b : Option Scalar) (ts : List ℕ) (a : ℕ) : Option ℕ → Type 0 where
  the_base : OfBase b a → Gave b ts a None
  the_first : (k : ℕ) → (OfBase b a → ⊥) → OfComponent ts k a → ((j : ℕ) → j < k → OfComponent ts j a → ⊥) → Gave b ts a (Some k)

-- neither base nor component
abbrev pub Nothing : Option Scalar → List ℕ → Type 0
Nothing b ts = (b ≡ None) × (ts ≡ [])

-- all goes well before component i, and with it there is no consensus
pub record Breaks (b : Option Scalar) (ts : List ℕ) (i : ℕ) : Type 0 where
  pub there : i < length ts
  pub before : ((s : ℕ) × Consensus b (take i ts) s) ⊎ Nothing b (take i ts)
  pub none : (s : ℕ) → Consensus b (take (suc i) ts) s → ⊥

-- the base, if any, is one of the twelve scalars; it is none of them
abbrev pub KnownBase : Option Scalar → Type 0
KnownBase b = (a : ℕ) → OfBase b a → a < scalar_count

abbrev pub UnknownBase : Option Scalar → Type 0
UnknownBase b = (a : ℕ) × OfBase b a × (scalar_count ≤ a)

pub record Answers (b : Option Scalar) (ts : List ℕ) (p : Paper) : Type 0 where
  pub unknown_base : p ≡ refusal 7 0 no_consensus ↔ UnknownBase b
  pub unknown_component : (i : ℕ) → p ≡ refusal 7 (1 + i) no_consensus ↔ (KnownBase b × FirstUnknown ts i)
  pub nothing : p ≡ refusal 11 0 no_consensus ↔ Nothing b ts
  pub agreement : (s : ℕ) (g : Option ℕ) → p ≡ accepted (s ∷ giver_values g) ↔ (KnownBase b × AllKnown ts × Consensus b ts s × Gave b ts s g)
  pub broken : (i : ℕ) → p ≡ refusal 12 i no_consensus ↔ (KnownBase b × AllKnown ts × Breaks b ts i)

-- an answer but for who gave the scalar
abbrev pub without_giver : Paper → Paper
without_giver (accepted vs) = accepted (take 1 vs)
without_giver (refusal n p vs) = refusal n p (take 1 vs)

pub record Theorem : Type 0 where
  pub answers :
      Promises types.automatic_conversion_consensus.ended types_proofs.automatic_conversion_consensus.Reads.Post
      (λ κs a r s. Answers a.0 a.1.0.now (consensus_paper r))
  pub scalars :
      Promises types.automatic_conversion_consensus.ended types_proofs.automatic_conversion_consensus.Reads.Post
      (λ κs a r s. without_giver (consensus_paper r) ≡ agreed a.0 a.1.0.now)
