-- A test of a listing, computed from its rules alone, by which its calls choose by WGSL's ranks whatever the operands are. It looks at
-- each rule p, the rules before it, and each rule q behind it:
--
-- * p is covered: some rule before it takes whatever p takes, so that p is never chosen; or
-- * p is over WGSL's scalars, and with each q over them one of these is so: nothing reaches both of them at some argument; p ranks at most
--   as high at every argument; some rule before p takes whatever both take.
--
-- The last is needed: over NUMERIC, I32 outranks ABSTRACT_FLOAT for ABSTRACT_INT, but the rule of ABSTRACT_INT stands before both.
use Rattle.std.specs.Prelude.{◌≡◌, Bool, true, false, not, List, [], ◌∷◌, ℕ, eqb, leb}
use Rattle.scalars.specs.Mask.{both, either, every}
use Rattle.scalars.specs.Domain.{converts}
use Rattle.types.specs.Domain.{constructor_part, scalar_part}
use Rattle.rules.specs.Signature.{Signature, concrete}
use Rattle.theorems.specs.Wgsl.{wgsl_scalars, any, over_wgsl, scalar_rank, Ranked}

abbrev pub implies : Bool → Bool → Bool
implies true b = b
implies false b = true

-- a scalar converts to the scalars of two types
abbrev pub to_both : ℕ → ℕ → ℕ → Bool
to_both a b s = both (converts s (scalar_part a)) (converts s (scalar_part b))

abbrev pub same_constructor : ℕ → ℕ → Bool
same_constructor a b = eqb (constructor_part a) (constructor_part b)

-- ---- of one argument of p and of q, over all of WGSL's scalars

-- no operand reaches both
abbrev pub apart_at : ℕ → ℕ → Bool
apart_at a b = either (not (same_constructor a b)) (every (λ s. not (to_both a b s)) wgsl_scalars)

-- whatever reaches both ranks at most as high for the first
abbrev pub most_at : ℕ → ℕ → Bool
most_at a b = every (λ s. implies (to_both a b s) (leb (scalar_rank s (scalar_part a)) (scalar_rank s (scalar_part b)))) wgsl_scalars

-- whatever reaches both reaches the third
abbrev pub cover_at : ℕ → ℕ → ℕ → Bool
cover_at c a b = both (same_constructor a c) (every (λ s. implies (to_both a b s) (converts s (scalar_part c))) wgsl_scalars)

-- ---- of all arguments

abbrev pub apart : List ℕ → List ℕ → Bool
apart [] bs = false
apart (a ∷ az) [] = false
apart (a ∷ az) (b ∷ bs) = either (apart_at a b) (apart az bs)

abbrev pub most : List ℕ → List ℕ → Bool
most [] bs = true
most (a ∷ az) [] = true
most (a ∷ az) (b ∷ bs) = both (most_at a b) (most az bs)

abbrev pub cover_all : List ℕ → List ℕ → List ℕ → Bool
cover_all [] [] bs = true
cover_all [] (a ∷ az) bs = false
cover_all (c ∷ cs) [] bs = false
cover_all (c ∷ cs) (a ∷ az) [] = false
cover_all (c ∷ cs) (a ∷ az) (b ∷ bs) = both (cover_at c a b) (cover_all cs az bs)

-- with the switch on p and q have no abstract argument, and then the covering rule must have none
abbrev pub covers : Signature → Signature → Signature → Bool
covers p q r = both (cover_all r.arguments p.arguments q.arguments) (implies (both (concrete p) (concrete q)) (concrete r))

-- ---- of a listing, rule by rule; `before` are the rules before p, the nearest first

abbrev pub pair? : List Signature → Signature → Signature → Bool
pair? before p q =
    implies (over_wgsl q.arguments)
    (either (apart p.arguments q.arguments) (either (most p.arguments q.arguments) (any (covers p q) before)))

abbrev pub row? : List Signature → Signature → List Signature → Bool
row? before p after = either (any (covers p p) before) (both (over_wgsl p.arguments) (every (pair? before p) after))

abbrev pub rows? : List Signature → List Signature → Bool
rows? before [] = true
rows? before (p ∷ after) = both (row? before p after) (rows? (p ∷ before) after)

unfoldable pub ordered? : List Signature → Bool
ordered? rules = rows? [] rules

-- enough for any listing; not needed: of two rules neither may rank at most as high throughout
abbrev pub ListLaw : Type 0
ListLaw = (rules : List Signature) → ordered? rules ≡ true → Ranked rules
