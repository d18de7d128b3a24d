-- Readings, of the very definitions that the public promises cite: three tables, each proved by one statement.
--
-- * 'Readings at the bench': the marked ones, and of 'Errors that look right' the call that document 02's (iv) speaks of. `asked` asks the
--   definitions, and `paper` is what document 01 says; a row is the paper's number, its place, and the values that the reading names; of a
--   consensus also who gave it, by document 02's request (ii). Where (iv) has it so, 16 stands for 6.
-- * Document 02's (v), the refusals of a measured leaf and of a measured operand, and a measured call: `measured_asked` and `measured_paper`.
-- * The tests of the Rust's `one_bits_iter.rs`: `walked` asks what `OneBitsIter::next` and `OneBit::number` promise, and `tested` is what
--   the tests expect; a row for the masks that the walk yields, one after the other to its end, and a row for their numbers.
use Rattle.std.specs.Prelude.{false, List, [], ◌∷◌, map, ℕ, zero, suc, ◌-◌, ◌^◌, length, replicate, Option, Some, None}
use Rattle.scalars.specs.Mask.{bits, up_to, head_or}
use Rattle.scalars.specs.OneBits.{step_of}
use Rattle.scalars.specs.Paper.{Paper, number, place, values, value}
use Rattle.types.specs.Conversion.{consensus_of}
use Rattle.scalars.specs.declared.scalar_set.Scalar.{Scalar}
use Rattle.functions.specs.Functions.{function_count, listing_of}
use Rattle.calls.specs.Call.{call_of, survivors_of_call}
use Rattle.worksheet.specs.private.Sheet.{enough_bytes}
use Rattle.worksheet.specs.Typing.{typing, answer_of}

-- ---- the bench

-- number, place, and the values at these indices
abbrev row : List ℕ → Paper → List ℕ
row is p = number p ∷ place p ∷ map (λ i. value i p) is

-- of a call the rule's index and its result; the concrete-only switch is off, and the operands are constant
abbrev called : ℕ → List ℕ → List ℕ
called f ts = row (0 ∷ 6 ∷ []) (call_of function_count listing_of false f ts (replicate (length ts) 0))

-- the mask of the survivors
abbrev surviving : ℕ → List ℕ → List ℕ
surviving f ts = row (0 ∷ []) (survivors_of_call function_count listing_of false f ts (replicate (length ts) 0))

-- the scalar, and who gave it
abbrev consensus : Option Scalar → List ℕ → List ℕ
consensus b ts = row (0 ∷ 1 ∷ 2 ∷ []) (consensus_of b ts)

-- the type
abbrev typed_as : List ℕ → List ℕ
typed_as s = row (0 ∷ []) (answer_of (typing false s (replicate enough_bytes 255)))

-- Clamp 4, Sin 5, Pow 32, Distance 66, Mix 72, Transpose 74
unfoldable pub asked : List (List ℕ)
asked =
    called 4 (0 ∷ 5 ∷ 0 ∷ [])
    ∷ called 5 (5 ∷ []) ∷ called 5 (0 ∷ [])
    ∷ called 66 (0 ∷ 0 ∷ [])
    ∷ called 32 (8 ∷ 9 ∷ []) ∷ typed_as (1 ∷ 32 ∷ 2 ∷ 1 ∷ 66 ∷ 2 ∷ 0 ∷ 1 ∷ 0 ∷ 1 ∷ 0 ∷ 9 ∷ [])
    ∷ surviving 72 (8 ∷ 8 ∷ 8 ∷ []) ∷ called 72 (8 ∷ 8 ∷ 8 ∷ []) ∷ called 72 (20 ∷ 20 ∷ 8 ∷ [])
    ∷ called 74 (61 ∷ [])
    ∷ consensus None (0 ∷ 5 ∷ 1 ∷ []) ∷ consensus None (0 ∷ 8 ∷ 1 ∷ []) ∷ consensus (Some (record { 0 = 1 })) (2 ∷ [])
    ∷ typed_as [] ∷ typed_as (0 ∷ 156 ∷ [])
    ∷ []

unfoldable pub paper : List (List ℕ)
paper =
    -- Clamp(0, 5, 0) gives type 5, index 5
    (0 ∷ 0 ∷ 5 ∷ 5 ∷ [])
    -- Sin(5): refusal 16. Sin(0): type 1
    ∷ (16 ∷ 1 ∷ 255 ∷ 255 ∷ []) ∷ (0 ∷ 0 ∷ 0 ∷ 1 ∷ [])
    -- Distance(0, 0): type 8, index 0
    ∷ (0 ∷ 0 ∷ 0 ∷ 8 ∷ [])
    -- Pow(8, 9): refusal 16 at the second argument. Pow(Distance(1, 1), 9): refusal 16 at its second argument
    ∷ (16 ∷ 2 ∷ 255 ∷ 255 ∷ []) ∷ (16 ∷ 10 ∷ 255 ∷ [])
    -- Mix(8, 8, 8): survivors 8 and 9, preferred 8. Mix(20, 20, 8): index 11
    ∷ (0 ∷ 0 ∷ 0b11_0000_0000 ∷ []) ∷ (0 ∷ 0 ∷ 8 ∷ 8 ∷ []) ∷ (0 ∷ 0 ∷ 11 ∷ 20 ∷ [])
    -- Transpose(61): type 85, index 4
    ∷ (0 ∷ 0 ∷ 4 ∷ 85 ∷ [])
    -- consensus of 0, 5, 1 with no base: refusal 12 at 2. Of 0, 8, 1: 8, which component 1 gave. Base 1 with component 2: refusal 12 at 0
    ∷ (12 ∷ 2 ∷ 255 ∷ 255 ∷ 255 ∷ []) ∷ (0 ∷ 0 ∷ 8 ∷ 1 ∷ 1 ∷ []) ∷ (12 ∷ 0 ∷ 255 ∷ 255 ∷ 255 ∷ [])
    -- the empty expression: refusal 8 at 0. Leaf 156 alone: accepted, type 156
    ∷ (8 ∷ 0 ∷ 255 ∷ []) ∷ (0 ∷ 0 ∷ 156 ∷ [])
    ∷ []

-- ---- measured operands

-- the type and the mark
abbrev marked_as : List ℕ → List ℕ
marked_as s = row (0 ∷ 1 ∷ []) (answer_of (typing false s (replicate enough_bytes 255)))

-- of a call with these marks the rule's index, its result, and the result's mark
abbrev called_with : ℕ → List ℕ → List ℕ → List ℕ
called_with f ts ms = row (0 ∷ 6 ∷ 7 ∷ []) (call_of function_count listing_of false f ts ms)

-- Clamp 4, Sin 5, Pow 32
unfoldable pub measured_asked : List (List ℕ)
measured_asked =
    marked_as (2 ∷ []) ∷ marked_as (2 ∷ 157 ∷ []) ∷ marked_as (2 ∷ 0 ∷ []) ∷ marked_as (2 ∷ 8 ∷ []) ∷ marked_as (0 ∷ 0 ∷ [])
    ∷ marked_as (1 ∷ 32 ∷ 2 ∷ 2 ∷ 8 ∷ 0 ∷ 1 ∷ [])
    ∷ called_with 5 (1 ∷ []) (1 ∷ []) ∷ called_with 5 (1 ∷ []) (0 ∷ []) ∷ called_with 5 (8 ∷ []) (2 ∷ []) ∷ called_with 5 (8 ∷ []) []
    ∷ called_with 4 (0 ∷ 8 ∷ 1 ∷ []) (0 ∷ 1 ∷ 0 ∷ [])
    ∷ []

unfoldable pub measured_paper : List (List ℕ)
measured_paper =
    -- a measured leaf: its type present (8), known (7), not abstract (17); a measured f32; a constant abstract integer
    (8 ∷ 1 ∷ 255 ∷ 255 ∷ []) ∷ (7 ∷ 1 ∷ 255 ∷ 255 ∷ []) ∷ (17 ∷ 1 ∷ 255 ∷ 255 ∷ []) ∷ (0 ∷ 0 ∷ 8 ∷ 1 ∷ []) ∷ (0 ∷ 0 ∷ 0 ∷ 0 ∷ [])
    -- Pow of a measured f32 and an abstract float is a measured f32
    ∷ (0 ∷ 0 ∷ 8 ∷ 1 ∷ [])
    -- Sin of a measured abstract float: 17 at 1 + index; of a constant one: an abstract float; an unknown mark; a mark that is missing
    ∷ (17 ∷ 1 ∷ 255 ∷ 255 ∷ 255 ∷ []) ∷ (0 ∷ 0 ∷ 0 ∷ 1 ∷ 0 ∷ []) ∷ (7 ∷ 1 ∷ 255 ∷ 255 ∷ 255 ∷ []) ∷ (8 ∷ 0 ∷ 255 ∷ 255 ∷ 255 ∷ [])
    -- Clamp of an abstract integer, a measured f32 and an abstract float: rule 8, a measured f32
    ∷ (0 ∷ 0 ∷ 8 ∷ 8 ∷ 1 ∷ [])
    ∷ []

-- ---- the walk over set bits

-- a step's mask, and what the bits after it yield; nothing at the end
abbrev yielded : (ℕ → List ℕ) → List ℕ → List ℕ
yielded next [] = []
yielded next (mask ∷ rest) = mask ∷ next (head_or 0 rest)

-- the masks that at most n steps yield, from these bits on
abbrev masks : ℕ → ℕ → List ℕ
masks zero m = []
masks (suc n) m = yielded (masks n) (values (step_of (bits 64 m)))

-- asked once more than there are bits, so that the end is seen; and each mask's number
abbrev walk : ℕ → List (List ℕ)
walk m = masks 65 m ∷ map (λ mask. head_or 64 (bits 64 mask)) (masks 65 m) ∷ []

unfoldable pub walked : List (List (List ℕ))
walked = walk 0 ∷ walk (2 ^ 64 - 1) ∷ walk 1 ∷ walk (2 ^ 63) ∷ walk 0b110_1100_0001 ∷ []

unfoldable pub tested : List (List (List ℕ))
tested =
    -- empty
    ([] ∷ [] ∷ [])
    -- all: 1 << bit, for each bit from 0 to 63
    ∷ (map (λ k. 2 ^ k) (up_to 64) ∷ up_to 64 ∷ [])
    -- first
    ∷ ((1 ∷ []) ∷ (0 ∷ []) ∷ [])
    -- last: 1 << 63
    ∷ ((2 ^ 63 ∷ []) ∷ (63 ∷ []) ∷ [])
    -- in_order
    ∷ ((1 ∷ 64 ∷ 128 ∷ 512 ∷ 1024 ∷ []) ∷ (0 ∷ 6 ∷ 7 ∷ 9 ∷ 10 ∷ []) ∷ [])
    ∷ []
