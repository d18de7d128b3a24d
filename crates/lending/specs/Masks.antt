-- Masks of rules as lent bytes. A mask over n rules takes n / 8 bytes, rounded up, low byte first: bit 0 of the first byte stands for
-- rule 0, bit 0 of the second for rule 8.
use Rattle.std.specs.Prelude.{List, [], ◌∷◌, ◌++◌, ℕ, zero, suc, ◌+◌, ◌*◌, ◌/◌, ◌%◌, ◌^◌, min, leb, ltb, length, take, drop, Result}
use Rattle.scalars.specs.Mask.{choose}
use Rattle.scalars.specs.Paper.{Paper, accepted, refusal, answer_paper, unused}
use Rattle.scalars.specs.declared.refusal.Refusal.{Refusal}

-- how many bytes n rules need
unfoldable pub bytes_for : ℕ → ℕ
bytes_for n = (n + 7) / 8

-- ---- a mask read from bytes

-- the mask that bytes hold
unfoldable pub mask_in : List ℕ → ℕ
mask_in [] = 0
mask_in (b ∷ bs) = b + 256 * mask_in bs

-- the mask, as far as 64 bits hold it; fewer bytes than needed are refusal 8 at their number, a bit that is no rule's is refusal 7
unfoldable pub mask_read : ℕ → List ℕ → Paper
mask_read n bytes =
    choose (ltb (length bytes) (bytes_for n)) (refusal 8 (length bytes) (unused ∷ []))
    (choose (leb (2 ^ n) (mask_in (take (bytes_for n) bytes))) (refusal 7 0 (unused ∷ []))
    (accepted (mask_in (take (min 8 (bytes_for n)) bytes) ∷ [])))

-- the paper's number, place and value where a mask is answered
abbrev pub mask_paper : Result ℕ Refusal → Paper
mask_paper = answer_paper (λ m. m ∷ []) (unused ∷ [])

-- ---- a mask written to bytes

-- the lowest n bytes of a mask, the lowest first
unfoldable pub mask_bytes : ℕ → ℕ → List ℕ
mask_bytes zero m = []
mask_bytes (suc n) m = (m % 256) ∷ mask_bytes n (m / 256)

-- fewer lent bytes than the rules need are refusal 10, at the bytes needed
unfoldable pub room_for : ℕ → List ℕ → Paper
room_for n out = choose (ltb (length out) (bytes_for n)) (refusal 10 (bytes_for n) []) (accepted [])

-- what the lent bytes then hold: the mask in front, and behind it what stood there; where they are too few, what stood there
unfoldable pub lent_after : ℕ → ℕ → List ℕ → List ℕ
lent_after n m out = choose (ltb (length out) (bytes_for n)) out (mask_bytes (bytes_for n) m ++ drop (bytes_for n) out)
