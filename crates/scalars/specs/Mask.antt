-- 'Sets': scalar sets, constructor sets and a List's members are masks. A mask picks members of a list: bit 0 picks the first
-- element, bit 1 the second, and so on; a member's mask and a member's number are kept apart.
use Rattle.std.specs.Prelude.{Bool, true, false, List, [], ◌∷◌, ◌++◌, ℕ, zero, suc, ◌+◌, ◌-◌, ◌*◌, ◌/◌, ◌%◌, ◌^◌, eqb, length, replicate}

abbrev pub choose {ℓ} : {A : Type ℓ} → Bool → A → A → A
choose true x y = x
choose false x y = y

abbrev pub both : Bool → Bool → Bool
both true b = b
both false b = false

abbrev pub either : Bool → Bool → Bool
either true b = true
either false b = b

-- x in front of xs, if the test says so
abbrev pub cons_if {ℓ} : {A : Type ℓ} → Bool → A → List A → List A
cons_if true x xs = x ∷ xs
cons_if false x xs = xs

-- the elements that pass the test, in order
abbrev pub filter {ℓ} : {A : Type ℓ} → (A → Bool) → List A → List A
filter p [] = []
filter p (x ∷ xs) = cons_if (p x) x (filter p xs)

-- each element passes
abbrev pub every {ℓ} : {A : Type ℓ} → (A → Bool) → List A → Bool
every p [] = true
every p (x ∷ xs) = both (p x) (every p xs)

abbrev pub odd : ℕ → Bool
odd m = eqb (m % 2) 1

-- the elements whose bit is set, in order
abbrev pub select {ℓ} : {A : Type ℓ} → List A → ℕ → List A
select [] m = []
select (x ∷ xs) m = cons_if (odd m) x (select xs (m / 2))

abbrev pub digit : Bool → ℕ
digit true = 1
digit false = 0

-- the bits of m at which the list's element passes the test
unfoldable pub sift {ℓ} : {A : Type ℓ} → (A → Bool) → List A → ℕ → ℕ
sift p [] m = 0
sift p (x ∷ xs) m = sift p xs (m / 2) * 2 + digit (both (odd m) (p x))

-- n numbers, from i on
abbrev pub count_from : ℕ → ℕ → List ℕ
count_from i zero = []
count_from i (suc n) = i ∷ count_from (suc i) n

-- the numbers below n
abbrev pub up_to : ℕ → List ℕ
up_to n = count_from 0 n

-- the numbers of the bits of m that are set, among the lowest n, in ascending order
unfoldable pub bits : ℕ → ℕ → List ℕ
bits n m = select (up_to n) m

-- the mask of the bits with these numbers
abbrev pub mask_of : List ℕ → ℕ
mask_of [] = 0
mask_of (k ∷ ks) = 2 ^ k + mask_of ks

abbrev pub head_or : ℕ → List ℕ → ℕ
head_or d [] = d
head_or d (k ∷ ks) = k

-- the list, and behind it blanks up to n entries
abbrev pub padded {ℓ} : {A : Type ℓ} → ℕ → A → List A → List A
padded n blank xs = xs ++ replicate (n - length xs) blank
