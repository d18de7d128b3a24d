-- Each name names its own type or function, and nothing else does, the word `measured` neither; a test of all words is a test of each.
-- Assumes nothing.
use mathlib.Core.Path.{◌≡◌, refl, sym, ap, ◌∙◌}
use mathlib.Core.Bool.{Bool, true, false, not}
use mathlib.Core.List.{List, [], ◌∷◌, ◌++◌}
use Prim.Native.Nat.{ℕ, suc, ◌+◌, ◌-◌, ◌≤◌, ◌<◌}
use native.Mathlib.Omega.{arith}
use borrow.Author.Tests.{not-true, lt-ltb, le-ltb, ltb-true, ltb-false, eqb-true}
use lib.Dec.{eqb, ltb}
use lib.ListN.{length, get_or, length-append, get_or-append}
use lib.Seq.{get_or-append-add}
use Rattle.scalars.specs.Mask.{choose, every, up_to}
use Rattle.functions.specs.Functions.{function_count}
use Rattle.names.specs.Names.{bytes, function_names, scalar_names, shape_names, shaped, shaped_all, type_names, type_count, type_name, function_name, words, word_count, measured_name, same, find, a_type, a_function, unknown, numbered, named}
use Rattle.names.proofs.SameBytes.{same-is}
use Rattle.names.proofs.Tests.{at-member, at-number}

-- ---- the words

type_total : length type_names ≡ type_count
unfolding type_names shaped_all shaped shape_names scalar_names bytes
type_total = refl

function_total : length function_names ≡ function_count
unfolding function_names bytes
function_total = refl

pub word_total : length words ≡ word_count
unfolding words
word_total = omega (arith, length-append type_names function_names, type_total, function_total)

pub type_word : (t : ℕ) → t < type_count → get_or words t [] ≡ type_name t
unfolding words type_name
type_word t h = get_or-append type_names function_names [] t (omega (arith, type_total))

pub function-word : (f : ℕ) → get_or words (type_count + f) [] ≡ function_name f
unfolding words function_name
function-word f = ap (λ n. get_or (type_names ++ function_names) (n + f) []) (sym type_total) ∙ get_or-append-add type_names function_names f []

-- ---- a test of each word

pub each_word : (test : List ℕ → Bool) → every test words ≡ true → (w : ℕ) → w < word_count → test (get_or words w []) ≡ true
each_word test all w h = at-member [] test words all w (omega (arith, word_total))

pub each_type : (test : List ℕ → Bool) → every test words ≡ true → (t : ℕ) → t < type_count → test (type_name t) ≡ true
each_type test all t h = sym (ap test (type_word t h)) ∙ each_word test all t (omega arith)

pub each-function : (test : List ℕ → Bool) → every test words ≡ true → (f : ℕ) → f < function_count → test (function_name f) ≡ true
each-function test all f h = sym (ap test (function-word f)) ∙ each_word test all (type_count + f) (omega arith)

-- ---- each word is found at its own number

abbrev own? : ℕ → Bool
own? w = eqb (find (get_or words w []) words 0) w

all_own : every own? (up_to word_count) ≡ true
unfolding find same words type_names shaped_all shaped shape_names scalar_names function_names bytes
all_own = refl

pub own-number : (w : ℕ) → w < word_count → find (get_or words w []) words 0 ≡ w
own-number w h = eqb-true (find (get_or words w []) words 0) w (at-number own? word_count all_own w h)

-- ---- what is found is the run

find-from : (run : List ℕ) (ws : List (List ℕ)) (i : ℕ) → i ≤ find run ws i
unfolding find
find-from run [] i = omega arith
find-from run (x ∷ ws) i = go (same run x) (find-from run ws (suc i))
  where
    go : (b : Bool) → suc i ≤ find run ws (suc i) → i ≤ choose b i (find run ws (suc i))
    go true h = omega arith
    go false h = omega arith

find-is : (run : List ℕ) (ws : List (List ℕ)) (i : ℕ) → find run ws i < i + length ws → run ≡ get_or ws (find run ws i - i) []
unfolding find
find-is run [] i h = absurd (omega arith)
find-is run (x ∷ ws) i h = go (same run x) refl (find-is run ws (suc i)) h
  where
    go : (b : Bool) → same run x ≡ b → (find run ws (suc i) < suc i + length ws → run ≡ get_or ws (find run ws (suc i) - suc i) [])
        → choose b i (find run ws (suc i)) < i + suc (length ws) → run ≡ get_or (x ∷ ws) (choose b i (find run ws (suc i)) - i) []
    go true e r h = let z : i - i ≡ 0 = omega arith in same-is run x e ∙ ap (λ k. get_or (x ∷ ws) k []) (sym z)
    go false e r h =
        let l = find-from run ws (suc i) in
        let z : find run ws (suc i) - i ≡ suc (find run ws (suc i) - suc i) = omega arith in
        r (omega arith) ∙ ap (λ k. get_or (x ∷ ws) k []) (sym z)

pub found-is : (run : List ℕ) → find run words 0 < word_count → run ≡ get_or words (find run words 0) []
found-is run h =
    let z : find run words 0 - 0 ≡ find run words 0 = omega arith in
    find-is run words 0 (omega (arith, word_total)) ∙ ap (λ k. get_or words k []) z

-- ---- names and what they name

pub number_type : (t : ℕ) → t < type_count → numbered t ≡ a_type t
number_type t h = rw (lt-ltb t type_count h)

pub number-function : (f : ℕ) → f < function_count → numbered (type_count + f) ≡ a_function f
number-function f h =
    let z : type_count + f - type_count ≡ f = omega arith in
    rw (le-ltb (type_count + f) type_count (omega arith), lt-ltb (type_count + f) word_count (omega arith)) (ap a_function z)

pub number-none : (w : ℕ) → word_count ≤ w → numbered w ≡ unknown
number-none w h = rw (le-ltb w type_count (omega arith), le-ltb w word_count h)

pub type_named : (t : ℕ) → t < type_count → named (type_name t) ≡ a_type t
unfolding named
type_named t h =
    ap (λ run. numbered (find run words 0)) (sym (type_word t h)) ∙ ap numbered (own-number t (omega arith)) ∙ number_type t h

pub function-named : (f : ℕ) → f < function_count → named (function_name f) ≡ a_function f
unfolding named
function-named f h =
    ap (λ run. numbered (find run words 0)) (sym (function-word f)) ∙ ap numbered (own-number (type_count + f) (omega arith)) ∙ number-function f h

number-of_type : (w t : ℕ) → numbered w ≡ a_type t → (t < type_count) × (w ≡ t)
number-of_type w t e = go (ltb w type_count) (ltb w word_count) refl e
  where
    go : (a b : Bool) → ltb w type_count ≡ a → choose a (a_type w) (choose b (a_function (w - type_count)) unknown) ≡ a_type t
        → (t < type_count) × (w ≡ t)
    go true b p q = let z : w ≡ t = cc in (omega (arith, ltb-true w type_count p), z)
    go false true p q = let z : ◌≡◌ {A = ℕ} 0 1 = cc in absurd (omega arith)
    go false false p q = let z : ◌≡◌ {A = ℕ} 0 1 = cc in absurd (omega arith)

number_of_function : (w f : ℕ) → numbered w ≡ a_function f → (f < function_count) × (w ≡ type_count + f)
number_of_function w f e = go (ltb w type_count) (ltb w word_count) refl refl e
  where
    go : (a b : Bool) → ltb w type_count ≡ a → ltb w word_count ≡ b
        → choose a (a_type w) (choose b (a_function (w - type_count)) unknown) ≡ a_function f → (f < function_count) × (w ≡ type_count + f)
    go true b p k q = let z : ◌≡◌ {A = ℕ} 0 1 = cc in absurd (omega arith)
    go false true p k q =
        let z : w - type_count ≡ f = cc in
        let least = ltb-false w type_count p in
        let most = ltb-true w word_count k in
        (omega arith, omega arith)
    go false false p k q = let z : ◌≡◌ {A = ℕ} 0 1 = cc in absurd (omega arith)

pub named_type : (run : List ℕ) (t : ℕ) → named run ≡ a_type t → (t < type_count) × (run ≡ type_name t)
unfolding named
named_type run t e =
    let n = number-of_type (find run words 0) t e in
    (n.0, found-is run (omega (arith, n.0, n.1)) ∙ ap (λ w. get_or words w []) n.1 ∙ type_word t n.0)

pub named-function : (run : List ℕ) (f : ℕ) → named run ≡ a_function f → (f < function_count) × (run ≡ function_name f)
unfolding named
named-function run f e =
    let n = number_of_function (find run words 0) f e in
    (n.0, found-is run (omega (arith, n.0, n.1)) ∙ ap (λ w. get_or words w []) n.1 ∙ function-word f)

-- ---- the word that is neither

pub measured-named : named measured_name ≡ unknown
unfolding named measured_name find same words type_names shaped_all shaped shape_names scalar_names function_names bytes
measured-named = refl

abbrev other? : List ℕ → Bool
other? w = not (same w measured_name)

all-other : every other? words ≡ true
unfolding measured_name same words type_names shaped_all shaped shape_names scalar_names function_names bytes
all-other = refl

pub type_other : (t : ℕ) → t < type_count → same (type_name t) measured_name ≡ false
type_other t h = not-true (same (type_name t) measured_name) (each_type other? all-other t h)

pub function-other : (f : ℕ) → f < function_count → same (function_name f) measured_name ≡ false
function-other f h = not-true (same (function_name f) measured_name) (each-function other? all-other f h)
