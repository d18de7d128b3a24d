-- The paper's values determine what a run names. Assumes nothing.
use mathlib.Core.Path.{◌≡◌, refl}
use mathlib.Core.List.{List, [], ◌∷◌}
use Prim.Native.Nat.{ℕ}
use native.Mathlib.Omega.{arith}
use lib.Dec.{eqb}
use lib.ListN.{get_or}
use Rattle.std.specs.Prelude.{Option, Some, None}
use Rattle.scalars.specs.Mask.{choose}
use Rattle.scalars.specs.Paper.{accepted, values}
use Rattle.scalars.proofs.Papers.{one-to-one}
use Rattle.names.specs.Names.{Named, a_type, a_function, unknown, named_paper}
use Rattle.names.specs.WordPaper.{word_paper}
use Rattle.names.specs.declared.index.Word.{Word}
use Rattle.names.specs.declared.index.Word.TheVariants.{TypeName, FunctionName}

abbrev word_with : List ℕ → Option Word
word_with [] = None
word_with (k ∷ vs) = Some (choose (eqb k 0) (TypeName (get_or vs 0 0)) (FunctionName (get_or vs 0 0)))

word_back : (a : Option Word) → word_with (values (word_paper a)) ≡ a
word_back (Some (TypeName t)) = refl
word_back (Some (FunctionName f)) = refl
word_back None = refl

pub word-one : (a b : Option Word) → word_paper a ≡ word_paper b → a ≡ b
word-one = one-to-one word_paper (λ p. word_with (values p)) word_back

-- from the values to what is named

pub type_is : (t : ℕ) (x : Named) → accepted (0 ∷ t ∷ []) ≡ named_paper x → x ≡ a_type t
type_is t (a_type u) e = cc
type_is t (a_function g) e = let z : ◌≡◌ {A = ℕ} 0 1 = cc in absurd (omega arith)
type_is t unknown e = let z : ◌≡◌ {A = ℕ} 0 1 = cc in absurd (omega arith)

pub function-is : (f : ℕ) (x : Named) → accepted (1 ∷ f ∷ []) ≡ named_paper x → x ≡ a_function f
function-is f (a_type u) e = let z : ◌≡◌ {A = ℕ} 0 1 = cc in absurd (omega arith)
function-is f (a_function g) e = cc
function-is f unknown e = let z : ◌≡◌ {A = ℕ} 0 1 = cc in absurd (omega arith)

pub unknown-is : (x : Named) → accepted [] ≡ named_paper x → x ≡ unknown
unknown-is (a_type u) e = let z : ◌≡◌ {A = ℕ} 0 1 = cc in absurd (omega arith)
unknown-is (a_function g) e = let z : ◌≡◌ {A = ℕ} 0 1 = cc in absurd (omega arith)
unknown-is unknown e = refl
