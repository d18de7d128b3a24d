-- 'A worksheet is lines of four bytes': a line, the lines of a call, a line's bytes, and the lines that bytes spell.
use Rattle.std.specs.Prelude.{Bool, true, false, List, [], ◌∷◌, ◌++◌, ℕ, eqb, length}
use Rattle.std.proofs.Math.Option.{Option, none, some}
use Rattle.scalars.specs.Mask.{choose, both}
use Rattle.types.specs.Operand.{mark_of, mark?, operand_of}
use Rattle.types.specs.declared.operand.Operand.{Operand}
use Rattle.rules.specs.Signature.{Signature}

-- a leaf; a conversion: depth from the top of the stack, type; a call: function, index in the full listing, number of arguments
pub data Line : Type 0 where
  leaf_line : Operand → Line
  conversion_line : ℕ → ℕ → Line
  call_line : ℕ → ℕ → ℕ → Line

-- the conversions of operands to a rule's arguments, by ascending argument, only where types differ; above an operand on the stack
-- stand the operands after it
abbrev pub conversions : List ℕ → List ℕ → List Line
conversions [] az = []
conversions (t ∷ ts) [] = []
conversions (t ∷ ts) (a ∷ az) = choose (eqb t a) (conversions ts az) (conversion_line (length ts) a ∷ conversions ts az)

-- a call by the rule at an index, behind the lines of its operands
abbrev pub call_lines : ℕ → ℕ → List ℕ → Signature → List Line
call_lines f i ts r = conversions ts r.arguments ++ (call_line f i (length ts) ∷ [])

-- bytes, the first of which is the kind of line. Leaf: 0, type, mark, 0. Call: 1, function, index, number of arguments. Conversion:
-- 2, depth, type, 0. An expression's tags are numbered apart (specs/Tree.antt)
abbrev pub leaf_kind : ℕ
leaf_kind = 0

abbrev pub call_kind : ℕ
call_kind = 1

abbrev pub conversion_kind : ℕ
conversion_kind = 2

abbrev pub four_bytes : Line → List ℕ
four_bytes (leaf_line l) = leaf_kind ∷ l.code ∷ mark_of l.measured ∷ 0 ∷ []
four_bytes (call_line f i n) = call_kind ∷ f ∷ i ∷ n ∷ []
four_bytes (conversion_line d a) = conversion_kind ∷ d ∷ a ∷ 0 ∷ []

unfoldable pub encode : List Line → List ℕ
encode [] = []
encode (l ∷ ls) = four_bytes l ++ encode ls

-- and back: an unknown tag, a mark that is neither 0 nor 1, or a spare byte that isn't 0, spells no line
abbrev pub only_if {ℓ} : {A : Type ℓ} → Bool → Option A → Option A
only_if true x = x
only_if false x = none

abbrev pub line_of : ℕ → ℕ → ℕ → ℕ → Option Line
line_of tag x y z =
    choose (eqb tag leaf_kind) (only_if (both (mark? y) (eqb z 0)) (some (leaf_line (operand_of x y))))
    (choose (eqb tag call_kind) (some (call_line x y z))
    (only_if (eqb tag conversion_kind) (only_if (eqb z 0) (some (conversion_line x y)))))

-- the lines that bytes spell, one after the other: none stands for four bytes that spell no line, and for a partial line at the end
abbrev pub lines_of : List ℕ → List (Option Line)
lines_of (a ∷ b ∷ c ∷ d ∷ rest) = line_of a b c d ∷ lines_of rest
lines_of [] = []
lines_of (a ∷ []) = none ∷ []
lines_of (a ∷ b ∷ []) = none ∷ []
lines_of (a ∷ b ∷ c ∷ []) = none ∷ []
