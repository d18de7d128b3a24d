-- What the private functions of src/typer.rt and src/one_call.rt require and promise. Each is told of every tree whose bytes stand at
-- the offset: its typing is what the definition of the second pass answers, with the operands on the stack and the lines on the sheet.
use Rattle.std.specs.Prelude.{◌≡◌, Bool, List, [], ◌∷◌, ◌++◌, ℕ, ◌+◌, ◌*◌, ◌≤◌, ◌<◌, length, drop, Ok}
use Rattle.scalars.specs.Paper as paper
use Rattle.scalars.specs.Paper.{Paper}
use Rattle.scalars.specs.declared.refusal.Refusal.{Refusal}
use Rattle.std.specs.declared.result.Result.{Result}
use Rattle.types.specs.Operand.{mark_of, codes, marks}
use Rattle.types.specs.declared.operand.Operand.{Operand}
use Rattle.rules.specs.Rule.{arguments_of}
use Rattle.calls.specs.Choice.{resolve_of}
use Rattle.functions.specs.Functions.{listing_of}
use Rattle.rules.specs.declared.rule.Rule.{Rule}
use Rattle.worksheet.specs.declared.sheet.Sheet.{Sheet}
use Rattle.worksheet.specs.declared.stack.Stack.{Stack}
use Rattle.expressions.specs.Tree.{Tree, Trees, count, bytes_of, bytes_of_all, nodes, nodes_all}
use Rattle.machine.specs.Line.{Line, encode}
use Rattle.machine.specs.Machine.{most_operands}
use Rattle.worksheet.specs.private.Sheet.{enough_bytes, Wrote}
use Rattle.worksheet.specs.Places.{behind, starts}
use Rattle.worksheet.specs.Typer.{Typed, typed, refused, conclude, type_of, type_all}
use Rattle.worksheet.specs.private.Stack.{types_on, marks_on, starts_on, Pushed}

-- a rule with an argument for each operand, and room for a line for each
pub record ConversionRoom (ts : List ℕ) (rule : Rule) (h : Sheet) : Type 0 where
  pub taken : length ts ≤ length (arguments_of rule)
  pub room : h.len + 4 * length ts ≤ enough_bytes

-- what a pass answers where it ends early: its refusal
abbrev pub pass_paper : {A : Type 0} → Result A Refusal → Paper
pass_paper = paper.answer_paper (λ x. []) []

-- these operands with these starts, and these lines, behind those that were there
pub record Went (at : ℕ) (os : List Operand) (ps : List ℕ) (ls : List Line) (s : Stack) (h : Sheet) (a : Result ℕ Refusal) (s' : Stack) (h' : Sheet) : Type 0 where
  pub answer_is : a ≡ Ok at
  pub pushed : Pushed s os ps s'
  pub wrote : Wrote h (encode ls) h'

-- a call's operands are on the stack, and there is room for its lines
pub record CallThere (n : ℕ) (s : Stack) (h : Sheet) : Type 0 where
  pub enough : n ≤ s.top
  pub bounded : s.top < most_operands
  pub room : h.len + 4 * n + 4 ≤ enough_bytes

-- the result takes the place of the operands, which stood on others of these types, marks and starts
pub record Called (at : ℕ) (o : Operand) (ts ms ps : List ℕ) (ls : List Line) (h : Sheet) (a : Result Unit Refusal) (s' : Stack) (h' : Sheet) : Type 0 where
  pub answer_is : a ≡ Ok tt
  pub types_are : types_on s' ≡ ts ++ (o.code ∷ [])
  pub marks_are : marks_on s' ≡ ms ++ (mark_of o.measured ∷ [])
  pub starts_are : starts_on s' ≡ ps ++ (at ∷ [])
  pub top_is : s'.top ≡ length ts + 1
  pub wrote : Wrote h (encode ls) h'

abbrev pub CallClaim : ℕ → List ℕ → List ℕ → List ℕ → Sheet → Result Unit Refusal → Stack → Sheet → Typed Operand → Type 0
CallClaim at ts ms ps h a s' h' (typed o ls) = Called at o ts ms ps ls h a s' h'
CallClaim at ts ms ps h a s' h' (refused number place) = pass_paper a ≡ paper.refusal number place []

-- n operands with these starts stand on top of others of these types, marks and starts
pub record OnTop (s : Stack) (n : ℕ) (ts ms : List ℕ) (us : List Operand) (ps qs : List ℕ) : Type 0 where
  pub types_are : types_on s ≡ ts ++ codes us
  pub marks_are : marks_on s ≡ ms ++ marks us
  pub starts_are : starts_on s ≡ ps ++ qs
  pub many : length us ≡ n
  pub placed : length qs ≡ n
  pub types-low : length ts + n ≡ s.top
  pub marks-low : length ms + n ≡ s.top
  pub starts-low : length ps + n ≡ s.top

unfoldable pub CallTyped : ℕ → ℕ → ℕ → Bool → Stack → Sheet → Result Unit Refusal → Stack → Sheet → Type 0
CallTyped f n at switch s h a s' h' =
    (ts ms : List ℕ) (us : List Operand) (ps qs : List ℕ) → OnTop s n ts ms us ps qs
    → CallClaim at ts ms ps h a s' h' (conclude f at qs us [] (resolve_of switch (listing_of f) us))

-- a tree's bytes stand at the offset, and there is room for its operands and lines: fewer than twice as many lines as nodes
pub record NodeThere (b : List ℕ) (at : ℕ) (s : Stack) (h : Sheet) : Type 0 where
  pub tree : Tree
  pub tail : List ℕ
  pub text : drop at b ≡ bytes_of tree ++ tail
  pub stack_room : s.top + nodes tree ≤ most_operands
  pub sheet-room : h.len + 8 * nodes tree ≤ enough_bytes + 4

abbrev pub NodeClaim : Tree → ℕ → Stack → Sheet → Result ℕ Refusal → Stack → Sheet → Typed Operand → Type 0
NodeClaim e at s h a s' h' (typed o ls) = Went (behind e at) (o ∷ []) (at ∷ []) ls s h a s' h'
NodeClaim e at s h a s' h' (refused number place) = pass_paper a ≡ paper.refusal number place []

unfoldable pub NodeTyped : List ℕ → ℕ → Bool → Stack → Sheet → Result ℕ Refusal → Stack → Sheet → Type 0
NodeTyped b at switch s h a s' h' =
    (e : Tree) (tail : List ℕ) → drop at b ≡ bytes_of e ++ tail
    → NodeClaim e at s h a s' h' (type_of listing_of switch e at)

-- so many trees' bytes stand there, and there is room besides for the line of their call
pub record ArgsThere (b : List ℕ) (at left : ℕ) (s : Stack) (h : Sheet) : Type 0 where
  pub trees : Trees
  pub tail : List ℕ
  pub many : count trees ≡ left
  pub text : drop at b ≡ bytes_of_all trees ++ tail
  pub stack_room : s.top + nodes_all trees < most_operands
  pub sheet-room : h.len + 8 * nodes_all trees + 4 ≤ enough_bytes

abbrev pub ArgsClaim : Trees → ℕ → Stack → Sheet → Result ℕ Refusal → Stack → Sheet → Typed (List Operand) → Type 0
ArgsClaim es at s h a s' h' (typed os ls) = Went (at + length (bytes_of_all es)) os (starts es at) ls s h a s' h'
ArgsClaim es at s h a s' h' (refused number place) = pass_paper a ≡ paper.refusal number place []

unfoldable pub ArgsTyped : List ℕ → ℕ → ℕ → Bool → Stack → Sheet → Result ℕ Refusal → Stack → Sheet → Type 0
ArgsTyped b at left switch s h a s' h' =
    (es : Trees) (tail : List ℕ) → count es ≡ left → drop at b ≡ bytes_of_all es ++ tail
    → ArgsClaim es at s h a s' h' (type_all listing_of switch es at)
