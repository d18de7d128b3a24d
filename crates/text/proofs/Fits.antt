-- The length that is answered is no more than the lent buffer's: callers may cut the bytes or the text off there. Assumes nothing.
use mathlib.Core.Path.{◌≡◌, refl}
use mathlib.Core.Bool.{Bool, true, false}
use mathlib.Core.List.{List, [], ◌∷◌}
use Prim.Native.Nat.{ℕ, ◌≤◌}
use native.Mathlib.Omega.{arith}
use borrow.Author.Tests.{ltb-false}
use lib.Dec.{ltb}
use lib.ListN.{length}
use Rattle.scalars.specs.Mask.{choose}
use Rattle.scalars.specs.Paper.{accepted, refusal, unused}
use Rattle.functions.specs.Functions.{function_count}
use Rattle.expressions.specs.Tree.{Tree, bytes_of}
use Rattle.expressions.specs.Reading.{Expression, read, refused_as, expression_of}
use Rattle.text.specs.Reading.{reading}
use Rattle.text.specs.Writing.{text_of}
use Rattle.text.specs.Lent.{lent_answer}
use Rattle.expressions.proofs.Answers.{accepted-refused}

made-fits : (wanted : Tree → List ℕ) (x : Expression) (have n : ℕ) → accepted (n ∷ []) ≡ lent_answer wanted x have → n ≤ have
made-fits wanted (refused_as number place) have n e = accepted-refused e
made-fits wanted (read tree) have n e = go (ltb have (length (wanted tree))) refl e
  where
    go : (b : Bool) → ltb have (length (wanted tree)) ≡ b
        → accepted (n ∷ []) ≡ choose b (refusal 10 (length (wanted tree)) (unused ∷ [])) (accepted (length (wanted tree) ∷ [])) → n ≤ have
    go true p e = accepted-refused e
    go false p e = let m : n ≡ length (wanted tree) = cc in omega (arith, ltb-false have (length (wanted tree)) p)

-- the bytes that were read from a text
pub read_fits : (s : List ℕ) (have n : ℕ) → accepted (n ∷ []) ≡ lent_answer bytes_of (reading s) have → n ≤ have
read_fits s = made-fits bytes_of (reading s)

-- the text that was written for an expression's bytes
pub written-fits : (s : List ℕ) (have n : ℕ) → accepted (n ∷ []) ≡ lent_answer text_of (expression_of function_count s) have → n ≤ have
written-fits s = made-fits text_of (expression_of function_count s)
