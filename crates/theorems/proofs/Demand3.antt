-- Demand 3 holds, as specs/Demand3.antt states it, and so of the 79 functions. What the typer answers means what it should (proofs/Exact.antt), the worksheet's
-- leaves and calls are the expression's own (proofs/Own.antt), the machine runs it (proofs/Runs.antt), and its bytes are few
-- (proofs/Room.antt).
-- Assumes nothing.
use mathlib.Core.Path.{◌≡◌, refl, ◌∙◌}
use mathlib.Core.Logic.{◌⊎◌, inl, inr}
use mathlib.Core.Bool.{Bool}
use mathlib.Core.List.{List, [], ◌∷◌}
use Prim.Native.Nat.{ℕ, ◌≤◌}
use native.Mathlib.Omega.{arith}
use lib.ListN.{length}
use borrow.Author.Tests.{le-leb}
use Rattle.types.specs.declared.operand.Operand.{Operand}
use Rattle.rules.specs.Signature.{Signature}
use Rattle.functions.specs.Functions.{function_count, listing_of}
use Rattle.functions.proofs.Database.{one-length}
use Rattle.theorems.specs.Taking.{OneLength}
use Rattle.expressions.specs.Tree.{Tree}
use Rattle.expressions.specs.Limits.{WellFormed}
use Rattle.machine.specs.Line.{Line, encode}
use Rattle.machine.specs.Machine.{ended, step, run_by}
use Rattle.worksheet.specs.Typer.{Typed, typed, refused, type_of}
use Rattle.worksheet.specs.Answer.{with_room}
use Rattle.worksheet.specs.private.Sheet.{enough_bytes}
use Rattle.theorems.specs.Meaning.{Gives, Stuck}
use Rattle.theorems.specs.Demand3.{Worksheet, Demand3, Theorem}
use Rattle.theorems.proofs.Exact.{Means, means, gives-typed, fails-refused, fails-stuck, not-both}
use Rattle.theorems.proofs.Own.{own}
use Rattle.worksheet.proofs.Room.{four-each}
use Rattle.theorems.proofs.Room.{enough}
use Rattle.theorems.proofs.Runs.{runs, bytes_run}

module _ (listing_of : ℕ → List Signature) (switch : Bool) (one : (f : ℕ) → OneLength (listing_of f))
    (functions : ℕ) (e : Tree) (fit : WellFormed functions e) where
  meaning : (x : Typed Operand) → type_of listing_of switch e 0 ≡ x → Means listing_of switch e 0 x
  meaning x q = rw q at (means listing_of switch one e 0)

  given : (o : Operand) (ls : List Line) → Gives listing_of switch e o ls → Worksheet listing_of e o ls
  given o ls g =
      let r : run_by (step listing_of) ls 0 [] ≡ ended (o ∷ []) = runs listing_of switch functions e g fit.within.known fit.measurable fit.within.few in
      record {
        its_own = own listing_of switch e g;
        lines_run = r;
        bytes_run = bytes_run (step listing_of) ls 0 [] ∙ r;
        needed = four-each ls;
        suffice = enough listing_of switch e fit.within.few g;
      }

  either_one_lem : (x : Typed Operand) → type_of listing_of switch e 0 ≡ x
      → ((o : Operand) × (ls : List Line) × Gives listing_of switch e o ls) ⊎ Stuck listing_of switch e
  either_one_lem (typed o ls) q = inl (o, ls, meaning (typed o ls) q)
  either_one_lem (refused n p) q = inr (fails-stuck listing_of switch one e (meaning (refused n p) q))

  refusal : Stuck listing_of switch e → (x : Typed Operand) → type_of listing_of switch e 0 ≡ x
      → (n : ℕ) × (p : ℕ) × (type_of listing_of switch e 0 ≡ refused n p)
  refusal s (typed o ls) q = absurd (not-both listing_of switch one e (meaning (typed o ls) q) s)
  refusal s (refused n p) q = (n, p, q)

  roomy : (buffer : List ℕ) → enough_bytes ≤ length buffer → (x : Typed Operand) → type_of listing_of switch e 0 ≡ x → with_room buffer x ≡ x
  roomy buffer h (refused n p) q = refl
  roomy buffer h (typed o ls) q =
      let n : length (encode ls) ≤ enough_bytes = (given o ls (meaning (typed o ls) q)).suffice in
      rw (le-leb (length (encode ls)) (length buffer) (omega arith))

  holds : Demand3 listing_of switch e
  holds =
      record {
        accepted = λ o ls. (λ q. meaning (typed o ls) q, λ g. gives-typed listing_of switch one e g 0);
        worksheet = given;
        stuck = (
          λ w. fails-stuck listing_of switch one e (meaning (refused w.0 w.1) w.2),
          λ s. refusal s (type_of listing_of switch e 0) refl,
        );
        failed = λ n p. (λ q. meaning (refused n p) q, λ w. fails-refused listing_of switch one e w);
        either_one = either_one_lem (type_of listing_of switch e 0) refl;
        never_both = λ o ls g s. not-both listing_of switch one e g s;
        room_enough = λ buffer h. roomy buffer h (type_of listing_of switch e 0) refl;
      }

pub demand_3 : Theorem
demand_3 = holds

-- each listing of the 79 functions has one rule length
pub for_trees : (switch : Bool) (e : Tree) → WellFormed function_count e → Demand3 listing_of switch e
unfolding OneLength
for_trees switch e fit = demand_3 listing_of switch one-length function_count e fit
