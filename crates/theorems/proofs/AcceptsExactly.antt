-- The first pass accepts exactly the bytes of the well-formed expressions: it reads the tree e from a byte string if and only if the byte
-- string is the bytes of e and e is well-formed. The bytes of any other tree within the limits are refused with 17. This holds for every
-- number of known functions. Assumes nothing.
use mathlib.Core.Path.{◌≡◌, sym, ap, ◌∙◌}
use mathlib.Core.List.{List, [], append-nil}
use Prim.Native.Nat.{ℕ, ◌+◌}
use native.Mathlib.Omega.{arith}
use borrow.Author.Tests.{le-ltb}
use lib.ListN.{length}
use Rattle.expressions.specs.Tree.{Tree, bytes_of, nodes, deepest}
use Rattle.expressions.specs.Reading.{done, read, refused_as, node_at, whole, expression_of}
use Rattle.expressions.proofs.Sound.{read-spelt}
use Rattle.expressions.specs.Limits.{Within, Measurable, WellFormed}
use Rattle.theorems.specs.FirstPass.{AbstractAt}
use Rattle.theorems.proofs.Levels.{read_low}
use Rattle.theorems.proofs.Complete.{Passes, passed, stopped, node_passes, not-measurable}

pub accepts-only : (functions : ℕ) (s : List ℕ) (e : Tree) → expression_of functions s ≡ read e → (s ≡ bytes_of e) × WellFormed functions e
accepts-only functions s e h =
    let spelt = read-spelt functions s e h in (
      spelt.text,
      record {
        within = record { known = spelt.known; few = spelt.few; low = read_low functions s e h };
        measurable = spelt.measurable;
      },
    )

-- the bytes of a tree within the limits are read, or refused where a measured leaf is abstract
module _ (functions : ℕ) (e : Tree) (within : Within functions e) where
  data Answered : Type 0 where
    accepts : Measurable e → expression_of functions (bytes_of e) ≡ read e → Answered
    refuses : (p : ℕ) → AbstractAt e 0 p → expression_of functions (bytes_of e) ≡ refused_as 17 p → Answered

  answered : Answered
  unfolding expression_of
  answered =
      go
      (node_passes functions (bytes_of e) e deepest 0 0 [] within.known within.low (omega (arith, within.few))
      (sym (append-nil (bytes_of e))))
    where
      go : Passes (node_at functions (bytes_of e) deepest 0 0) (done e (0 + length (bytes_of e)) (0 + nodes e)) (Measurable e) (AbstractAt e 0)
          → Answered
      go (passed m root) = accepts m (ap (whole (bytes_of e)) root ∙ simp (le-ltb (0 + length (bytes_of e)) (length (bytes_of e)) (omega arith)))
      go (stopped p h root) = refuses p h (ap (whole (bytes_of e)) root)

  pub measurable-accepted : Measurable e → expression_of functions (bytes_of e) ≡ read e
  measurable-accepted m = go answered
    where
      go : Answered → expression_of functions (bytes_of e) ≡ read e
      go (accepts _ is) = is
      go (refuses p h is) = absurd (not-measurable h m)

  pub abstract_refused : (Measurable e → ⊥) → (p : ℕ) × AbstractAt e 0 p × (expression_of functions (bytes_of e) ≡ refused_as 17 p)
  abstract_refused none = go answered
    where
      go : Answered → (p : ℕ) × AbstractAt e 0 p × (expression_of functions (bytes_of e) ≡ refused_as 17 p)
      go (accepts m is) = absurd (none m)
      go (refuses p h is) = (p, h, is)

pub accepts-all : (functions : ℕ) (s : List ℕ) (e : Tree) → s ≡ bytes_of e → WellFormed functions e → expression_of functions s ≡ read e
accepts-all functions s e text formed =
    ap (expression_of functions) text ∙ measurable-accepted functions e formed.within formed.measurable
