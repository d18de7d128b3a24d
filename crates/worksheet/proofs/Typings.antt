-- What the second pass answers: fewer than twice as many lines as nodes, and one operand for each argument. Assumes nothing.
use mathlib.Core.Path.{◌≡◌, refl, ap}
use mathlib.Core.Bool.{Bool}
use mathlib.Core.List.{List, [], ◌∷◌, ◌++◌}
use Prim.Native.Nat.{ℕ, suc, ◌+◌, ◌*◌, ◌≤◌}
use native.Mathlib.Omega.{arith}
use lib.ListN.{length, length-append}
use Rattle.types.specs.Operand.{codes}
use Rattle.types.specs.declared.operand.Operand.{Operand}
use Rattle.types.proofs.Operands.{codes-length}
use Rattle.rules.specs.Signature.{Signature}
use Rattle.calls.specs.Choice.{Choice, chosen, wrong_count, none_after, none_concrete, resolve_of}
use Rattle.functions.specs.Functions.{listing_of}
use Rattle.expressions.specs.Tree.{Tree, Trees, leaf, call, none, more, count, nodes, nodes_all}
use Rattle.machine.specs.Line.{Line, call_line, conversions}
use Rattle.worksheet.specs.Places.{inside, behind, starts}
use Rattle.worksheet.specs.Typer.{Typed, typed, refused, and_then, conclude, type_of, type_all}
use Rattle.worksheet.proofs.Room.{few-conversions}

-- an operand and its lines in front of the others
abbrev pub before : Typed Operand → Typed (List Operand) → Typed (List Operand)
before x y = and_then x (λ o ls. and_then y (λ os ls'. typed (o ∷ os) (ls ++ ls')))

-- what is concluded of a call's operands
abbrev pub conclude_call : (ℕ → List Signature) → Bool → ℕ → ℕ → List ℕ → Typed (List Operand) → Typed Operand
conclude_call listing_of switch f at places x = and_then x (λ os ls. conclude f at places os ls (resolve_of switch (listing_of f) os))

pub record Small (e : Tree) (ls : List Line) : Type 0 where
  pub few : length ls + 1 ≤ 2 * nodes e

abbrev pub Sized : Tree → Typed Operand → Type 0
Sized e (typed o ls) = Small e ls
Sized e (refused n p) = Unit

pub record SmallAll (es : Trees) (os : List Operand) (ls : List Line) : Type 0 where
  pub many : length os ≡ count es
  pub few : length ls + length os ≤ 2 * nodes_all es

abbrev pub SizedAll : Trees → Typed (List Operand) → Type 0
SizedAll es (typed os ls) = SmallAll es os ls
SizedAll es (refused n p) = Unit

conclude-sized : (f at : ℕ) (places : List ℕ) (es : Trees) (os : List Operand) (ls : List Line) → SmallAll es os ls
    → (c : Choice) → Sized (call f es) (conclude f at places os ls c)
unfolding nodes
conclude-sized f at places es os ls k (chosen i r) =
    let a = length-append ls (conversions (codes os) r.arguments ++ (call_line f i (length (codes os)) ∷ [])) in
    let b = length-append (conversions (codes os) r.arguments) (call_line f i (length (codes os)) ∷ []) in
    let d = few-conversions (codes os) r.arguments in
    record { few = omega (arith, k.few, codes-length os) }
conclude-sized f at places es os ls k wrong_count = tt
conclude-sized f at places es os ls k (none_after part j) = tt
conclude-sized f at places es os ls k none_concrete = tt

module _ (switch : Bool) where
  call-sized : (f at : ℕ) (places : List ℕ) (es : Trees) (x : Typed (List Operand)) → SizedAll es x
      → Sized (call f es) (conclude_call listing_of switch f at places x)
  call-sized f at places es (refused n p) k = tt
  call-sized f at places es (typed os ls) k = conclude-sized f at places es os ls k (resolve_of switch (listing_of f) os)

  before-sized : (e : Tree) (es : Trees) (x : Typed Operand) (y : Typed (List Operand)) → Sized e x → SizedAll es y → SizedAll (more e es) (before x y)
  unfolding nodes count
  before-sized e es (refused n p) y k h = tt
  before-sized e es (typed o ls) (refused n p) k h = tt
  before-sized e es (typed o ls) (typed os ls') k h = record { many = ap suc h.many; few = omega (arith, length-append ls ls', k.few, h.few) }

  mutual
    unfolding type_of nodes count

    pub sized : (e : Tree) (at : ℕ) → Sized e (type_of listing_of switch e at)
    sized (leaf l) at = record { few = omega arith }
    sized (call f es) at = call-sized f at (starts es (inside at)) es (type_all listing_of switch es (inside at)) (sized-all es (inside at))

    pub sized-all : (es : Trees) (at : ℕ) → SizedAll es (type_all listing_of switch es at)
    sized-all none at = record { many = refl; few = omega arith }
    sized-all (more e es) at =
        before-sized e es (type_of listing_of switch e at) (type_all listing_of switch es (behind e at)) (sized e at) (sized-all es (behind e at))

pub starts-many : (es : Trees) (at : ℕ) → length (starts es at) ≡ count es
unfolding starts count
starts-many none at = refl
starts-many (more e es) at = ap suc (starts-many es (behind e at))

pub nodes-least : (e : Tree) → 1 ≤ nodes e
unfolding nodes
nodes-least (leaf l) = omega arith
nodes-least (call f es) = omega arith

pub count-nodes : (es : Trees) → count es ≤ nodes_all es
unfolding count nodes
count-nodes none = omega arith
count-nodes (more e es) = omega (arith, count-nodes es, nodes-least e)
