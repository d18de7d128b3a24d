-- The typer answers exactly what specs/Meaning.antt and specs/Fault.antt say: it accepts an expression, with its type and lines,
-- just where the expression gives them, and refuses it, with its refusal, just where it fails so; an expression is stuck just where
-- it fails, and then it gives nothing. Where every listing has one rule length; of each call by Demand 2.
-- Assumes nothing.
use mathlib.Core.Path.{◌≡◌, refl, ap, ◌∙◌}
use mathlib.Core.Bool.{Bool}
use mathlib.Core.List.{List}
use Prim.Native.Nat.{ℕ}
use Rattle.types.specs.Operand.{codes, any_measured, concrete_only}
use Rattle.types.specs.declared.operand.Operand.{Operand}
use Rattle.rules.specs.Signature.{Signature}
use Rattle.rules.specs.declared.rule.Part.{Part}
use Rattle.rules.specs.declared.rule.Part.TheVariants.{Shape, Number}
use Rattle.calls.specs.Choice.{Choice, chosen, wrong_count, none_after, none_concrete, resolve_of}
use Rattle.theorems.specs.Taking.{NoRule, Best, OneLength, Emptied, Says}
use Rattle.theorems.proofs.Choices.{resolve-says}
use Rattle.theorems.proofs.Demand2.{left_after, none_after_lem, exactly}
use Rattle.expressions.specs.Tree.{Tree, Trees, leaf, call, none, more}
use Rattle.machine.specs.Line.{Line}
use Rattle.worksheet.specs.Places.{inside, behind, starts}
use Rattle.worksheet.proofs.Typings.{before, conclude_call}
use Rattle.worksheet.specs.Typer.{Typed, typed, refused, conclude, type_of, type_all}
use Rattle.theorems.specs.Meaning.{Gives, leaf_gives, call_gives, GiveAll, none_give, more_give, Stuck, at_argument, at_call, StuckAmong, first_stuck, later_stuck}
use Rattle.theorems.specs.Fault.{Fault, miscounted, wrong_shape, wrong_number, none_takes, Fails, fails_inside, fails_here, FailsAmong, fails_first, fails_later}

-- where an operand leaves no rule, by either part, no rule takes the operands
operand-no_rule : (switch : Bool) (rules : List Signature) (ts : List ℕ) → OneLength rules → (part : Part) {k : ℕ}
    → Emptied part rules ts k → NoRule switch rules ts
unfolding NoRule
operand-no_rule switch rules ts one part {k} e i r h t =
    none_after_lem switch rules ts one part k e.none (left_after switch rules ts one i r h t k e.there)

-- where a call is at fault, no rule takes its operands
fault-no_rule : (switch : Bool) (rules : List Signature) (ts : List ℕ) (at : ℕ) (places : List ℕ) → OneLength rules
    → {n p : ℕ} → Fault switch rules ts at places n p → NoRule switch rules ts
unfolding NoRule OneLength
fault-no_rule switch rules ts at places one (miscounted n) = λ i r h t. n (t.many ∙ one i r h)
fault-no_rule switch rules ts at places one (wrong_shape e) = operand-no_rule switch rules ts one Shape e
fault-no_rule switch rules ts at places one (wrong_number e) = operand-no_rule switch rules ts one Number e
fault-no_rule switch rules ts at places one (none_takes d) = d.none

module _ (listing_of : ℕ → List Signature) (switch : Bool) where
  -- what an answer means, for an expression at an offset
  abbrev pub Means : Tree → ℕ → Typed Operand → Type 0
  Means e at (typed o ls) = Gives listing_of switch e o ls
  Means e at (refused n p) = Fails listing_of switch e at n p

  abbrev MeansAll : Trees → ℕ → Typed (List Operand) → Type 0
  MeansAll es at (typed os ls) = GiveAll listing_of switch es os ls
  MeansAll es at (refused n p) = FailsAmong listing_of switch es at n p

  before-means : (e : Tree) (es : Trees) (at : ℕ) (x : Typed Operand) (y : Typed (List Operand)) → Means e at x → MeansAll es (behind e at) y
      → MeansAll (more e es) at (before x y)
  before-means e es at (refused n p) y g h = fails_first g
  before-means e es at (typed o ls) (refused n p) g h = fails_later g h
  before-means e es at (typed o ls) (typed os ls') g h = more_give g h

  conclude-means : (f at : ℕ) (es : Trees) (os : List Operand) (ls : List Line) → GiveAll listing_of switch es os ls → (c : Choice)
      → Says (concrete_only switch (any_measured os)) (listing_of f) (codes os) c → Means (call f es) at (conclude f at (starts es (inside at)) os ls c)
  conclude-means f at es os ls g (chosen i r) s = call_gives g s
  conclude-means f at es os ls g wrong_count s = fails_here g (miscounted s)
  conclude-means f at es os ls g (none_after Shape k) s = fails_here g (wrong_shape s)
  conclude-means f at es os ls g (none_after Number k) s = fails_here g (wrong_number s)
  conclude-means f at es os ls g none_concrete s = fails_here g (none_takes s)

  -- what is said of a call concludes it: a best rule, or a fault
  module _ (f at : ℕ) (places : List ℕ) (os : List Operand) (ls : List Line) (one : OneLength (listing_of f)) where
    concluded : (c : Choice) → Says (concrete_only switch (any_measured os)) (listing_of f) (codes os) c
        → conclude f at places os ls (resolve_of switch (listing_of f) os) ≡ conclude f at places os ls c
    concluded c s = ap (conclude f at places os ls) ((exactly (concrete_only switch (any_measured os)) (listing_of f) (codes os) one c).1 s)

    conclude-fault : {n p : ℕ} → Fault (concrete_only switch (any_measured os)) (listing_of f) (codes os) at places n p
        → conclude f at places os ls (resolve_of switch (listing_of f) os) ≡ refused n p
    conclude-fault (miscounted s) = concluded wrong_count s
    conclude-fault (wrong_shape {k} s) = concluded (none_after Shape k) s
    conclude-fault (wrong_number {k} s) = concluded (none_after Number k) s
    conclude-fault (none_takes s) = concluded none_concrete s

  module _ (one : (f : ℕ) → OneLength (listing_of f)) where
    call-means : (f at : ℕ) (es : Trees) (x : Typed (List Operand)) → MeansAll es (inside at) x
        → Means (call f es) at (conclude_call listing_of switch f at (starts es (inside at)) x)
    call-means f at es (refused n p) h = fails_inside h
    call-means f at es (typed os ls) g =
        conclude-means f at es os ls g (resolve_of switch (listing_of f) os) (resolve-says (concrete_only switch (any_measured os)) (listing_of f) (codes os) (one f))

    -- from the answer to its meaning
    mutual
      unfolding type_of

      pub means : (e : Tree) (at : ℕ) → Means e at (type_of listing_of switch e at)
      means (leaf l) at = leaf_gives
      means (call f es) at = call-means f at es (type_all listing_of switch es (inside at)) (means-all es (inside at))

      means-all : (es : Trees) (at : ℕ) → MeansAll es at (type_all listing_of switch es at)
      means-all none at = none_give
      means-all (more e es) at =
          before-means e es at (type_of listing_of switch e at) (type_all listing_of switch es (behind e at))
          (means e at) (means-all es (behind e at))

    -- and back
    mutual
      unfolding type_of

      pub gives-typed : (e : Tree) {o : Operand} {ls : List Line} → Gives listing_of switch e o ls → (at : ℕ)
          → type_of listing_of switch e at ≡ typed o ls
      gives-typed (leaf l) leaf_gives at = refl
      gives-typed (call f es) (call_gives {i = i} {os = os} {ls = ls} {r = r} g b) at =
          rw (give_operands es g (inside at))
          (concluded f at (starts es (inside at)) os ls (one f) (chosen i r) b)

      give_operands : (es : Trees) {os : List Operand} {ls : List Line} → GiveAll listing_of switch es os ls
          → (at : ℕ) → type_all listing_of switch es at ≡ typed os ls
      give_operands none none_give at = refl
      give_operands (more e es) (more_give g h) at = rw (gives-typed e g at, give_operands es h (behind e at))

    mutual
      unfolding type_of

      pub fails-refused : (e : Tree) {at : ℕ} {n p : ℕ} → Fails listing_of switch e at n p
          → type_of listing_of switch e at ≡ refused n p
      fails-refused (leaf l) h = elim h [ ]
      fails-refused (call f es) (fails_inside h) = rw (fail_among es h)
      fails-refused (call f es) (fails_here {at = at} {os = os} {ls = ls} g w) =
          rw (give_operands es g (inside at))
          (conclude-fault f at (starts es (inside at)) os ls (one f) w)

      fail_among : (es : Trees) {at : ℕ} {n p : ℕ} → FailsAmong listing_of switch es at n p
          → type_all listing_of switch es at ≡ refused n p
      fail_among none h = elim h [ ]
      fail_among (more e es) (fails_first h) = rw (fails-refused e h)
      fail_among (more e es) (fails_later {at = at} g h) = rw (gives-typed e g at, fail_among es h)

    -- what fails is stuck, and what is stuck gives nothing
    mutual
      pub fails-stuck : (e : Tree) {at : ℕ} {n p : ℕ} → Fails listing_of switch e at n p → Stuck listing_of switch e
      fails-stuck (leaf l) h = elim h [ ]
      fails-stuck (call f es) (fails_inside h) = at_argument (fails-stuck-among es h)
      fails-stuck (call f es) (fails_here {at = at} {os = os} g w) =
          at_call g (fault-no_rule (concrete_only switch (any_measured os)) (listing_of f) (codes os) at (starts es (inside at)) (one f) w)

      fails-stuck-among : (es : Trees) {at : ℕ} {n p : ℕ} → FailsAmong listing_of switch es at n p → StuckAmong listing_of switch es
      fails-stuck-among none h = elim h [ ]
      fails-stuck-among (more e es) (fails_first h) = first_stuck (fails-stuck e h)
      fails-stuck-among (more e es) (fails_later g h) = later_stuck (fails-stuck-among es h)

    operands-one : (es : Trees) {os os' : List Operand} {ls ls' : List Line} → GiveAll listing_of switch es os ls
        → GiveAll listing_of switch es os' ls'
        → os ≡ os'
    operands-one es g g' = let a = give_operands es g 0 in let b = give_operands es g' 0 in cc

    no_rule_for : (f : ℕ) (es : Trees) {os os' : List Operand} {ls ls' : List Line} {i : ℕ} {r : Signature}
        → GiveAll listing_of switch es os ls
        → Best (concrete_only switch (any_measured os)) (listing_of f) (codes os) i r → GiveAll listing_of switch es os' ls' → NoRule (concrete_only switch (any_measured os')) (listing_of f) (codes os') → ⊥
    unfolding NoRule
    no_rule_for f es {i = i} {r = r} g b g' no_rule = no_rule i r b.there (rw (operands-one es g g') at b.taken)

    mutual
      pub not-both : (e : Tree) {o : Operand} {ls : List Line} → Gives listing_of switch e o ls → Stuck listing_of switch e → ⊥
      not-both (leaf l) g s = elim s [ ]
      not-both (call f es) (call_gives g b) (at_argument s) = not-both-among es g s
      not-both (call f es) (call_gives g b) (at_call g' n) = no_rule_for f es g b g' n

      not-both-among : (es : Trees) {os : List Operand} {ls : List Line} → GiveAll listing_of switch es os ls
          → StuckAmong listing_of switch es → ⊥
      not-both-among none g s = elim s [ ]
      not-both-among (more e es) (more_give g h) (first_stuck s) = not-both e g s
      not-both-among (more e es) (more_give g h) (later_stuck s) = not-both-among es h s
