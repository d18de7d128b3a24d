-- The machine whose stack has its top last ends as the strict machine does, with the stack turned over, and stops at the same line.
-- Assumes nothing.
use mathlib.Core.Path.{◌≡◌, refl, sym, ap, ◌∙◌}
use mathlib.Core.Bool.{Bool, true, false, not}
use mathlib.Core.List.{List, [], ◌∷◌, ◌++◌, reverse, reverse-cons, reverse-append, reverse-reverse}
use mathlib.Core.Option.{Option, none, some}
use Prim.Native.Nat.{ℕ, suc, ◌-◌, ◌≤◌, ◌<◌}
use lib.Dec.{leb, ltb, eqb}
use lib.ListN.{length, get_or, set, take, drop, get_elem?, length-reverse, length-drop, take-append-drop}
use lib.Seq.{split_at, set_split, append_snoc, take_at, drop_at, get_or_at, set_at}
use borrow.Author.Tests.{ltb-true, leb-true}
use Rattle.scalars.specs.Mask.{both}
use Rattle.types.specs.Operand.{codes, measured_abstract}
use Rattle.types.specs.declared.operand.Operand.{Operand}
use Rattle.rules.specs.Signature.{Signature}
use Rattle.expressions.specs.Tree.{last_leaf}
use Rattle.machine.specs.Line.{Line, leaf_line, conversion_line, call_line, only_if, lines_of}
use Rattle.machine.specs.Machine.{Outcome, ended, stopped, most_operands, push, no_operand, retyped, convert_at, same, concluded, agrees, apply, next, step_if, run_by, step, run_bytes}
use Rattle.machine.specs.private.TopLast.{push_last, convert_last, apply_last, step_last, convertible}
use Rattle.machine.proofs.Likeness.{same-same, same-is}
use Rattle.machine.proofs.Turned.{codes-turned, measured-turned}

-- an outcome with its stack turned over
abbrev pub turned : Outcome → Outcome
turned (ended s) = ended (reverse s)
turned (stopped n) = stopped n

-- a stack turned over
turned_stack : Option (List Operand) → Option (List Operand)
turned_stack none = none
turned_stack (some s) = some (reverse s)

turned_if : (b : Bool) (o o' : Option (List Operand)) → (b ≡ true → o' ≡ turned_stack o) → only_if b o' ≡ turned_stack (only_if b o)
unfolding turned_stack
turned_if true o o' h = h refl
turned_if false o o' h = refl

turn_around : (p q : List Operand) (x : Operand) → reverse (p ++ (x ∷ q)) ≡ reverse q ++ (x ∷ reverse p)
turn_around p q x = reverse-append p (x ∷ q) ∙ rw reverse-cons (append_snoc (reverse q) x (reverse p))

push-turned : (o : Operand) (s : List Operand) → push_last o (reverse s) ≡ turned_stack (push o s)
unfolding turned_stack
push-turned o s =
    rw length-reverse
    (turned_if (ltb (length s) most_operands) (some (o ∷ s)) (some (reverse s ++ (o ∷ []))) (λ e. ap some (sym (reverse-cons o s))))

module _ (d : ℕ) (s : List Operand) (h : d < length s) where
  before_last : length (reverse (drop (suc d) s)) ≡ length s - suc d
  before_last = simp (length-reverse, length-drop)

  turned-at : reverse s ≡ reverse (drop (suc d) s) ++ (get_or s d no_operand ∷ reverse (take d s))
  turned-at = ap reverse (split_at s d no_operand h) ∙ turn_around (take d s) (drop (suc d) s) (get_or s d no_operand)

  get_turned : get_or (reverse s) (length s - suc d) no_operand ≡ get_or s d no_operand
  get_turned =
      rw turned-at (get_or_at (reverse (drop (suc d) s)) (get_or s d no_operand) (reverse (take d s)) no_operand (length s - suc d) before_last)

  set-turned : (a : Operand) → set (reverse s) (length s - suc d) a ≡ reverse (set s d a)
  set-turned a =
      ap (λ (l : List Operand). set l (length s - suc d) a) turned-at
      ∙ set_at (reverse (drop (suc d) s)) (get_or s d no_operand) (reverse (take d s)) a (length s - suc d) before_last
      ∙ sym (ap reverse (set_split s d a h) ∙ turn_around (take d s) (drop (suc d) s) a)

convert_turned : (d a : ℕ) (s : List Operand) → convert_last d a (reverse s) ≡ turned_stack (convert_at d a s)
unfolding convert_last convert_at turned_stack
convert_turned d a s = rw length-reverse (go (ltb d (length s)) refl)
  where
    go : (b : Bool) → ltb d (length s) ≡ b
        → only_if (both b (convertible (get_or (reverse s) (length s - suc d) no_operand).code a))
        (some (set (reverse s) (length s - suc d) (retyped (get_or (reverse s) (length s - suc d) no_operand) a)))
        ≡ turned_stack (only_if (both b (convertible (get_or s d no_operand).code a)) (some (set s d (retyped (get_or s d no_operand) a))))
    go true e =
        let h : d < length s = ltb-true d (length s) e in
        let o : Operand = retyped (get_or s d no_operand) a in
        rw (get_turned d s h, set-turned d s h o)
        (turned_if (convertible (get_or s d no_operand).code a) (some (set s d o)) (some (reverse (set s d o))) (λ q. refl))
    go false e = refl

same-turned : (xs : List Operand) (ys : List ℕ) → same (reverse xs) ys ≡ same xs (reverse ys)
same-turned xs ys = go (same (reverse xs) ys) (same xs (reverse ys)) refl refl
  where
    go : (b c : Bool) → same (reverse xs) ys ≡ b → same xs (reverse ys) ≡ c → b ≡ c
    go true true e e' = refl
    go false false e e' = refl
    go true false e e' =
        let q : reverse (codes xs) ≡ ys = sym (codes-turned xs) ∙ same-is (reverse xs) ys e in
        sym (same-same xs) ∙ ap (same xs) (sym (reverse-reverse (codes xs)) ∙ ap reverse q) ∙ e'
    go false true e e' =
        let q : codes (reverse xs) ≡ ys = codes-turned xs ∙ ap reverse (same-is xs (reverse ys) e') ∙ reverse-reverse ys in
        sym e ∙ ap (same (reverse xs)) (sym q) ∙ same-same (reverse xs)

-- the top operands, turned over, are the last ones
module _ (n : ℕ) (s : List Operand) (h : n ≤ length s) where
  rest-long : length (reverse (drop n s)) ≡ length s - n
  rest-long = simp (length-reverse, length-drop)

  turned-parts : reverse s ≡ reverse (drop n s) ++ reverse (take n s)
  turned-parts = ap reverse (sym (take-append-drop n s)) ∙ reverse-append (take n s) (drop n s)

  last-ones : drop (length s - n) (reverse s) ≡ reverse (take n s)
  last-ones = rw turned-parts (drop_at (reverse (drop n s)) (reverse (take n s)) (length s - n) rest-long)

  first-ones : take (length s - n) (reverse s) ≡ reverse (drop n s)
  first-ones = rw turned-parts (take_at (reverse (drop n s)) (reverse (take n s)) (length s - n) rest-long)

-- what a rule makes of operands that are of its types
abbrev concludes : Signature → List Operand → List Operand → Option (List Operand)
concludes r os s = only_if (agrees r os) (push (concluded r os) s)

abbrev concludes_last : Signature → List Operand → List Operand → Option (List Operand)
concludes_last r os s = only_if (agrees r os) (push_last (concluded r os) s)

concludes-turned : (r : Signature) (os s : List Operand) → concludes_last r (reverse os) (reverse s) ≡ turned_stack (concludes r os s)
concludes-turned r os s =
    rw (measured-turned os)
    (turned_if (agrees r os) (push (concluded r os) s) (push_last (concluded r os) (reverse s)) (λ q. push-turned (concluded r os) s))

apply-turned : (n : ℕ) (s : List Operand) (o : Option Signature) → apply_last n (reverse s) o ≡ turned_stack (apply n s o)
unfolding apply_last apply turned_stack
apply-turned n s none = refl
apply-turned n s (some r) =
    turned_if (eqb (length r.arguments) n)
    (only_if (both (leb n (length s)) (same (take n s) (reverse r.arguments))) (concludes r (take n s) (drop n s)))
    (only_if (both (leb n (length (reverse s))) (same (drop (length (reverse s) - n) (reverse s)) r.arguments))
    (concludes_last r (drop (length (reverse s) - n) (reverse s)) (take (length (reverse s) - n) (reverse s))))
    (λ q. rw length-reverse (go (leb n (length s)) refl))
  where
    go : (b : Bool) → leb n (length s) ≡ b
        → only_if (both b (same (drop (length s - n) (reverse s)) r.arguments))
        (concludes_last r (drop (length s - n) (reverse s)) (take (length s - n) (reverse s)))
        ≡ turned_stack (only_if (both b (same (take n s) (reverse r.arguments))) (concludes r (take n s) (drop n s)))
    go true e =
        let h : n ≤ length s = leb-true n (length s) e in
        rw (last-ones n s h, first-ones n s h, same-turned (take n s) r.arguments)
        (turned_if (same (take n s) (reverse r.arguments)) (concludes r (take n s) (drop n s))
        (concludes_last r (reverse (take n s)) (reverse (drop n s))) (λ q. concludes-turned r (take n s) (drop n s)))
    go false e = refl

module _ (listing_of : ℕ → List Signature) where
  step-turned : (l : Line) (s : List Operand) → step_last listing_of l (reverse s) ≡ turned_stack (step listing_of l s)
  step-turned (leaf_line l) s =
      turned_if (leb l.code last_leaf) (only_if (not (measured_abstract l)) (push l s))
      (only_if (not (measured_abstract l)) (push_last l (reverse s)))
      (λ q. turned_if (not (measured_abstract l)) (push l s) (push_last l (reverse s)) (λ p. push-turned l s))
  step-turned (conversion_line d a) s = convert_turned d a s
  step-turned (call_line f i n) s = apply-turned n s (get_elem? (listing_of f) i)

  step_if-turned : (o : Option Line) (s : List Operand)
      → step_if (step_last listing_of) o (reverse s) ≡ turned_stack (step_if (step listing_of) o s)
  unfolding turned_stack
  step_if-turned none s = refl
  step_if-turned (some l) s = step-turned l s

  next-turned : (n : ℕ) (go go' : List Operand → Outcome) → ((s : List Operand) → go' (reverse s) ≡ turned (go s))
      → (o : Option (List Operand)) → next n go' (turned_stack o) ≡ turned (next n go o)
  unfolding turned_stack
  next-turned n go go' h none = refl
  next-turned n go go' h (some s) = h s

  -- the lines that bytes spell, run from a line's number on
  abbrev pub run_last : List (Option Line) → ℕ → List Operand → Outcome
  run_last os n s = run_by (step_if (step_last listing_of)) os n s

  run-turned : (os : List (Option Line)) (n : ℕ) (s : List Operand) → run_last os n (reverse s) ≡ turned (run_by (step_if (step listing_of)) os n s)
  run-turned [] n s = refl
  run-turned (o ∷ os) n s =
      rw (step_if-turned o s)
      (next-turned n (λ (s' : List Operand). run_by (step_if (step listing_of)) os (suc n) s') (λ (s' : List Operand). run_last os (suc n) s')
      (λ s'. run-turned os (suc n) s') (step_if (step listing_of) o s))

  pub top_last : (bs : List ℕ) → run_last (lines_of bs) 0 [] ≡ turned (run_bytes listing_of bs)
  top_last bs = run-turned (lines_of bs) 0 []
