-- The strict machine runs the worksheet of a typed expression of at most 64 nodes to its end and leaves one operand, of its type and mark; and it
-- runs a worksheet's bytes as it runs its lines. Assumes nothing.
use mathlib.Core.Path.{◌≡◌, refl, sym, ap, ◌∙◌, subst}
use mathlib.Core.Bool.{Bool, true, false, not}
use mathlib.Core.List.{List, [], ◌∷◌, ◌++◌, reverse, reverse_aux, reverse_aux-eq, append_assoc, append-nil}
use mathlib.Core.Option.{Option, none, some}
use Prim.Native.Nat.{ℕ, suc, ◌+◌, ◌≤◌, ◌<◌}
use native.Mathlib.Omega.{arith}
use lib.Dec.{eqb}
use lib.ListN.{length, get_or, length-append, length-reverse, length-reverse_aux, get_elem?}
use lib.Seq.{take_at, drop_at, get_or_at, set_at}
use borrow.Author.Tests.{eqb-true, eq-eqb, lt-ltb, le-leb}
use Rattle.scalars.specs.Mask.{choose, either}
use Rattle.types.specs.Operand.{mark?, mark_of, codes, any_measured, concrete_only}
use Rattle.types.specs.declared.operand.Operand.{Operand}
use Rattle.types.proofs.Operands.{operand-back, codes-length}
use Rattle.rules.specs.Signature.{Signature, reaches, concrete}
use Rattle.theorems.specs.Taking.{Takes}
use Rattle.expressions.specs.Tree.{Tree, Trees, leaf, call, more, nodes, nodes_all, last_leaf}
use Rattle.expressions.specs.Tree as trees
use Rattle.expressions.specs.Known.{Known, KnownAll}
use Rattle.expressions.specs.Limits.{Measurable, MeasurableAll}
use Rattle.machine.specs.Line.{Line, leaf_line, conversion_line, call_line, conversions, call_lines, four_bytes, encode, lines_of}
use Rattle.machine.specs.Machine.{Outcome, Stepper, ended, most_operands, no_operand, retyped, same, convert_at, concluded, apply, next, step_if, run_by, step}
use Rattle.theorems.specs.Meaning.{Gives, leaf_gives, call_gives, GiveAll, none_give, more_give}
use Rattle.machine.proofs.Likeness.{same-same}
use Rattle.machine.proofs.Turned.{codes-turned, measured-turned}

-- operands converted to these types
abbrev retyped_all : List Operand → List ℕ → List Operand
retyped_all [] az = []
retyped_all (o ∷ os) [] = []
retyped_all (o ∷ os) (a ∷ az) = retyped o a ∷ retyped_all os az

retyped-codes : (os : List Operand) (az : List ℕ) → length os ≡ length az → codes (retyped_all os az) ≡ az
retyped-codes [] [] l = refl
retyped-codes [] (a ∷ az) l = absurd (omega arith)
retyped-codes (o ∷ os) [] l = absurd (omega arith)
retyped-codes (o ∷ os) (a ∷ az) l = ap (λ (ts : List ℕ). a ∷ ts) (retyped-codes os az (omega arith))

retyped-measured : (os : List Operand) (az : List ℕ) → length os ≡ length az → any_measured (retyped_all os az) ≡ any_measured os
retyped-measured [] [] l = refl
retyped-measured [] (a ∷ az) l = absurd (omega arith)
retyped-measured (o ∷ os) [] l = absurd (omega arith)
retyped-measured (o ∷ os) (a ∷ az) l = ap (either o.measured) (retyped-measured os az (omega arith))

-- an operand of its own type is itself
retyped-same : (o : Operand) (a : ℕ) → o.code ≡ a → retyped o a ≡ o
retyped-same o a e = ap (λ (t : ℕ). record { code = t; measured = o.measured }) (sym e)

-- operands stand on the stack in reverse, the last on top
convert_under : (os s : List Operand) (o : Operand) (a : ℕ) → eqb o.code a ≡ false → reaches o.code a ≡ true
    → convert_at (length os) a (reverse_aux os (o ∷ s)) ≡ some (reverse_aux os (retyped o a ∷ s))
unfolding convert_at
convert_under os s o a e h =
    rw (
      lt-ltb (length os) (length (reverse_aux os (o ∷ s))) (simp length-reverse_aux (omega arith)),
      reverse_aux-eq os (o ∷ s),
      reverse_aux-eq os (retyped o a ∷ s),
      get_or_at (reverse os) o s no_operand (length os) (length-reverse os),
      e,
      h,
      set_at (reverse os) o s (retyped o a) (length os) (length-reverse os),
    )

same_codes : (xs : List Operand) (ts : List ℕ) → codes xs ≡ ts → same xs ts ≡ true
same_codes xs ts e = ap (same xs) (sym e) ∙ same-same xs

-- a rule that takes operands, measured ones with concrete arguments alone, concludes from operands of exactly its types
agreed : (b : Bool) (r : Signature) → (b ≡ true → concrete r ≡ true) → either (not b) (concrete r) ≡ true
agreed true r h = h refl
agreed false r h = refl

apply_exact : (n : ℕ) (os s : List Operand) (r : Signature) → length os ≡ n → n ≡ length r.arguments
    → codes os ≡ r.arguments → (any_measured os ≡ true → concrete r ≡ true) → length s < most_operands
    → apply n (reverse_aux os s) (some r) ≡ some (concluded r os ∷ s)
unfolding apply
apply_exact n os s r m l c k h =
    let long : length (reverse os) ≡ n = length-reverse os ∙ m in
    rw (
      eq-eqb (length r.arguments) n (sym l),
      le-leb n (length (reverse_aux os s)) (simp length-reverse_aux (omega arith)),
      reverse_aux-eq os s,
      take_at (reverse os) s n long,
      drop_at (reverse os) s n long,
      same_codes (reverse os) (reverse r.arguments) (codes-turned os ∙ ap reverse c),
      measured-turned os,
      agreed (any_measured os) r k,
      lt-ltb (length s) most_operands h,
    )

-- lines lead from one stack to another, whatever lines follow
record Leads (listing_of : ℕ → List Signature) (ls : List Line) (s s' : List Operand) : Type 0 where
  on : (rest : List Line) (n : ℕ) → run_by (step listing_of) (ls ++ rest) n s ≡ run_by (step listing_of) rest (n + length ls) s'

module _ (listing_of : ℕ → List Signature) where
  leads-none : {s : List Operand} → Leads listing_of [] s s
  leads-none {s} = record { on = λ rest n. ap (λ (m : ℕ). run_by (step listing_of) rest m s) (omega arith) }

  leads_one : (l : Line) {s s' : List Operand} → step listing_of l s ≡ some s' → Leads listing_of (l ∷ []) s s'
  leads_one l {s} {s'} e = record { on = λ rest n. rw e (ap (λ (m : ℕ). run_by (step listing_of) rest m s') (omega arith)) }

  leads-both : {ls ls' : List Line} {s₁ s₂ s₃ : List Operand} → Leads listing_of ls s₁ s₂ → Leads listing_of ls' s₂ s₃ → Leads listing_of (ls ++ ls') s₁ s₃
  leads-both {ls} {ls'} {s₁} {s₂} {s₃} f g =
      record {
        on = λ rest n.
            ap (λ (l : List Line). run_by (step listing_of) l n s₁) (append_assoc ls ls' rest)
            ∙ f.on (ls' ++ rest) n ∙ g.on rest (n + length ls)
            ∙ ap (λ (m : ℕ). run_by (step listing_of) rest m s₃) (omega (arith, length-append ls ls'));
      }

  leads-conversions : (os : List Operand) (az : List ℕ) (s : List Operand) → length os ≡ length az
      → ((k : ℕ) → k < length os → reaches (get_or (codes os) k 0) (get_or az k 0) ≡ true)
      → Leads listing_of (conversions (codes os) az) (reverse_aux os s) (reverse_aux (retyped_all os az) s)
  leads-conversions [] [] s l h = leads-none
  leads-conversions [] (a ∷ az) s l h = absurd (omega arith)
  leads-conversions (o ∷ os) [] s l h = absurd (omega arith)
  leads-conversions (o ∷ os) (a ∷ az) s l h =
      go (leads-conversions os az (retyped o a ∷ s) (omega arith) (λ k lt. h (suc k) (omega arith))) (eqb o.code a) refl
    where
      go : Leads listing_of (conversions (codes os) az) (reverse_aux os (retyped o a ∷ s)) (reverse_aux (retyped_all os az) (retyped o a ∷ s))
          → (b : Bool) → eqb o.code a ≡ b
          → Leads listing_of (choose b (conversions (codes os) az) (conversion_line (length (codes os)) a ∷ conversions (codes os) az))
          (reverse_aux os (o ∷ s)) (reverse_aux (retyped_all os az) (retyped o a ∷ s))
      go ih true e =
          subst (λ (x : Operand). Leads listing_of (conversions (codes os) az) (reverse_aux os (x ∷ s)) (reverse_aux (retyped_all os az) (retyped o a ∷ s)))
          (retyped-same o a (eqb-true o.code a e)) ih
      go ih false e =
          leads-both (leads_one (conversion_line (length (codes os)) a) (rw (codes-length os) (convert_under os s o a e (h 0 (omega arith))))) ih

  leads-call : (f i : ℕ) (os s : List Operand) (r : Signature) (switch : Bool) → get_elem? (listing_of f) i ≡ some r
      → Takes (concrete_only switch (any_measured os)) (codes os) r → length s < most_operands
      → Leads listing_of (call_lines f i (codes os) r) (reverse_aux os s) (concluded r os ∷ s)
  leads-call f i os s r switch e t h =
      let long = codes-length os in
      let many : length os ≡ length r.arguments = sym long ∙ t.many in
      let made = retyped_all os r.arguments in
      let same : any_measured made ≡ any_measured os = retyped-measured os r.arguments many in
      let typed : codes made ≡ r.arguments = retyped-codes os r.arguments many in
      let counted : length made ≡ length (codes os) = sym (codes-length made) ∙ ap length typed ∙ sym t.many in
      let concludes : concluded r made ≡ concluded r os = ap (λ (b : Bool). record { code = r.result; measured = b }) same in
      leads-both (leads-conversions os r.arguments s many (λ k lt. t.reached k (omega arith)))
      (leads_one (call_line f i (length (codes os)))
      (rw e (apply_exact (length (codes os)) made s r counted t.many typed (λ b. t.allowed (asks switch (sym same ∙ b))) h
      ∙ ap (λ (o : Operand). some (o ∷ s)) concludes)))
    where
      asks : (switch : Bool) → any_measured os ≡ true → concrete_only switch (any_measured os) ≡ true
      asks true b = refl
      asks false b = b

  one_node : (e : Tree) → 1 ≤ nodes e
  unfolding nodes
  one_node (leaf l) = omega arith
  one_node (call f es) = omega arith

  module _ (switch : Bool) (functions : ℕ) where
    mutual
      unfolding nodes Known Measurable

      leads : (e : Tree) {o : Operand} {ls : List Line} → Gives listing_of switch e o ls → Known functions e → Measurable e
          → (s : List Operand) → length s + nodes e ≤ most_operands → Leads listing_of ls s (o ∷ s)
      leads (leaf l) leaf_gives k m s h =
          leads_one (leaf_line l) (rw (le-leb l.code last_leaf k, m, lt-ltb (length s) most_operands (omega arith)))
      leads (call f es) (call_gives {i = i} {os = os} {r = r} g b) k m s h =
          leads-both (leads-all es g k.1 m s (omega arith)) (leads-call f i os s r switch b.there b.taken (omega arith))

      leads-all : (es : Trees) {os : List Operand} {ls : List Line} → GiveAll listing_of switch es os ls → KnownAll functions es
          → MeasurableAll es → (s : List Operand) → length s + nodes_all es ≤ most_operands → Leads listing_of ls s (reverse_aux os s)
      leads-all trees.none none_give k m s h = leads-none
      leads-all (more e es) (more_give {o = o} g g') k m s h =
          let n = one_node e in
          leads-both (leads e g k.0 m.0 s (omega arith)) (leads-all es g' k.1 m.1 (o ∷ s) (omega arith))

    pub runs : (e : Tree) {o : Operand} {ls : List Line} → Gives listing_of switch e o ls → Known functions e → Measurable e
        → nodes e ≤ most_operands → run_by (step listing_of) ls 0 [] ≡ ended (o ∷ [])
    runs e g k m h = rw append-nil at ((leads e g k m [] (omega arith)).on [] 0)

-- ---- bytes

mark-back : (b : Bool) → mark? (mark_of b) ≡ true
mark-back true = refl
mark-back false = refl

-- two machines that go on alike
next-alike : (n : ℕ) (go go' : List Operand → Outcome) → ((s : List Operand) → go s ≡ go' s) → (o : Option (List Operand)) → next n go o ≡ next n go' o
next-alike n go go' h none = refl
next-alike n go go' h (some s) = h s

module _ (step : Stepper Line) where
  pub bytes_run : (ls : List Line) (n : ℕ) (s : List Operand) → run_by (step_if step) (lines_of (encode ls)) n s ≡ run_by step ls n s
  unfolding encode
  bytes_run [] n s = refl
  bytes_run (l ∷ ls) n s = go (bytes_run ls (suc n)) l
    where
      go : ((s' : List Operand) → run_by (step_if step) (lines_of (encode ls)) (suc n) s' ≡ run_by step ls (suc n) s')
          → (l : Line) → run_by (step_if step) (lines_of (four_bytes l ++ encode ls)) n s ≡ run_by step (l ∷ ls) n s
      go ih (leaf_line k) = rw (mark-back k.measured, operand-back k) (next-alike n _ _ ih (step (leaf_line k) s))
      go ih (conversion_line d a) = next-alike n _ _ ih (step (conversion_line d a) s)
      go ih (call_line f i m) = next-alike n _ _ ih (step (call_line f i m) s)
