-- The definition of reading a text, by the tokens and names that stand there: one law for each way through `read_node`, `read_measured`,
-- `read_brackets` and `read_arguments`. Each says what is answered and written, so that the functions' proofs only cite it. Assumes nothing.
use mathlib.Core.Path.{◌≡◌, refl, sym, ap, ap₂, ◌∙◌, subst⁻¹}
use mathlib.Core.Bool.{Bool, true, false}
use mathlib.Core.Logic.{◌⊎◌, ⊎_elim}
use mathlib.Core.List.{List, [], ◌∷◌, append-nil}
use Prim.Native.Nat.{ℕ, zero, suc, ◌+◌, ◌*◌, ◌≤◌, ◌<◌}
use native.Mathlib.Omega.{arith}
use native.Mathlib.Numerals.{add-one}
use borrow.Author.Tests.{lt-ltb, le-ltb}
use lib.Dec.{ltb}
use Rattle.scalars.specs.Mask.{choose}
use lib.ListN.{length, set, length-append}
use lib.Seq.{sets, set_comm}
use Rattle.std.specs.Prelude.{Result, Ok, Err, Some}
use Rattle.scalars.specs.declared.refusal.Refusal.{Refusal}
use Rattle.scalars.specs.declared.refusal.Refusal.TheVariants.{TooLarge, UnknownRun, Misplaced}
use Rattle.types.specs.declared.operand.Operand.{Operand}
use Rattle.names.specs.Names.{Named, a_type, a_function, unknown, measured_name, same, named_paper}
use Rattle.names.specs.WordPaper.{word_paper}
use Rattle.names.specs.declared.index.Word.{Word}
use Rattle.names.specs.declared.index.Word.TheVariants.{TypeName, FunctionName}
use Rattle.names.proofs.WordPapers.{type_is, function-is}
use Rattle.expressions.specs.Tree.{Tree, Trees, leaf, call, none, more, count, bytes_of, bytes_of_all, leaf_tag, call_tag, measured_tag, most_nodes, deepest}
use Rattle.expressions.specs.Reading.{Reading, done, refused, and_then, demand}
use Rattle.expressions.specs.private.Step.{levels_left}
use Rattle.text.specs.declared.token.Token.{Token}
use Rattle.text.specs.declared.token.Token.TheVariants.{Open, Close, Comma, Run, End}
use Rattle.text.specs.declared.reader.Past.{Past}
use Rattle.text.specs.Tokens.{next, place}
use Rattle.text.specs.Reading.{misplaced, on_run, on_open, on_close, on_more, args_at, brackets_at, word_at, run_at, type_at, measured_at, run_node, node_at}
use Rattle.text.specs.private.ReadStep.{LeafRoom, leaf_put, leaf_past, Went, NodeRead, ArgsRead}
use Rattle.text.proofs.Stores.{sets_append}
use Rattle.text.proofs.Tokens.{placed}

-- ---- the bytes of a call, of which the first three are written after the others

set_before : (d : List ℕ) (i m b : ℕ) (xs : List ℕ) → i < m → set (sets d m xs) i b ≡ sets (set d i b) m xs
set_before d i m b [] h = refl
set_before d i m b (x ∷ xs) h =
    set_before (set d m x) i (suc m) b xs (omega arith)
    ∙ ap (λ l. sets l (suc m) xs) (set_comm d m i x b (λ e. omega arith))

call-written : (d : List ℕ) (m f k : ℕ) (bs : List ℕ)
    → set (set (set (sets d (m + 3) bs) m call_tag) (m + 1) f) (m + 2) k ≡ sets d m (call_tag ∷ f ∷ k ∷ bs)
call-written d m f k bs =
    let three : m + 3 ≡ suc (suc (suc m)) = omega arith in
    let two : m + 2 ≡ suc (suc m) = omega arith in
    ap (λ l. set (set l (m + 1) f) (m + 2) k) (set_before d m (m + 3) call_tag bs (omega arith))
    ∙ ap (λ l. set l (m + 2) k) (set_before (set d m call_tag) (m + 1) (m + 3) f bs (omega arith))
    ∙ set_before (set (set d m call_tag) (m + 1) f) (m + 2) (m + 3) k bs (omega arith)
    ∙ ap (λ i. sets (set (set (set d m call_tag) i f) (m + 2) k) (m + 3) bs) (add-one m)
    ∙ ap₂ (λ i j. sets (set (set (set d m call_tag) (suc m) f) i k) j bs) two three

-- ---- a token that is none of those asked for is misplaced

abbrev pub NoRun : Token → Type 0
NoRun t = (p e : ℕ) → t ≡ Run p e → ⊥

abbrev pub NoOpen : Token → Type 0
NoOpen t = (p : ℕ) → t ≡ Open p → ⊥

abbrev pub NoClose : Token → Type 0
NoClose t = (p : ℕ) → t ≡ Close p → ⊥

abbrev pub NoMore : Token → Type 0
NoMore t = NoClose t × ((p : ℕ) → t ≡ Comma p → ⊥)

run-misplaced : (t : Token) → NoRun t → (k : ℕ → ℕ → Reading Tree) → on_run t k ≡ misplaced t
run-misplaced (Run p e) h k = absurd (h p e refl)
run-misplaced (Open p) h k = refl
run-misplaced (Close p) h k = refl
run-misplaced (Comma p) h k = refl
run-misplaced (End p) h k = refl

open_misplaced : (t : Token) → NoOpen t → (k : ℕ → Reading Trees) → on_open t k ≡ misplaced t
open_misplaced (Open p) h k = absurd (h p refl)
open_misplaced (Close p) h k = refl
open_misplaced (Comma p) h k = refl
open_misplaced (Run p e) h k = refl
open_misplaced (End p) h k = refl

no_close : (t : Token) → NoClose t → (k : ℕ → Reading Trees) (x : Reading Trees) → on_close t k x ≡ x
no_close (Close p) h k x = absurd (h p refl)
no_close (Open p) h k x = refl
no_close (Comma p) h k x = refl
no_close (Run p e) h k x = refl
no_close (End p) h k x = refl

more-misplaced : (t : Token) → NoMore t → (k l : ℕ → Reading Trees) → on_more t k l ≡ misplaced t
more-misplaced (Close p) h k l = absurd (h.0 p refl)
more-misplaced (Comma p) h k l = absurd (h.1 p refl)
more-misplaced (Open p) h k l = refl
more-misplaced (Run p e) h k l = refl
more-misplaced (End p) h k l = refl

-- ---- a word that is known to be a type's, or a function's

pub type_named : (w : Word) (x : Named) → word_paper (Some w) ≡ named_paper x → (t : ℕ) → w ≡ TypeName t → x ≡ a_type t
type_named w x e t is = type_is t x (sym (ap (λ w. word_paper (Some w)) is) ∙ e)

pub function_named : (w : Word) (x : Named) → word_paper (Some w) ≡ named_paper x → (f : ℕ) → w ≡ FunctionName f → x ≡ a_function f
function_named w x e f is = function-is f x (sym (ap (λ w. word_paper (Some w)) is) ∙ e)

-- ---- what is read

-- what is read from a later offset on, where the definition hands on to there
went-later : {A : Type 0} {bytes : A → List ℕ} {many : A → ℕ} {s : List ℕ} {at later n m : ℕ} {d d' : List ℕ} {x y : Reading A}
    {p : Past} → x ≡ y → at ≤ later → Went bytes many s later n m d d' y p → Went bytes many s at n m d d' x p
went-later eq h w = record {
  tree = w.tree;
  is = eq ∙ w.is;
  number_is = w.number_is;
  made-is = w.made-is;
  written = w.written;
  moves = omega (arith, w.moves);
  within = w.within;
  grows = w.grows;
  few = w.few;
  room = w.room;
}

-- a leaf is read, and its bytes are written
leaf-read : (s : List ℕ) (at n m e : ℕ) (d d' : List ℕ) (o : Operand) (x : Reading Tree) (r : Result Past Refusal) → x ≡ done (leaf o) e (n + 1)
    → at < e → e ≤ length s → LeafRoom n m → r ≡ Ok (leaf_past e n m) → d' ≡ sets d m (bytes_of (leaf o)) → NodeRead s at n m d d' x r
unfolding NodeRead bytes_of
leaf-read s at n m e d d' o x r is moves within h eq w = subst⁻¹ (NodeRead s at n m d d' x) eq (record {
  tree = leaf o;
  is = is;
  number_is = refl;
  made-is = refl;
  written = w;
  moves = moves;
  within = within;
  grows = omega arith;
  few = omega (arith, h.0);
  room = omega (arith, h.1);
})

module _ (look : List ℕ → Named) (s : List ℕ) where
  -- what the definition makes of a run, of the token behind an opening bracket and of the token behind an argument

  abbrev running : ℕ → ℕ → ℕ → ℕ → Reading Tree
  running levels n p e = demand (ltb n most_nodes) 9 p (run_node look s (node_at look s levels) p e n)

  abbrev bracketed : (ℕ → ℕ → Reading Tree) → ℕ → ℕ → Token → Reading Trees
  bracketed node n inside t = on_close t (λ behind. done none behind n) (args_at look s node (suc most_nodes) inside n)

  abbrev following : (ℕ → ℕ → Reading Tree) → ℕ → Tree → ℕ → Token → Reading Trees
  following node left e n t =
      on_more t (λ behind. done (more e none) behind n) (λ behind. and_then (args_at look s node left behind n) (λ es. done (more e es)))

  -- ---- a measured leaf, from behind `measured` on

  module _ (at n m : ℕ) (d d' : List ℕ) where
    pub no_type : (t : Token) (p : ℕ) → t ≡ next s at → NoRun t → p ≡ place t
        → NodeRead s at n m d d' (measured_at look s at n) (Err (Misplaced p))
    unfolding measured_at NodeRead
    no_type t p e h q =
        let k : ℕ → ℕ → Reading Tree = λ p e. type_at look s p e n (look (run_at look s p e)) in
        sym (ap (λ t. on_run t k) e) ∙ run-misplaced t h k ∙ ap (refused 15) (sym q)

    module _ (p e : ℕ) (run : Run p e ≡ next s at) where
      behind-measured : (w : Named) → look (run_at look s p e) ≡ w → measured_at look s at n ≡ type_at look s p e n w
      unfolding measured_at
      behind-measured w is =
          sym (ap (λ t. on_run t (λ p e. type_at look s p e n (look (run_at look s p e)))) run) ∙ ap (type_at look s p e n) is

      pub function_type : (f : ℕ) → look (run_at look s p e) ≡ a_function f
          → NodeRead s at n m d d' (measured_at look s at n) (Err (Misplaced p))
      unfolding type_at NodeRead
      function_type f is = behind-measured (a_function f) is

      pub unknown_type : look (run_at look s p e) ≡ unknown → NodeRead s at n m d d' (measured_at look s at n) (Err (Misplaced p))
      unfolding type_at NodeRead
      unknown_type is = behind-measured unknown is

      pub measured_type : (t : ℕ) → look (run_at look s p e) ≡ a_type t → LeafRoom n m → (r : Result Past Refusal) → r ≡ Ok (leaf_past e n m)
          → d' ≡ leaf_put d m measured_tag t → NodeRead s at n m d d' (measured_at look s at n) r
      unfolding type_at bytes_of
      measured_type t is h r eq w =
          let q = placed s at run in
          leaf-read s at n m e d d' (record { code = t; measured = true }) (measured_at look s at n) r (behind-measured (a_type t) is)
          (omega arith) q.2 h eq w

  -- ---- a node

  module _ (at n : ℕ) where
    stray : (t : Token) → t ≡ next s at → NoRun t → (levels : ℕ) → node_at look s levels at n ≡ misplaced t
    unfolding node_at
    stray t e h zero = sym (ap (λ t. on_run t (λ p e. refused 9 p)) e) ∙ run-misplaced t h (λ p e. refused 9 p)
    stray t e h (suc levels) = sym (ap (λ t. on_run t (running levels n)) e) ∙ run-misplaced t h (running levels n)

    module _ (p e : ℕ) (run : Run p e ≡ next s at) where
      no_level : node_at look s 0 at n ≡ refused 9 p
      unfolding node_at
      no_level = sym (ap (λ t. on_run t (λ p e. refused 9 p)) run)

      levels_left_lem : (levels : ℕ) → node_at look s (suc levels) at n
          ≡ running levels n p e
      unfolding node_at
      levels_left_lem levels =
          sym (ap (λ t. on_run t (running levels n)) run)

      many : (levels : ℕ) → most_nodes ≤ n → node_at look s levels at n ≡ refused 9 p
      many zero h = no_level
      many (suc levels) h = levels_left_lem levels ∙ simp (le-ltb n most_nodes h)

      allowed : (depth : ℕ) → n < most_nodes → depth ≤ deepest
          → node_at look s (levels_left depth) at n ≡ run_node look s (node_at look s (levels_left (depth + 1))) p e n
      allowed depth few low =
          let l : levels_left depth ≡ suc (levels_left (depth + 1)) = omega arith in
          let k : ℕ → ℕ → Reading Tree = node_at look s (levels_left (depth + 1)) in
          ap (λ l. node_at look s l at n) l
          ∙ levels_left_lem (levels_left (depth + 1))
          ∙ ap (λ b. demand b 9 p (run_node look s k p e n)) (lt-ltb n most_nodes few)

  module _ (at n m depth : ℕ) (d d' : List ℕ) where
    pub no_run : (t : Token) (p : ℕ) → t ≡ next s at → NoRun t → p ≡ place t
        → NodeRead s at n m d d' (node_at look s (levels_left depth) at n) (Err (Misplaced p))
    unfolding NodeRead
    no_run t p e h q = stray at n t e h (levels_left depth) ∙ ap (refused 15) (sym q)

    module _ (p e : ℕ) (run : Run p e ≡ next s at) where
      too_many : most_nodes ≤ n → NodeRead s at n m d d' (node_at look s (levels_left depth) at n) (Err (TooLarge p))
      unfolding NodeRead
      too_many h = many at n p e run (levels_left depth) h

      too_deep : deepest < depth → NodeRead s at n m d d' (node_at look s (levels_left depth) at n) (Err (TooLarge p))
      unfolding NodeRead
      too_deep h = let z : levels_left depth ≡ 0 = omega arith in ap (λ l. node_at look s l at n) z ∙ no_level at n p e run

      pub too_large : (most_nodes ≤ n) ⊎ ((n < most_nodes) × (deepest < depth))
          → NodeRead s at n m d d' (node_at look s (levels_left depth) at n) (Err (TooLarge p))
      too_large = ⊎_elim too_many (λ h. too_deep h.1)

      module _ (few : n < most_nodes) (low : depth ≤ deepest) where
        -- the first run is `measured`
        pub measured_node : {found : Bool} → found ≡ same (run_at look s p e) measured_name → found ≡ true → (r : Result Past Refusal)
            → NodeRead s e n m d d' (measured_at look s e n) r → NodeRead s at n m d d' (node_at look s (levels_left depth) at n) r
        unfolding NodeRead run_node
        measured_node test is = go
          where
            begun : node_at look s (levels_left depth) at n ≡ measured_at look s e n
            begun = allowed at n p e run depth few low
                ∙ ap (λ b. choose b (measured_at look s e n)
                (word_at look s (node_at look s (levels_left (depth + 1))) p e n (look (run_at look s p e)))) (sym test ∙ is)

            go : (r : Result Past Refusal) → NodeRead s e n m d d' (measured_at look s e n) r → NodeRead s at n m d d' (node_at look s (levels_left depth) at n) r
            go (Err why) x = begun ∙ x
            go (Ok p) x = let q = placed s at run in went-later begun (omega arith) x

        -- it is not
        module _ {found : Bool} (test : found ≡ same (run_at look s p e) measured_name) (other : found ≡ false) where
          worded : (w : Named) → look (run_at look s p e) ≡ w
              → node_at look s (levels_left depth) at n ≡ word_at look s (node_at look s (levels_left (depth + 1))) p e n w
          unfolding run_node
          worded w is =
              allowed at n p e run depth few low
              ∙ ap₂ (λ b w. choose b (measured_at look s e n) (word_at look s (node_at look s (levels_left (depth + 1))) p e n w)) (sym test ∙ other) is

          pub unknown_node : look (run_at look s p e) ≡ unknown
              → NodeRead s at n m d d' (node_at look s (levels_left depth) at n) (Err (UnknownRun p))
          unfolding word_at NodeRead
          unknown_node is = worded unknown is

          pub leaf_node : (t : ℕ) → look (run_at look s p e) ≡ a_type t → m ≤ 3 * n → (r : Result Past Refusal) → r ≡ Ok (leaf_past e n m)
              → d' ≡ leaf_put d m leaf_tag t → NodeRead s at n m d d' (node_at look s (levels_left depth) at n) r
          unfolding word_at bytes_of
          leaf_node t is room r eq w =
              let q = placed s at run in
              leaf-read s at n m e d d' (record { code = t; measured = false }) (node_at look s (levels_left depth) at n) r
              (worded (a_type t) is) (omega arith) q.2 (few, room) eq w

          module _ (f : ℕ) (is : look (run_at look s p e) ≡ a_function f) (b : List ℕ) where
            abbrev inner : Reading Trees
            inner = brackets_at look s (node_at look s (levels_left (depth + 1))) e (n + 1)

            called : node_at look s (levels_left depth) at n ≡ and_then inner (λ es. done (call f es))
            unfolding word_at
            called = worded (a_function f) is

            pub call-fault : (why : Refusal) → ArgsRead s e (n + 1) (m + 3) d b inner (Err why)
                → NodeRead s at n m d d' (node_at look s (levels_left depth) at n) (Err why)
            unfolding NodeRead ArgsRead
            call-fault why read = called ∙ ap (λ x. and_then x (λ es. done (call f es))) read

            pub call_node : (o : Past) → ArgsRead s e (n + 1) (m + 3) d b inner (Ok o)
                → (b₁ b₂ : List ℕ) → b₁ ≡ set b m call_tag → b₂ ≡ set b₁ (m + 1) f → d' ≡ set b₂ (m + 2) o.count
                → NodeRead s at n m d d' (node_at look s (levels_left depth) at n)
                (Ok (record { at = o.at; nodes = o.nodes; made = o.made; count = 1 }))
            unfolding bytes_of NodeRead ArgsRead
            call_node o x b₁ b₂ u v w =
                let q = placed s at run in
                record {
                  tree = call f x.tree;
                  is = called ∙ ap (λ x. and_then x (λ es. done (call f es))) x.is;
                  number_is = refl;
                  made-is = omega (arith, x.made-is);
                  written =
                      w
                      ∙ ap (λ l. set l (m + 2) o.count) (v ∙ ap (λ l. set l (m + 1) f) (u ∙ ap (λ l. set l m call_tag) x.written))
                      ∙ call-written d m f o.count (bytes_of_all x.tree)
                      ∙ ap (λ k. sets d m (call_tag ∷ f ∷ k ∷ bytes_of_all x.tree)) x.number_is;
                  moves = omega (arith, x.moves);
                  within = x.within;
                  grows = omega (arith, x.grows);
                  few = x.few;
                  room = x.room;
                }

  -- ---- arguments, each read by `node`

  module _ (node : ℕ → ℕ → Reading Tree) (at n m : ℕ) (d d' : List ℕ) where
    pub no_open : (t : Token) (p : ℕ) → t ≡ next s at → NoOpen t → p ≡ place t
        → ArgsRead s at n m d d' (brackets_at look s node at n) (Err (Misplaced p))
    unfolding brackets_at ArgsRead
    no_open t p e h q =
        let k : ℕ → Reading Trees = λ inside. bracketed node n inside (next s inside) in
        sym (ap (λ t. on_open t k) e) ∙ open_misplaced t h k ∙ ap (refused 15) (sym q)

    module _ (o : ℕ) (bracket : Open o ≡ next s at) (t : Token) (first : t ≡ next s (o + 1)) where
      opened : brackets_at look s node at n ≡ bracketed node n (o + 1) t
      unfolding brackets_at
      opened =
          sym (ap (λ t. on_open t (λ inside. bracketed node n inside (next s inside))) bracket)
          ∙ sym (ap (bracketed node n (o + 1)) first)

      pub empty_brackets : (p : ℕ) → t ≡ Close p → n ≤ most_nodes → m ≤ 3 * n → d' ≡ d
          → ArgsRead s at n m d d' (brackets_at look s node at n) (Ok (record { at = p + 1; nodes = n; made = m; count = 0 }))
      unfolding bytes_of count ArgsRead
      empty_brackets p c few room w =
          let a = placed s at bracket in
          let q = placed s (o + 1) (sym c ∙ first) in
          record {
            tree = none;
            is = opened ∙ ap (bracketed node n (o + 1)) c;
            number_is = refl;
            made-is = omega arith;
            written = w;
            moves = omega arith;
            within = omega arith;
            grows = omega arith;
            few = few;
            room = room;
          }

      pub full_brackets : (r : Result Past Refusal) → NoClose t
          → ((left : ℕ) → most_nodes < left + n → ArgsRead s (o + 1) n m d d' (args_at look s node left (o + 1) n) r)
          → ArgsRead s at n m d d' (brackets_at look s node at n) r
      unfolding ArgsRead
      full_brackets r h read = go r (read (suc most_nodes) (omega arith))
        where
          handed : brackets_at look s node at n ≡ args_at look s node (suc most_nodes) (o + 1) n
          handed = opened ∙ no_close t h (λ behind. done none behind n) (args_at look s node (suc most_nodes) (o + 1) n)

          go : (r : Result Past Refusal) → ArgsRead s (o + 1) n m d d' (args_at look s node (suc most_nodes) (o + 1) n) r
              → ArgsRead s at n m d d' (brackets_at look s node at n) r
          go (Err why) x = handed ∙ x
          go (Ok p) x = let a = placed s at bracket in went-later handed (omega arith) x

  module _ (node : ℕ → ℕ → Reading Tree) (at n m : ℕ) (few : n ≤ most_nodes) (d a : List ℕ) where
    pub argument-fault : (d' : List ℕ) (why : Refusal) → NodeRead s at n m d a (node at n) (Err why)
        → (left : ℕ) → most_nodes < left + n → ArgsRead s at n m d d' (args_at look s node left at n) (Err why)
    unfolding args_at NodeRead ArgsRead
    argument-fault d' why one zero h = absurd (omega arith)
    argument-fault d' why one (suc left) h =
        ap (λ x. and_then x (λ e next_at so_far. following node left e so_far (next s next_at))) one

    module _ (o : Past) (one : NodeRead s at n m d a (node at n) (Ok o)) (t : Token) (token : t ≡ next s o.at) where
      pub argument : Went bytes_of (λ e. 1) s at n m d a (node at n) o
      unfolding NodeRead
      argument = one

      onward : (left : ℕ) → args_at look s node (suc left) at n
          ≡ following node left argument.tree o.nodes t
      unfolding args_at
      onward left =
          ap (λ x. and_then x (λ e next_at so_far. following node left e so_far (next s next_at))) argument.is
          ∙ sym (ap (following node left argument.tree o.nodes) token)

      pub no_comma : (d' : List ℕ) (p : ℕ) → NoMore t → p ≡ place t
          → (left : ℕ) → most_nodes < left + n → ArgsRead s at n m d d' (args_at look s node left at n) (Err (Misplaced p))
      unfolding ArgsRead
      no_comma d' p other q zero h = absurd (omega arith)
      no_comma d' p other q (suc left) h =
          onward left
          ∙ more-misplaced t other (λ behind. done (more argument.tree none) behind o.nodes)
          (λ behind. and_then (args_at look s node left behind o.nodes) (λ es. done (more argument.tree es)))
          ∙ ap (refused 15) (sym q)

      pub last-argument : (p : ℕ) → t ≡ Close p
          → (left : ℕ) → most_nodes < left + n → ArgsRead s at n m d a (args_at look s node left at n)
          (Ok (record { at = p + 1; nodes = o.nodes; made = o.made; count = o.count }))
      unfolding bytes_of count ArgsRead
      last-argument p c zero h = absurd (omega arith)
      last-argument p c (suc left) h =
          let x = argument in
          let q = placed s o.at (sym c ∙ token) in
          record {
            tree = more x.tree none;
            is =
                onward left
                ∙ ap (following node left x.tree o.nodes) c;
            number_is = x.number_is;
            made-is = omega (arith, x.made-is, length-append (bytes_of x.tree) []);
            written = x.written ∙ ap (sets d m) (sym (append-nil (bytes_of x.tree)));
            moves = omega (arith, x.moves);
            within = omega arith;
            grows = x.grows;
            few = x.few;
            room = x.room;
          }

      module _ (p : ℕ) (comma : t ≡ Comma p) (b : List ℕ) where
        -- the others are read with any number left that suffices
        abbrev Rest : Result Past Refusal → Type 0
        Rest r = (left : ℕ) → most_nodes < left + o.nodes → ArgsRead s (p + 1) o.nodes o.made a b (args_at look s node left (p + 1) o.nodes) r

        enough : (r : Result Past Refusal) → Rest r → (left : ℕ) → most_nodes < suc left + n
            → ArgsRead s (p + 1) o.nodes o.made a b (args_at look s node left (p + 1) o.nodes) r
        enough r rest left h = rest left (omega (arith, argument.grows, argument.number_is))

        another : (left : ℕ) → args_at look s node (suc left) at n
            ≡ and_then (args_at look s node left (p + 1) o.nodes) (λ es. done (more argument.tree es))
        another left =
            onward left
            ∙ ap (following node left argument.tree o.nodes) comma

        pub others-fault : (d' : List ℕ) (why : Refusal) → Rest (Err why)
            → (left : ℕ) → most_nodes < left + n → ArgsRead s at n m d d' (args_at look s node left at n) (Err why)
        unfolding ArgsRead
        others-fault d' why rest zero h = absurd (omega arith)
        others-fault d' why rest (suc left) h =
            another left
            ∙ ap (λ x. and_then x (λ es. done (more argument.tree es))) (enough (Err why) rest left (omega arith))

        pub others : (q : Past) → Rest (Ok q)
            → (left : ℕ) → most_nodes < left + n → ArgsRead s at n m d b (args_at look s node left at n)
            (Ok (record { at = q.at; nodes = q.nodes; made = q.made; count = q.count + 1 }))
        unfolding bytes_of count ArgsRead
        others o' rest zero h = absurd (omega arith)
        others o' rest (suc left) h =
            let x = argument in
            let y = enough (Ok o') rest left (omega arith) in
            let q = placed s o.at (sym comma ∙ token) in
            record {
              tree = more x.tree y.tree;
              is = another left ∙ ap (λ x. and_then x (λ es. done (more argument.tree es))) y.is;
              number_is = omega (arith, y.number_is);
              made-is = omega (arith, x.made-is, y.made-is, length-append (bytes_of x.tree) (bytes_of_all y.tree));
              written =
                  y.written
                  ∙ ap₂ (λ l i. sets l i (bytes_of_all y.tree)) x.written x.made-is
                  ∙ sym (sets_append d m (bytes_of x.tree) (bytes_of_all y.tree));
              moves = omega (arith, x.moves, y.moves);
              within = y.within;
              grows = omega (arith, x.grows, x.number_is, y.grows);
              few = y.few;
              room = y.room;
            }
