-- Document 02, (i), of the entry points themselves: `read_text` and `write_text`. Texts says it of the definitions. Take any text s or bytes b
-- and any lent buffer d, and any answer r and final buffer d' that the promise of the function permits for them.
--
-- * `read_text` accepts with n exactly when s spells a tree whose n bytes d has room for. Then d' begins with these bytes, and behind them it
--   is as d was. Where d has too little room, the answer is refusal 10, at the bytes needed; 192 bytes always suffice. A text that spells no
--   tree is refused by its first fault, with 9, 14 or 15, at a place within it; one that is too long with 15, at 4,096. There is no other
--   refusal: whether a measured leaf is abstract, 17, is asked of the bytes. On every refusal d' is d.
-- * `write_text` accepts with n exactly when the first pass reads from b a tree whose text of n bytes d has room for. Then d' begins with the
--   text, and behind it it is as d was. Where d has too little room, the answer is refusal 10, at the bytes needed; 2,112 bytes always
--   suffice, and no text is longer than the 4,096 that are read. What the first pass refuses is refused with the same number and place. On
--   every refusal d' is d.
-- * There and back. Where `write_text` has accepted b, any answer that the promise of `read_text` permits for the text in d' and a buffer of
--   at least the length of b is accepted with the length of b, and the buffer then begins with b.
use Rattle.std.specs.Prelude.{◌≡◌, ◌↔◌, ◌⊎◌, List, [], ◌∷◌, ◌++◌, ℕ, ◌*◌, ◌≤◌, ◌<◌, length, take, drop, Result}
use Rattle.scalars.specs.Paper.{unused}
use Rattle.scalars.specs.Paper as paper
use Rattle.functions.specs.Functions.{function_count}
use Rattle.expressions.specs.Tree.{Tree, bytes_of, most_nodes}
use Rattle.expressions.specs.Reading.{read, refused_as, expression_of}
use Rattle.scalars.specs.declared.refusal.Refusal.{Refusal}
use Rattle.text.specs.Grammar.{most_bytes, Spells}
use Rattle.text.specs.TextPaper.{text_paper}
use Rattle.text.specs.Writing.{text_of}
use Rattle.text.specs.contracts as text
use Rattle.text.proofs as text_proofs
use Rattle.theorems.specs.ByContract.{Promises}
use Rattle.theorems.specs.Texts.{FirstFault}

-- what is wanted of a tree, its bytes or its text, goes into the lent buffer d, where the tree is the one that is given
pub record Lends (Given : Tree → Type 0) (wanted : Tree → List ℕ) (d : List ℕ) (r : Result ℕ Refusal) (d' : List ℕ) : Type 0 where
  pub accepted : (n : ℕ) → text_paper r ≡ paper.accepted (n ∷ []) ↔ ((e : Tree) × Given e × (length (wanted e) ≡ n) × (n ≤ length d))
  pub in_front : (e : Tree) → Given e → length (wanted e) ≤ length d → d' ≡ wanted e ++ drop (length (wanted e)) d
  pub short : (e : Tree) → Given e → length d < length (wanted e) → text_paper r ≡ paper.refusal 10 (length (wanted e)) (unused ∷ [])
  pub kept : (n p : ℕ) → text_paper r ≡ paper.refusal n p (unused ∷ []) → d' ≡ d

-- the text s is read
pub record Reads (s d : List ℕ) (r : Result ℕ Refusal) (d' : List ℕ) : Type 0 where
  pub lends : Lends (Spells s) bytes_of d r d'
  pub suffices : 3 * most_nodes ≤ length d → (e : Tree) → Spells s e → length (bytes_of e) ≤ length d
  pub faulty : length s ≤ most_bytes → ((e : Tree) → Spells s e → ⊥)
      → (n : ℕ) × (p : ℕ) × (text_paper r ≡ paper.refusal n p (unused ∷ [])) × ((n ≡ 9) ⊎ (n ≡ 14) ⊎ (n ≡ 15)) × (p ≤ length s) × FirstFault s n p
  pub too_long : most_bytes < length s → text_paper r ≡ paper.refusal 15 most_bytes (unused ∷ [])
  pub numbers : (n p : ℕ) → text_paper r ≡ paper.refusal n p (unused ∷ []) → (n ≡ 9) ⊎ (n ≡ 10) ⊎ (n ≡ 14) ⊎ (n ≡ 15)

-- the bytes b are written
pub record Writes (b d : List ℕ) (r : Result ℕ Refusal) (d' : List ℕ) : Type 0 where
  pub lends : Lends (λ e. expression_of function_count b ≡ read e) text_of d r d'
  pub suffices : 33 * most_nodes ≤ length d → (e : Tree) → expression_of function_count b ≡ read e → length (text_of e) ≤ length d
  pub within : (e : Tree) → expression_of function_count b ≡ read e → length (text_of e) ≤ most_bytes
  pub faulty : (n p : ℕ) → expression_of function_count b ≡ refused_as n p → text_paper r ≡ paper.refusal n p (unused ∷ [])
  pub back : (n : ℕ) → text_paper r ≡ paper.accepted (n ∷ [])
      → Promises text.read_text.ended text_proofs.read_text.Reads.Post
      (λ κs a q v. a.0.now ≡ take n d' → length b ≤ length a.1.0.now
      → (text_paper q ≡ paper.accepted (length b ∷ [])) × (take (length b) v.1.0.now ≡ b))

-- of every call that the contracts permit: its text or bytes, and its buffer before and after
pub record Theorem : Type 0 where
  pub reads : Promises text.read_text.ended text_proofs.read_text.Reads.Post (λ κs a r v. Reads a.0.now a.1.0.now r v.1.0.now)
  pub writes : Promises text.write_text.ended text_proofs.write_text.Reads.Post (λ κs a r v. Writes a.0.now a.1.0.now r v.1.0.now)
