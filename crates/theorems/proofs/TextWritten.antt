-- What is written is a layout of its tree. Assumes nothing.
use mathlib.Core.Path.{◌≡◌, refl, sym, ap₂, ◌∙◌}
use mathlib.Core.Bool.{Bool, true, false}
use mathlib.Core.List.{List, ◌∷◌, ◌++◌, append-nil}
use Prim.Native.Nat.{ℕ}
use native.Mathlib.Omega.{arith}
use Rattle.functions.specs.Functions.{function_count}
use Rattle.names.specs.Names.{type_name, function_name}
use Rattle.expressions.specs.Tree.{Tree, Trees, leaf, call, none, more}
use Rattle.expressions.specs.Limits.{Within}
use Rattle.text.specs.Tokens.{open_byte, comma_byte}
use Rattle.text.specs.Grammar.{spaces, Layout, Others, leaf_laid, measured_laid, empty_laid, call_laid, close_laid, comma_laid, laid, laid_others, tree_of, trees_of, Spells}
use Rattle.text.specs.Writing.{leaf_text, text_with, inside_with, others_with, text_of}
use Rattle.text.proofs.SpeltTexts.{text-short}

-- the writer's layout: a space in front of each argument but the first, and one between `measured` and its type
abbrev neat_leaf : ℕ → Bool → ℕ → Layout
neat_leaf k false t = leaf_laid k t
neat_leaf k true t = measured_laid k 0 t

unfoldable mutual
  neat : ℕ → Tree → Layout
  neat k (leaf l) = neat_leaf k l.measured l.code
  neat k (call f es) = neat_call k f es

  neat_call : ℕ → ℕ → Trees → Layout
  neat_call k f none = empty_laid k f 0 0
  neat_call k f (more e es) = call_laid k f 0 (neat 0 e) (neat_others es)

  neat_others : Trees → Others
  neat_others none = close_laid 0
  neat_others (more e es) = comma_laid 0 (neat 1 e) (neat_others es)

leaf-tree : (k : ℕ) (measured : Bool) (t : ℕ) → tree_of (neat_leaf k measured t) ≡ leaf (record { code = t; measured = measured })
unfolding tree_of
leaf-tree k false t = refl
leaf-tree k true t = refl

mutual
  unfolding neat tree_of

  neat-tree : (k : ℕ) (e : Tree) → tree_of (neat k e) ≡ e
  neat-tree k (leaf l) = leaf-tree k l.measured l.code
  neat-tree k (call f es) = neat_call_lem k f es

  neat_call_lem : (k f : ℕ) (es : Trees) → tree_of (neat_call k f es) ≡ call f es
  neat_call_lem k f none = refl
  neat_call_lem k f (more e es) = ap₂ (λ x q. call f (more x q)) (neat-tree 0 e) (neat-trees es)

  neat-trees : (es : Trees) → trees_of (neat_others es) ≡ es
  neat-trees none = refl
  neat-trees (more e es) = ap₂ more (neat-tree 1 e) (neat-trees es)

abbrev inside : Trees → List ℕ
inside es = inside_with type_name function_name es

abbrev others : Trees → List ℕ
others es = others_with type_name function_name es

leaf_text_lem : (k : ℕ) (measured : Bool) (t : ℕ) → laid (neat_leaf k measured t) ≡ spaces k ++ leaf_text measured (type_name t)
unfolding laid
leaf_text_lem k false t = refl
leaf_text_lem k true t = refl

mutual
  unfolding neat laid text_with

  neat-text : (k : ℕ) (e : Tree) → laid (neat k e) ≡ spaces k ++ text_of e
  neat-text k (leaf l) = leaf_text_lem k l.measured l.code
  neat-text k (call f es) = neat-inside k f es

  neat-inside : (k f : ℕ) (es : Trees) → laid (neat_call k f es) ≡ spaces k ++ (function_name f ++ open_byte ∷ inside es)
  neat-inside k f none = refl
  neat-inside k f (more e es) = ap₂ (λ x q. spaces k ++ (function_name f ++ open_byte ∷ (x ++ q))) (neat-text 0 e) (neat_others_lem es)

  neat_others_lem : (es : Trees) → laid_others (neat_others es) ≡ others es
  neat_others_lem none = refl
  neat_others_lem (more e es) = ap₂ (λ x q. comma_byte ∷ (x ++ q)) (neat-text 1 e) (neat_others_lem es)

-- so it is spelled
pub written_spells : (e : Tree) → Within function_count e → Spells (text_of e) e
written_spells e within = record {
  layout = neat 0 e;
  behind = 0;
  tree_is = neat-tree 0 e;
  text-is = sym (neat-text 0 e) ∙ sym (append-nil (laid (neat 0 e)));
  within = within;
  short = omega (arith, text-short e within.known, within.few);
}
