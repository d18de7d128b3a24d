-- Document 02, (i), writing a tree: 'the writer puts one after each comma only', and, by (v), one between `measured` and its type, and no
-- other space.
use Rattle.std.specs.Prelude.{ℕ, Bool, true, false, List, [], ◌∷◌, ◌++◌}
use Rattle.names.specs.Names.{type_name, function_name, measured_name}
use Rattle.expressions.specs.Tree.{Tree, Trees, leaf, call, none, more}
use Rattle.text.specs.Tokens.{space_byte, open_byte, close_byte, comma_byte}

-- a leaf, measured or not, whose type is spelled so
abbrev pub leaf_text : Bool → List ℕ → List ℕ
leaf_text false name = name
leaf_text true name = measured_name ++ space_byte ∷ name

-- with a way of spelling types and functions
module _ (type_spelt function_spelt : ℕ → List ℕ) where
  unfoldable mutual
    pub text_with : Tree → List ℕ
    text_with (leaf l) = leaf_text l.measured (type_spelt l.code)
    text_with (call f es) = function_spelt f ++ open_byte ∷ inside_with es

    -- the arguments and the closing bracket, from behind the opening one on
    pub inside_with : Trees → List ℕ
    inside_with none = close_byte ∷ []
    inside_with (more e es) = text_with e ++ others_with es

    -- behind an argument
    pub others_with : Trees → List ℕ
    others_with none = close_byte ∷ []
    others_with (more e es) = comma_byte ∷ space_byte ∷ text_with e ++ others_with es

-- with the built-in names
abbrev pub text_of : Tree → List ℕ
text_of e = text_with type_name function_name e
