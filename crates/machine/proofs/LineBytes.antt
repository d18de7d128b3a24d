-- The bytes of lines one after the other. Assumes nothing.
use mathlib.Core.Path.{◌≡◌, refl, sym}
use mathlib.Core.List.{List, [], ◌∷◌, ◌++◌, append_assoc}
use Rattle.machine.specs.Line.{Line, four_bytes, encode}

pub encode_append : (ls ls' : List Line) → encode (ls ++ ls') ≡ encode ls ++ encode ls'
unfolding encode
encode_append [] ls' = refl
encode_append (l ∷ ls) ls' = rw (encode_append ls ls') (sym (append_assoc (four_bytes l) (encode ls) (encode ls')))
