-- Readings of texts, of the very definitions that the promises of `read_text` and `write_text` cite: `asked` asks them, and `paper` is what
-- document 02, (i) and (v), says; a row for a text, and at the end one for what is written.
use Rattle.std.specs.Prelude.{true, false, List, [], ◌∷◌, ◌++◌, ℕ, zero, suc, replicate}
use Rattle.names.specs.Names.{bytes}
use Rattle.expressions.specs.Tree.{Tree, leaf, call, none, more}
use Rattle.expressions.specs.Reading.{Expression, read, refused_as}
use Rattle.text.specs.Tokens.{space_byte}
use Rattle.text.specs.Reading.{reading}
use Rattle.text.specs.Writing.{text_of}

-- `abs(` so many times
abbrev pub nested : ℕ → List ℕ
nested zero = []
nested (suc n) = bytes "abs(" ++ nested n

-- leaves that are constant, and measured ones
abbrev constant : ℕ → Tree
constant t = leaf (record { code = t; measured = false })

abbrev measured : ℕ → Tree
measured t = leaf (record { code = t; measured = true })

-- call 4 of 0, 5 and 0, the second of which is a leaf of either kind
abbrev clamp : Tree → Tree
clamp e = call 4 (more (constant 0) (more e (more (constant 0) none)))

unfoldable pub asked : List Expression
asked =
    reading (bytes "clamp(abstract-int, u32, abstract-int)")
    ∷ reading (bytes "  clamp ( abstract-int ,u32,  abstract-int ) ")
    ∷ reading (bytes "") ∷ reading (bytes "  ")
    ∷ reading (bytes " u32 ") ∷ reading (bytes "mat2x3<f16>") ∷ reading (bytes "other") ∷ reading (bytes "abs()")
    ∷ reading (bytes "u32(") ∷ reading (bytes "abs") ∷ reading (bytes "abs(u32") ∷ reading (bytes "abs(u32,)") ∷ reading (bytes "abs(,")
    ∷ reading (bytes "abs u32") ∷ reading (bytes "u32 u32") ∷ reading (bytes "abs())")
    ∷ reading (bytes "ABS(u32)") ∷ reading (bytes "frobnicate(u32)") ∷ reading (bytes "abs(u3)")
    ∷ reading (nested 16 ++ bytes "u32") ∷ reading (nested 16 ++ bytes "x") ∷ reading (nested 16) ∷ reading (nested 15 ++ bytes "x")
    ∷ reading (replicate 4097 space_byte)
    ∷ reading (bytes "clamp(abstract-int, measured  u32, abstract-int)") ∷ reading (bytes " measured f32 ") ∷ reading (bytes "measured abstract-int")
    ∷ reading (bytes "measured") ∷ reading (bytes "abs(measured )") ∷ reading (bytes "measured(u32)") ∷ reading (bytes "measured,")
    ∷ reading (bytes "measured measured u32") ∷ reading (bytes "measured abs(u32)") ∷ reading (bytes "measured frobnicate")
    ∷ reading (bytes "measuredu32") ∷ reading (bytes "u32 measured")
    ∷ reading (nested 16 ++ bytes "measured x") ∷ reading (nested 15 ++ bytes "measured x")
    ∷ []

unfoldable pub paper : List Expression
paper =
    -- spaces stand between tokens
    read (clamp (constant 5))
    ∷ read (clamp (constant 5))
    -- no node: 15 at the end
    ∷ refused_as 15 0 ∷ refused_as 15 2
    -- leaves 5, 69 and 156, and function 0 of nothing
    ∷ read (constant 5) ∷ read (constant 69) ∷ read (constant 156) ∷ read (call 0 none)
    -- misplaced or missing: 15 at the token or at the end
    ∷ refused_as 15 3 ∷ refused_as 15 3 ∷ refused_as 15 7 ∷ refused_as 15 8 ∷ refused_as 15 4
    ∷ refused_as 15 4 ∷ refused_as 15 4 ∷ refused_as 15 5
    -- an unknown run where a node may begin: 14
    ∷ refused_as 14 0 ∷ refused_as 14 0 ∷ refused_as 14 4
    -- the 17th level: 9, before 14; at the end 15; on the 16th 14
    ∷ refused_as 9 64 ∷ refused_as 9 64 ∷ refused_as 15 64 ∷ refused_as 14 60
    -- too long: 15 at the limit
    ∷ refused_as 15 4096
    -- `measured` and a type; that the last is abstract is no matter of texts
    ∷ read (clamp (measured 5)) ∷ read (measured 8) ∷ read (measured 0)
    -- behind `measured` no type: 15 at the token or at the end
    ∷ refused_as 15 8 ∷ refused_as 15 13 ∷ refused_as 15 8 ∷ refused_as 15 8
    ∷ refused_as 15 9 ∷ refused_as 15 9 ∷ refused_as 15 9
    -- without the space it is an unknown run; misplaced as any run
    ∷ refused_as 14 0 ∷ refused_as 15 4
    -- the node begins at `measured`: 9 is there
    ∷ refused_as 9 64 ∷ refused_as 15 69
    ∷ []

-- written with a space after each comma and behind `measured` only
unfoldable pub written : List (List ℕ)
written = text_of (clamp (constant 5)) ∷ text_of (clamp (measured 5)) ∷ text_of (call 0 (more (call 0 none) none)) ∷ []

unfoldable pub paper_text : List (List ℕ)
paper_text =
    bytes "clamp(abstract-int, u32, abstract-int)" ∷ bytes "clamp(abstract-int, measured u32, abstract-int)" ∷ bytes "abs(abs())" ∷ []
