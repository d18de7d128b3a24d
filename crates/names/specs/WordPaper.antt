-- The values of what a run names: 0 and a type's code, 1 and a function's number, or none.
use Rattle.std.specs.Prelude.{[], ◌∷◌, Option, Some, None}
use Rattle.scalars.specs.Paper.{Paper, accepted}
use Rattle.names.specs.declared.index.Word.{Word}
use Rattle.names.specs.declared.index.Word.TheVariants.{TypeName, FunctionName}

abbrev pub word_paper : Option Word → Paper
word_paper (Some (TypeName t)) = accepted (0 ∷ t ∷ [])
word_paper (Some (FunctionName f)) = accepted (1 ∷ f ∷ [])
word_paper None = accepted []
