-- The number of a vector's components, or of a matrix's columns or rows.
use Rattle.std.specs.Prelude.{ℕ}
use Rattle.functions.specs.declared.utils.VectorSize.{VectorSize}
use Rattle.functions.specs.declared.utils.VectorSize.TheVariants.{Bi, Tri, Quad}

abbrev pub size_number : VectorSize → ℕ
size_number Bi = 2
size_number Tri = 3
size_number Quad = 4
