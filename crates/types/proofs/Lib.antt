-- Laws of constructors, type codes and combinations that several proofs use.
pub mod Constructors
pub mod TypeCodes
pub mod Sizes
pub mod Codes
pub mod Operands
pub mod Conversions
pub mod Combinations
pub mod Agreeing
pub mod TypePapers
