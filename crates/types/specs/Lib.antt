-- What a reader must believe of this crate.
pub mod Domain
pub mod Operand
pub mod TypeCode
pub mod Constructor
pub mod Conversion
pub mod TypePaper
pub mod private
