-- Laws of masks, scalars and answers that several proofs use.
pub mod Table
pub mod Filters
pub mod Sifts
pub mod Masks
pub mod Meets
pub mod Bits
pub mod Walks
pub mod Fills
pub mod Scalars
pub mod Papers
pub mod Prefixes
pub mod HandedOn
