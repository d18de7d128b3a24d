-- The laws that the proofs of the functions cite.
pub mod Room
pub mod Written
pub mod Conversions
pub mod CallFacts
pub mod Calls
pub mod Pushes
pub mod Typings
pub mod Passes
pub mod Whole
pub mod Lengths
