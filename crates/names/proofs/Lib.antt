-- Laws of the names that other crates use, and that an answer is determined by its paper.
mod Tests
mod Lookups
pub mod SameBytes
pub mod Named
pub mod BuiltIn
pub mod WordPapers
