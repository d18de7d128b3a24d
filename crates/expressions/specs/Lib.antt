-- What the contracts of this crate say: expressions and their reading.
pub mod Tree
pub mod Known
pub mod Limits
pub mod Reading
pub mod ReadPaper
pub mod private
