-- What the contracts of this crate say: the names, and what a run of bytes names.
pub mod Names
pub mod WordPaper
pub mod Spelling
pub mod Index
