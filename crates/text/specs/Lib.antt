-- What the contracts of this crate say: tokens, which texts spell which trees, reading a text and writing one.
pub mod Tokens
pub mod Grammar
pub mod Reading
pub mod Writing
pub mod TextPaper
pub mod Lent
pub mod private
