-- What the contracts of the crate's own functions say.
pub mod Built
pub mod Sizes
