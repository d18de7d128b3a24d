-- What a reader must believe of this crate.
pub mod Regular
pub mod SetPaper
pub mod private
