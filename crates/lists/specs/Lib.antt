-- What a reader must believe of this crate.
pub mod Entry
pub mod List
pub mod Expansion
pub mod ChosenPaper
pub mod AnyPaper
pub mod AnyOverloadSet
pub mod private
