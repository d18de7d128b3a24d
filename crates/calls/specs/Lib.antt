-- What a reader must believe of this crate.
pub mod Choice
pub mod Call
pub mod OutcomePaper
pub mod CallPaper
pub mod SurvivorsPaper
pub mod private
