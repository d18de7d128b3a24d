-- Laws of Regular sets that several proofs use.
pub mod Regulars
pub mod Puts
pub mod Conclusions
pub mod Listings
pub mod RegularCodes
pub mod RegularSteps
pub mod RegularRules
pub mod SetPapers
