-- Laws of Lists and of their steps that several proofs use.
pub mod Entries
pub mod Lists
pub mod Steps
pub mod StepsTogether
pub mod Everies
pub mod Cleans
pub mod Verdicts
pub mod TypesAt
pub mod Expanding
pub mod Expansions
pub mod ChosenPapers
