-- What private functions require and promise. Nobody need believe it to rely on a public one.
pub mod Tested
pub mod TestedPaper
