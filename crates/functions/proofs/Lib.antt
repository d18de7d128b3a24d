-- Laws of the functions and their rules that several proofs use.
pub mod Indices
pub mod NthBits
pub mod Ranks
pub mod Database
pub mod FunctionPapers
pub mod RuleTotals
pub mod Runs
pub mod Places
