-- Laws of rules that several proofs use.
pub mod Rules
pub mod Records
pub mod RulePapers
