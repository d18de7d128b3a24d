-- The laws that the proofs of the functions cite.
pub mod LineBytes
pub mod Walk
pub mod Turned
pub mod Likeness
pub mod TopLast
pub mod Stacks
pub mod Matching
pub mod RuleRecords
pub mod Outcomes
