-- What a reader must believe of this crate.
pub mod Signature
pub mod Rule
pub mod Verdict
pub mod Listing
pub mod RulePaper
