-- What a reader must believe of this crate; `private` holds what the contracts of the crate's own functions say.
pub mod Sequences
pub mod ListedRules
pub mod FunctionPaper
pub mod Functions
pub mod RuleTotal
pub mod private
