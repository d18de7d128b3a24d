-- What the proofs of several functions use.
mod AskedLists
mod AskedRegulars
mod ByteRules
mod ListedRules
