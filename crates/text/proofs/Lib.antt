-- Laws of the definitions of this crate, which the proofs of its functions cite; that an answer is determined by its paper; that what is
-- made fits; and how long a text is.
mod ReaderSteps
mod Stores
mod TextReadings
mod Turns
mod WholeTexts
pub mod Fits
pub mod SpeltTexts
pub mod TextPapers
pub mod Tokens
