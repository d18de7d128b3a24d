-- What the proofs of several functions use, and that an answer is determined by its paper.
mod ByteMasks
pub mod Placed
pub mod MaskPapers
