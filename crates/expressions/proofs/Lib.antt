-- The laws that the proofs of the functions cite, here and in the second pass.
pub mod Bytes
pub mod Sound
pub mod Answers
pub mod Steps
