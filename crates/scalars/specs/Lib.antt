-- What a reader must believe of this crate.
pub mod Mask
pub mod Domain
pub mod Refusal
pub mod OneBits
pub mod Scalar
pub mod Paper
pub mod Walk
