-- What the private functions of this crate require and promise: no reader of the public promises needs it.
pub mod Placed
pub mod ReadStep
pub mod WriteStep
