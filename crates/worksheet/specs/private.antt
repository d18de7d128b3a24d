-- What the private functions of this crate require and promise: no reader of the public promises needs it.
pub mod Room
pub mod Sheet
pub mod Stack
pub mod SecondPass
