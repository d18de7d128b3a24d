-- What private functions require and promise, here and in the second pass: no reader of the public promises needs it.
pub mod Step
