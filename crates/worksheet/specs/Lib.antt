-- What the contracts of this crate say: the type of an expression and its worksheet.
pub mod Places
pub mod Typer
pub mod Answer
pub mod Typing
pub mod private
