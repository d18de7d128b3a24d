-- What the contracts of this crate say: the lines of a worksheet and the strict machine; `private` holds what the contracts
-- of the crate's own functions say.
pub mod Line
pub mod Machine
pub mod Run
pub mod private
