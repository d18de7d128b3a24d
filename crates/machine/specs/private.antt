-- What the contracts of the crate's own functions say: the machine's stack as an array with a count.
pub mod TopLast
pub mod MachineStack
