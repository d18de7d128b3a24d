-- Laws of calls that several proofs use.
pub mod ListsOf
pub mod Firsts
pub mod Narrowing
pub mod Positions
pub mod Resolving
pub mod RegularResolving
pub mod ListResolving
pub mod Surviving
pub mod RegularCalls
pub mod ListCalls
pub mod Callables
pub mod FunctionCalls
pub mod OutcomePapers
pub mod CallPapers
pub mod CallTests
pub mod OperandTests
