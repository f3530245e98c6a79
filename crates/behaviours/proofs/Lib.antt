pub mod Codes
pub mod Clauses
pub mod Operands
pub mod Pass
pub mod Passes
