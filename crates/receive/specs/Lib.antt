pub mod Found
pub mod Kinds
pub mod Waiting
