pub mod Laws
pub mod Calls
pub mod Refusals
