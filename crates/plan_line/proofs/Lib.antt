pub mod Told
pub mod Keys
pub mod Fields
pub mod Starts
pub mod Ops
pub mod Ranges
pub mod InRange
pub mod Refusals
