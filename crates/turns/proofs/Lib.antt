pub mod Changes
pub mod Looking
pub mod Recv
pub mod Stores
pub mod Turns
