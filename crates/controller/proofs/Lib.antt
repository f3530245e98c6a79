pub mod Laws
pub mod Ramp
pub mod Short
