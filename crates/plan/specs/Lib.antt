pub mod Reading
pub mod Plans
pub mod Faults
pub mod Rests
