pub mod Decoding
pub mod AllSteps
