pub mod Ops
pub mod Lines
pub mod Results
