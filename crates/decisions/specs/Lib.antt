pub mod Records
pub mod Answers
pub mod Decided
pub mod Told
