pub mod Answers
pub mod Reaches
pub mod Offers
pub mod Counts
