pub mod Misplaced
pub mod Read
