pub mod Loops
pub mod Laws
pub mod Listings
pub mod Examples
