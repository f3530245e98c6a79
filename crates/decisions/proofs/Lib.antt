pub mod Before
pub mod Laws
pub mod Meanings
pub mod Named
