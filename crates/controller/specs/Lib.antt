pub mod Program
pub mod Calls
