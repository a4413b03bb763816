pub mod Comes
pub mod Reached
