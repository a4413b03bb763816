pub mod Commands
pub mod Rings
pub mod Limits
