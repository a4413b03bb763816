pub mod Guarantees
pub mod Recording
pub mod Moving
pub mod Running
