pub mod Faults
pub mod Gates
pub mod Promises
