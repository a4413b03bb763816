pub mod Limits
pub mod Input
pub mod Faults
pub mod Answers
pub mod Parts
pub mod Recorded
