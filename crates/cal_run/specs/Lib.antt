pub mod Workers
pub mod Parts
pub mod Rounds
pub mod Order
pub mod Collecting
pub mod Outcome
pub mod Closing
pub mod Limits
