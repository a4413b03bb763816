pub mod Pairs
pub mod Ends
pub mod Workers
pub mod Together
pub mod Sent
