-- Threads that end, and pages and rings that are closed.
pub mod Closed
pub mod Ends
