-- Digits, fields and rows, and what is read off them.
pub mod Checks
pub mod Conjunctions
pub mod Digits
pub mod LinesRead
pub mod Numbers
pub mod Passes
pub mod Readings
pub mod Refusals
pub mod RowsLeft
pub mod Spelled
pub mod Stopping
