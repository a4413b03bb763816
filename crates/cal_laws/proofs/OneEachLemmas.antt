-- What one pass sends, and in which order.
pub mod Sending
pub mod Turns
