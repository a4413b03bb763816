-- Caps, in words of their own.
pub mod Capped
pub mod CapsDue
pub mod Followed
pub mod Held
