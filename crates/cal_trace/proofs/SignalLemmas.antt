-- Files of signals.
pub mod Accepted
pub mod LastShown
pub mod NextLook
