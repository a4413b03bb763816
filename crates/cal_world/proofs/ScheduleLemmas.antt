-- What holds after each part of a list of events.
pub mod Chains
pub mod Floors
pub mod Invariant
pub mod Journalled
pub mod Journals
pub mod Kept
pub mod Moves
pub mod Nobody
pub mod Pasts
pub mod Reading
pub mod Running
pub mod Safety
pub mod SinceDecide
pub mod Walk
