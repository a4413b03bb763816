-- A pass turn by turn, and how things stand at a turn.
pub mod Turns
pub mod AssuredTurns
pub mod PolicyTurns
pub mod Walks
pub mod Asked
pub mod Claims
