-- The plain data of a world, one event more.
pub mod Noted
pub mod Present
pub mod Sent
