-- Bans, in words of their own.
pub mod BanDue
pub mod BansMade
pub mod NoneDue
pub mod Emptied
pub mod ShownBans
